-- What the tests of a call come to is its answer.
-- Assumes nothing.
use Prim.Native.Nat.{ℕ, ◌+◌}
use mathlib.Core.Path.{◌≡◌, refl, ap, ◌∙◌}
use mathlib.Core.Bool.{Bool, true, false, cond}
use mathlib.Core.List.{List}
use native.Mathlib.Nat.{zero-add}
use lib.ListN.{length}
use lib.Dec.{ltb}
use Rattle.rules.specs.Book.{Verdict, Refused, Accepted, judge}
use Rattle.rules.specs.Fields.{fields_of}
use Rattle.rules.specs.Answer.{Answer}
use Rattle.rules.specs.Answer.{refused as refused01}
use Rattle.answers.specs.Answered.{Answered}
use Rattle.writing.specs.Written.{Wrote, written_front}
use Rattle.sheets.specs.Refusal as refusal
use Rattle.sheets.specs.Mark.{is_mark}
use Rattle.sheets.specs.Write.{sheet_of}
use Rattle.sheets.specs.Answers.{left, of_verdict, to_sheet}
use Rattle.sheets.specs.Shown.{sheet_size, sheet_length, IsAccepted}

-- an answer by its number and place, nothing written
pub kept_so : {a : Answer} {n place : ℕ} {entry exit : List ℕ} → a ≡ refused01 n place → exit ≡ entry → Answered a (record { number = n; place = place; length = 0 }) entry exit
kept_so e k = rw e (record { number = refl; place = refl; length = refl; buffer = k })

-- some bytes at the front, with a number and a place
pub left_so : {a : Answer} {n place next : ℕ} {entry exit : List ℕ} (s : List ℕ) → a ≡ left s n place → Wrote 0 s entry exit next →
    Answered a (record { number = n; place = place; length = next }) entry exit
left_so {a} {n} {place} {next} {entry} {exit} s e w =
    rw e (record { number = refl; place = refl; length = w.next ∙ zero-add (length s); buffer = w.whole ∙ written_front s entry })

module _ (book : List ℕ) (mark room : ℕ) where
  pub no_mark : is_mark mark ≡ false → to_sheet book mark room ≡ refused01 refusal.no_mark 0
  unfolding to_sheet
  no_mark e = rw e refl

  module _ (marked : is_mark mark ≡ true) where
    by_verdict : to_sheet book mark room ≡ of_verdict mark room book (judge book)
    unfolding to_sheet
    by_verdict = rw marked refl

    pub stopped : (n place : ℕ) → judge book ≡ Refused n place → to_sheet book mark room ≡ refused01 n place
    stopped n place e = by_verdict ∙ ap (of_verdict mark room book) e

    module _ (good : IsAccepted (judge book)) where
      accepted : to_sheet book mark room ≡ cond (ltb room (length (sheet_of mark book))) (refused01 refusal.no_result 0) (left (sheet_of mark book) 0 0)
      accepted = by_verdict ∙ go (judge book) good
        where
          go : (v : Verdict) → IsAccepted v → of_verdict mark room book v ≡ cond (ltb room (length (sheet_of mark book))) (refused01 refusal.no_result 0) (left (sheet_of mark book) 0 0)
          go (Refused n place) h = absurd h
          go (Accepted terms cs) h = refl

      pub no_room : ltb room (6 + sheet_size (fields_of book)) ≡ true → to_sheet book mark room ≡ refused01 refusal.no_result 0
      no_room e = accepted ∙ rw (sheet_length mark book, e) refl

      pub with_room : ltb room (6 + sheet_size (fields_of book)) ≡ false → to_sheet book mark room ≡ left (sheet_of mark book) 0 0
      with_room e = accepted ∙ ap (λ (b : Bool). cond b (refused01 refusal.no_result 0) (left (sheet_of mark book) 0 0)) (ap (ltb room) (sheet_length mark book) ∙ e)
