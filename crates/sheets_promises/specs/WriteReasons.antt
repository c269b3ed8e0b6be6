-- Why the call for a sheet refuses, both ways: 20 exactly where the byte is no mark, 23 exactly where a good book's sheet is longer than the buffer, and 0
-- exactly where it is written. The book's own table has no number above 13, so that none is taken for another.
-- Assumes nothing.
use Rattle.std.specs.Prelude.{ℕ, ◌≤◌, ◌<◌, ◌↔◌, ◌≡◌, List, Bool, cond}
use Rattle.std.proofs.Math.Path.{refl}
use Rattle.std.proofs.Math.Bool.{true, false}
use Rattle.std.proofs.Common.{arith}
use borrow.Author.Tests.{ltb-true, ltb-false, lt-ltb, le-ltb}
use Rattle.std.proofs.Math.Dec.{ltb}
use Rattle.std.proofs.Math.ListN.{length}
use Rattle.rules.specs.declared.Terms.{Terms}
use Rattle.rules.specs.Book.{Customer, Verdict, Refused, Accepted, judge}
use Rattle.rules.specs.Answer.{Answer, refused}
use Rattle.laws.specs.Sane.{refused_above}
use Rattle.sheets.specs.Mark.{is_mark}
use Rattle.sheets.specs.Write.{sheet_of}
use Rattle.sheets.specs.Answers.{left, of_verdict, to_sheet}
use Rattle.sheets_promises.specs.Numbers.{judge_small}

pub record Good (b : List ℕ) : Type 0 where
  pub terms : Terms
  pub customers : List Customer
  pub accepted : judge b ≡ Accepted terms customers

module _ (b : List ℕ) (m room : ℕ) where
  -- what there is to tell apart
  pub data Wrote : Answer → Type 0 where
    wrong_mark : is_mark m ≡ false → Wrote (refused 20 0)
    bad_book : {n p : ℕ} → is_mark m ≡ true → judge b ≡ Refused n p → Wrote (refused n p)
    no_room : is_mark m ≡ true → Good b → room < length (sheet_of m b) → Wrote (refused 23 0)
    written : is_mark m ≡ true → Good b → length (sheet_of m b) ≤ room → Wrote (left (sheet_of m b) 0 0)

  pub wrote : Wrote (to_sheet b m room)
  unfolding to_sheet
  wrote = go (is_mark m) refl (judge b) refl
    where
      fit : is_mark m ≡ true → Good b → (l : Bool) → ltb room (length (sheet_of m b)) ≡ l → Wrote (cond l (refused 23 0) (left (sheet_of m b) 0 0))
      fit k g true h = no_room k g (ltb-true room (length (sheet_of m b)) h)
      fit k g false h = written k g (ltb-false room (length (sheet_of m b)) h)

      go : (i : Bool) → is_mark m ≡ i → (v : Verdict) → judge b ≡ v → Wrote (cond i (of_verdict m room b v) (refused 20 0))
      go false i v e = wrong_mark i
      go true i (Refused n p) e = bad_book i e
      go true i (Accepted terms cs) e = fit i (record { terms = terms; customers = cs; accepted = e }) (ltb room (length (sheet_of m b))) refl

  -- "another byte in the call for C is 20 at 0, before all else"
  pub mark_20 : ((to_sheet b m room).number ≡ 20) ↔ (is_mark m ≡ false)
  unfolding to_sheet
  mark_20 = (go (to_sheet b m room) wrote, λ h. rw h)
    where
      go : (a : Answer) → Wrote a → a.number ≡ 20 → is_mark m ≡ false
      go a (wrong_mark i) e = i
      go a (bad_book {n = n} {p = p} i j) e = absurd (omega (arith, judge_small b n p j))
      go a (no_room i g h) e = absurd (omega arith)
      go a (written i g h) e = absurd (omega arith)

  -- 23 "then"
  pub room_23 : ((to_sheet b m room).number ≡ 23) ↔ ((is_mark m ≡ true) × Good b × (room < length (sheet_of m b)))
  unfolding to_sheet
  room_23 = (go (to_sheet b m room) wrote, λ h. rw (h.0, h.1.accepted, lt-ltb room (length (sheet_of m b)) h.2))
    where
      go : (a : Answer) → Wrote a → a.number ≡ 23 → (is_mark m ≡ true) × Good b × (room < length (sheet_of m b))
      go a (wrong_mark i) e = absurd (omega arith)
      go a (bad_book {n = n} {p = p} i j) e = absurd (omega (arith, judge_small b n p j))
      go a (no_room i g h) e = (i, g, h)
      go a (written i g h) e = absurd (omega arith)

  pub sheet_0 : ((to_sheet b m room).number ≡ 0) ↔ ((is_mark m ≡ true) × Good b × (length (sheet_of m b) ≤ room))
  unfolding to_sheet
  sheet_0 = (go (to_sheet b m room) wrote, λ h. rw (h.0, h.1.accepted, le-ltb room (length (sheet_of m b)) h.2))
    where
      go : (a : Answer) → Wrote a → a.number ≡ 0 → (is_mark m ≡ true) × Good b × (length (sheet_of m b) ≤ room)
      go a (wrong_mark i) e = absurd (omega arith)
      go a (bad_book {n = n} {p = p} i j) e = absurd (omega (arith, refused_above b n p j))
      go a (no_room i g h) e = absurd (omega arith)
      go a (written i g h) e = (i, g, h)
