-- Why the call for a book refuses, both ways: the theorems about specs/ReadReasons.antt.
-- Assumes nothing.
use Rattle.std.specs.Prelude.{ℕ, ◌≤◌, ◌<◌, ◌↔◌, ◌≡◌, Bool, true, false, cond, ltb}
use Rattle.std.proofs.Math.Path.{refl}
use Rattle.std.proofs.Common.{sym, ap, subst, ◌∙◌, arith, ltb-true, ltb-false}
use mathlib.Core.List.{List}
use Rattle.std.proofs.Math.ListN.{length}
use Rattle.rules.specs.Book.{Verdict, Refused, Accepted, judge}
use Rattle.rules.specs.Answer.{Answer, refused}
use Rattle.laws.specs.Sane.{refused_above}
use Rattle.sheets.specs.Read.{Read, Bad, Made, read}
use Rattle.sheets.specs.Answers.{left_book, of_read, to_book}
use Rattle.sheets_promises.specs.Reasons.{Reason}
use Rattle.sheets_promises.proofs.Refused.{refused_because}
use Rattle.sheets_promises.specs.ReadReasons.{Made-of, bad_sheet, no_space, bad_left, good_left}
use Rattle.sheets_promises.specs.Calls.{number_most, number_least, sheet_refused, no_room, book_left}
use Rattle.sheets_promises.specs.Numbers.{judge_small}
use Rattle.sheets_promises.specs.WriteReasons.{Good}

module _ (s : List ℕ) (room : ℕ) where
  pub made_of : Made-of s room (to_book s room)
  unfolding to_book
  made_of = go (read s) refl
    where
      judged : (b : List ℕ) → read s ≡ Made b → length b ≤ room → (v : Verdict) → judge b ≡ v → Made-of s room (left_book b v)
      judged b e h (Refused n p) j = bad_left e h j
      judged b e h (Accepted terms cs) j = good_left e h (record { terms = terms; customers = cs; accepted = j })

      fit : (b : List ℕ) → read s ≡ Made b → (l : Bool) → ltb room (length b) ≡ l → Made-of s room (cond l (refused 23 0) (left_book b (judge b)))
      fit b e true h = no_space e (ltb-true room (length b) h)
      fit b e false h = judged b e (ltb-false room (length b) h) (judge b) refl

      go : (r : Read) → read s ≡ r → Made-of s room (of_read room r)
      go (Bad n p) e = bad_sheet ((refused_because s n p).0 e)
      go (Made b) e = fit b e (ltb room (length b)) refl

  -- 20, 21 and 22 are the sheet's own
  pub own_numbers : (n : ℕ) → 20 ≤ n → n ≤ 22 → ((to_book s room).number ≡ n) ↔ ((p : ℕ) × Reason s n p)
  own_numbers n low high = (go (to_book s room) made_of, λ x. ap (λ (a : Answer). a.number) (sheet_refused s room n x.0 ((refused_because s n x.0).1 x.1)))
    where
      go : (a : Answer) → Made-of s room a → a.number ≡ n → (p : ℕ) × Reason s n p
      go a (bad_sheet {p = p} r) e = (p, subst (λ (i : ℕ). Reason s i p) e r)
      go a (no_space r h) e = absurd (omega arith)
      go a (bad_left {b = b} {n = k} {p = p} r h j) e = absurd (omega (arith, judge_small b k p j))
      go a (good_left r h g) e = absurd (omega arith)

  pub book_23 : ((to_book s room).number ≡ 23) ↔ ((b : List ℕ) × (read s ≡ Made b) × (room < length b))
  book_23 = (go (to_book s room) made_of, λ x. ap (λ (a : Answer). a.number) (no_room s room x.0 x.1 x.2))
    where
      go : (a : Answer) → Made-of s room a → a.number ≡ 23 → (b : List ℕ) × (read s ≡ Made b) × (room < length b)
      go a (bad_sheet r) e = absurd (omega (arith, number_most r))
      go a (no_space {b = b} r h) e = (b, r, h)
      go a (bad_left {b = b} {n = k} {p = p} r h j) e = absurd (omega (arith, judge_small b k p j))
      go a (good_left r h g) e = absurd (omega arith)

  pub book_0 : ((to_book s room).number ≡ 0) ↔ ((b : List ℕ) × (read s ≡ Made b) × Good b × (length b ≤ room))
  book_0 = (go (to_book s room) made_of, λ x. ap (λ (a : Answer). a.number) (book_left s room x.0 x.1 x.3 ∙ ap (left_book x.0) x.2.accepted))
    where
      go : (a : Answer) → Made-of s room a → a.number ≡ 0 → (b : List ℕ) × (read s ≡ Made b) × Good b × (length b ≤ room)
      go a (bad_sheet r) e = absurd (omega (arith, number_least r))
      go a (no_space r h) e = absurd (omega arith)
      go a (bad_left {b = b} {n = k} {p = p} r h j) e = absurd (omega (arith, refused_above b k p j))
      go a (good_left {b = b} r h g) e = (b, r, g, h)

  -- and with their places, nothing written
  pub own_answers : (n p : ℕ) → 20 ≤ n → n ≤ 22 → (to_book s room ≡ refused n p) ↔ Reason s n p
  own_answers n p low high = (there, λ x. sheet_refused s room n p ((refused_because s n p).1 x))
    where
      there : to_book s room ≡ refused n p → Reason s n p
      there e =
          let (q, x) = (own_numbers n low high).0 (ap (λ (a : Answer). a.number) e) in
          let same : refused n q ≡ refused n p = sym (sheet_refused s room n q ((refused_because s n q).1 x)) ∙ e in
          subst (λ (k : ℕ). Reason s n k) (ap (λ (a : Answer). a.place) same) x
