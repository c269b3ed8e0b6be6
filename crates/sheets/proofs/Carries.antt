-- A point in a point's place changes nothing; a field's length is that of its value in either mark.
-- Assumes nothing.
use Prim.Native.Nat.{ℕ, ◌+◌, ◌/◌, ◌%◌, ◌<◌, ◌≤◌}
use mathlib.Core.Path.{◌≡◌, refl, sym, ap, subst, ◌∙◌}
use mathlib.Core.List.{List, [], ◌∷◌, ◌++◌}
use mathlib.Core.Bool.{Bool, true, false, cond, ◌||◌, or-false, or_assoc}
use borrow.Author.Tests.{eqb-true}
use lib.Dec.{eqb}
use lib.ListN.{length, get_or, drop, length-map, drop_of_length-le}
use Rattle.writing.specs.Written.{Wrote}
use Rattle.laws.specs.ByTest.{by_test}
use Rattle.sheets.specs.Mark.{respelt, in_book, stands_in}
use Rattle.sheets.specs.Line.{carried, field_of, seat_of}
use Rattle.sheets.specs.Sizes.{one_field}
use Rattle.sheets.proofs.Bytes.{drop_step}

same_byte : (x : ℕ) → respelt 46 46 x ≡ x
same_byte x = by_test (eqb x 46) (λ e. rw e (sym (eqb-true x 46 e))) (λ e. rw e)

pub same_bytes : (v : List ℕ) → in_book 46 v ≡ v
same_bytes [] = refl
same_bytes (x ∷ v) = rw (same_byte x) (ap (λ (l : List ℕ). x ∷ l) (same_bytes v))

pub spelt_length : (mark : ℕ) (v : List ℕ) → length (in_book mark v) ≡ length v
spelt_length mark v = length-map v (respelt mark 46)

module _ {at r : ℕ} {entry exit : List ℕ} where
  pub field_wrote : (mark t : ℕ) (v : List ℕ) → Wrote at (t ∷ length v / 256 ∷ length v % 256 ∷ in_book mark v) entry exit r →
      Wrote at (field_of t (in_book mark v)) entry exit r
  field_wrote mark t v w = subst (λ (n : ℕ). Wrote at (t ∷ n / 256 ∷ n % 256 ∷ in_book mark v) entry exit r) (sym (spelt_length mark v)) w

  pub seat_wrote : (mark : ℕ) (i k h q : List ℕ) →
      Wrote at (field_of 73 (in_book 46 i) ++ field_of 75 (in_book mark k) ++ field_of 72 (in_book mark h) ++ field_of 81 (in_book mark q)) entry exit r →
      Wrote at (seat_of mark 73 i k h q) entry exit r
  seat_wrote mark i k h q w =
      subst (λ (v : List ℕ). Wrote at (field_of 73 v ++ field_of 75 (in_book mark k) ++ field_of 72 (in_book mark h) ++ field_of 81 (in_book mark q)) entry exit r) (same_bytes i) w

  pub one_wrote : (mark t : ℕ) (v : List ℕ) → carried t ≡ true → Wrote at (field_of t (in_book 46 v)) entry exit r → Wrote at (one_field mark t v) entry exit r
  one_wrote mark t v e w =
      subst (λ (s : List ℕ). Wrote at s entry exit r) (ap (field_of t) (same_bytes v) ∙ ap (λ (b : Bool). cond b (field_of t v) (field_of t (in_book mark v))) (sym e)) w

  pub figure_wrote : (mark t : ℕ) (v : List ℕ) → carried t ≡ false → Wrote at (field_of t (in_book mark v)) entry exit r → Wrote at (one_field mark t v) entry exit r
  figure_wrote mark t v e w = subst (λ (s : List ℕ). Wrote at s entry exit r) (ap (λ (b : Bool). cond b (field_of t v) (field_of t (in_book mark v))) (sym e)) w

-- a byte among some, one after the other
module _ (b : ℕ) (found : Bool) (v : List ℕ) (i : ℕ) (so : (found || stands_in b (drop i v)) ≡ stands_in b v) where
  pub stands_on : i < length v → ((found || eqb (get_or v i 0) b) || stands_in b (drop (i + 1) v)) ≡ stands_in b v
  stands_on h = or_assoc found (eqb (get_or v i 0) b) (stands_in b (drop (i + 1) v)) ∙ ap (λ (l : List ℕ). found || stands_in b l) (sym (drop_step v i h)) ∙ so

  pub stands_all : length v ≤ i → found ≡ stands_in b v
  stands_all h = sym (or-false found) ∙ ap (λ (l : List ℕ). found || stands_in b l) (sym (drop_of_length-le v h)) ∙ so
