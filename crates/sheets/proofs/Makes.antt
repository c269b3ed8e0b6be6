-- A line whose number is 0 makes its fields; how many bytes they are.
-- Assumes nothing.
use Prim.Native.Nat.{ℕ, ◌+◌}
use mathlib.Core.Path.{◌≡◌, refl, ap, ◌∙◌}
use mathlib.Core.Bool.{Bool, true, false, cond, ◌||◌}
use mathlib.Core.List.{List, ◌++◌}
use native.Mathlib.Omega.{arith}
use borrow.Author.Tests.{eq-eqb, ne_eqb}
use lib.ListN.{length, length-append, length-map}
use Rattle.rules.specs.Text.{is}
use Rattle.rules.specs.Book.{Step, Stop, Next, refuse}
use Rattle.sheets.specs.Mark.{in_book}
use Rattle.sheets.specs.Line.{carried, figured, traded, field_of, strays, one_of, seat_of, trade_of, four_of}
use Rattle.sheets.specs.Sizes.{one_field, four_fields}

-- 0 for a line that is good
abbrev number_of : Step (List ℕ) → ℕ
number_of (Stop n) = n
number_of (Next fields) = 0

good_one : (x y z : Bool) (f g : List ℕ) → let l = cond x (Next f) (cond y (refuse 21 z (Next g)) (Stop 22)) in number_of l ≡ 0 → l ≡ Next (cond x f g)
good_one true y z f g e = refl
good_one false true true f g e = absurd (omega arith)
good_one false true false f g e = refl
good_one false false z f g e = absurd (omega arith)

good_four : (x y z w : Bool) (f g : List ℕ) → let l = cond x (refuse 21 z (Next f)) (cond y (refuse 21 w (Next g)) (Stop 22)) in number_of l ≡ 0 → l ≡ Next (cond x f g)
good_four true y true w f g e = absurd (omega arith)
good_four true y false w f g e = refl
good_four false true z true f g e = absurd (omega arith)
good_four false true z false f g e = refl
good_four false false z w f g e = absurd (omega arith)

pub one_good : (mark t : ℕ) (v f : List ℕ) → one_of mark t v ≡ Next f → one_of mark t v ≡ Next (one_field mark t v)
one_good mark t v f e = good_one (carried t) (figured t) (strays mark v) (field_of t v) (field_of t (in_book mark v)) (ap number_of e)

field_length : (mark t : ℕ) (v : List ℕ) → length (field_of t (in_book mark v)) ≡ 3 + length v
field_length mark t v = rw length-map (omega arith)

pub one_length : (mark t : ℕ) (v : List ℕ) → length (one_field mark t v) ≡ 3 + length v
one_length mark t v = go (carried t)
  where
    go : (b : Bool) → length (cond b (field_of t v) (field_of t (in_book mark v))) ≡ 3 + length v
    go true = omega arith
    go false = field_length mark t v

four_append : (p q r s : List ℕ) → length (p ++ q ++ r ++ s) ≡ length p + length q + length r + length s
four_append p q r s = simp length-append (omega arith)

module _ (mark t : ℕ) (a b c d : List ℕ) where
  pub four_good : (f : List ℕ) → four_of mark t a b c d ≡ Next f → four_of mark t a b c d ≡ Next (four_fields mark t a b c d)
  four_good f e = good_four (is "I" t) (traded t) (strays mark b || strays mark c || strays mark d) (strays mark a || strays mark b) (seat_of mark t a b c d) (field_of t (trade_of mark a b c d)) (ap number_of e)

  pub trade_length : length (trade_of mark a b c d) ≡ 3 + (length a + length b + length c + length d)
  trade_length = simp (length-append, length-map) (omega arith)

  pub seat_length_lem : length (seat_of mark t a b c d) ≡ 12 + (length a + length b + length c + length d)
  seat_length_lem =
      omega (
        arith,
        four_append (field_of t a) (field_of 75 (in_book mark b)) (field_of 72 (in_book mark c)) (field_of 81 (in_book mark d)),
        field_length mark 75 b,
        field_length mark 72 c,
        field_length mark 81 d,
      )

  pub four_length : length (four_fields mark t a b c d) ≡ cond (is "I" t) 12 6 + (length a + length b + length c + length d)
  four_length = go (is "I" t)
    where
      go : (x : Bool) → length (cond x (seat_of mark t a b c d) (field_of t (trade_of mark a b c d))) ≡ cond x 12 6 + (length a + length b + length c + length d)
      go true = seat_length_lem
      go false = omega (arith, trade_length)

  pub four_seat_length : t ≡ 73 → length (four_fields mark t a b c d) ≡ 12 + (length a + length b + length c + length d)
  four_seat_length e = four_length ∙ ap (λ (x : Bool). cond x 12 6 + (length a + length b + length c + length d)) (eq-eqb t 73 e)

  pub four_trade_length : (t ≡ 73 → ⊥) → length (four_fields mark t a b c d) ≡ 6 + (length a + length b + length c + length d)
  four_trade_length e = four_length ∙ ap (λ (x : Bool). cond x 12 6 + (length a + length b + length c + length d)) (ne_eqb t 73 e)
