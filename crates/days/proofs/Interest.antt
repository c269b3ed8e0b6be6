-- Open interest, a digit at a time.
-- Assumes nothing.
use Rattle.std.specs.Prelude.{ℕ, ◌≤◌, ◌≡◌, refl, Bool, true, false, not, cond, ◌&&◌, ◌||◌, List, length, get_or, leb, eqb}
use Rattle.std.proofs.Common.{◌∙◌, leb-true}
use Rattle.std.proofs.Math.Bool.{and-eq-true_iff}
use Rattle.rules.specs.declared.Figure.TheVariants.{Value, Malformed}
use Rattle.rules.specs.Text.{is}
use Rattle.rules.specs.Figures.{all_digits_of, number_after}
use Rattle.days.specs.Parts.{may_be_interest}
use Rattle.days.specs.Day.{interest_of}

either_order : {A : Type 0} (a b d z : Bool) (x y : A) → cond (a && b && (d && z)) x y ≡ cond (a && b && z) (cond d x y) y
either_order false b d z x y = refl
either_order true false d z x y = refl
either_order true true false true x y = refl
either_order true true false false x y = refl
either_order true true true z x y = refl

-- bytes that may be some: their digits decide
digits_decide : (v : List ℕ) → interest_of v ≡ cond (may_be_interest v) (cond (all_digits_of v) (Value (number_after 0 v)) Malformed) Malformed
unfolding interest_of
digits_decide v = either_order (leb 1 (length v)) (leb (length v) 10) (all_digits_of v) _ (Value (number_after 0 v)) Malformed

module _ (v : List ℕ) where
  pub interest_none : may_be_interest v ≡ false → interest_of v ≡ Malformed
  interest_none e = digits_decide v ∙ simp e

  pub interest_other : may_be_interest v ≡ true → all_digits_of v ≡ false → interest_of v ≡ Malformed
  interest_other e h = digits_decide v ∙ simp (e, h)

  pub interest_some : may_be_interest v ≡ true → all_digits_of v ≡ true → interest_of v ≡ Value (number_after 0 v)
  interest_some e h = digits_decide v ∙ simp (e, h)

  pub interest_short : may_be_interest v ≡ true → length v ≤ 10
  interest_short e =
      let p = (and-eq-true_iff (leb 1 (length v) && leb (length v) 10) (not (is "0" (get_or v 0 0)) || eqb (length v) 1)).0 e in
      leb-true (length v) 10 ((and-eq-true_iff (leb 1 (length v)) (leb (length v) 10)).0 p.0).1
