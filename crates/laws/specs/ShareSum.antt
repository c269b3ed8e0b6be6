-- The shares add up to what is divided, where no two members have the same code: then one of any two goes before the other, so as many
-- get one lot more as lots are left over.
-- Assumes nothing.
use Rattle.std.specs.Prelude.{ℕ, zero, suc, ◌+◌, ◌≤◌, ◌<◌, ◌≡◌, refl, Bool, true, false, ltb}
use Rattle.std.proofs.Common.{ap, ◌∙◌}
use mathlib.Core.List.{List, [], ◌∷◌, Memᴰ}
use native.Mathlib.Omega.{arith}
use borrow.Author.Tests.{ne_eqb}
use Rattle.rules.specs.Codes.{same, smaller}
use Rattle.rules.specs.Division.{sum_of, one_if, whole_part, remainder, left_over_of, goes_before, rank, share_of, share}
use Rattle.laws.specs.Sums.{one_le, sum-add, sum_cong, sum-zero}
use Rattle.laws.specs.Division.{wholes_le, left_few, share_of_none}
use Rattle.laws.specs.CodeOrder.{first_not, first_trans, first_one, smaller_not, smaller_trans, smaller_one_way}
use Rattle.laws.specs.Ranks.{Order, Linear, firsts_are}

both : (p q r : Bool) → (p ≡ true → q ≡ true → r ≡ true) → one_if p + one_if q ≤ 1 + one_if r
both true true r f = rw (f refl refl) (omega arith)
both true false r f = omega arith
both false q r f = omega (arith, one_le q)

-- no two members have the same code
module _ {A : Type 0} (code : A → List ℕ) where
  abbrev pub Distinct : List A → Type 0
  Distinct [] = Unit {0}
  Distinct (a ∷ l) = ((b : A) → Memᴰ b l → same (code a) (code b) ≡ false) × Distinct l

module _ {A : Type 0} (code : A → List ℕ) (weight : A → ℕ) where
  module _ (x sum : ℕ) where
    abbrev pub won : A → A → ℕ
    won j i = one_if (goes_before code weight x sum j i)

    abbrev rest : A → ℕ
    rest = remainder code weight x sum

    pub order : Order won
    order =
        record {
          small = λ i j. one_le (goes_before code weight x sum i j);
          irrefl = λ i. ap one_if (first_not (rest i) (smaller (code i) (code i)) (smaller_not (code i)));
          trans = λ i j k. both _ _ _ (λ g h. first_trans (rest k) (rest j) (rest i) (smaller (code j) (code k)) (smaller (code i) (code j)) (smaller (code i) (code k)) (λ p q. smaller_trans (code i) (code j) (code k) q p) h g);
        }

    linear : (l : List A) → Distinct code l → Linear won l
    linear [] h = tt
    linear (a ∷ l) (h, hs) = (
      (λ i m. first_one (rest i) (rest a) (smaller (code a) (code i)) (smaller (code i) (code a)) (λ e. smaller_one_way (code a) (code i) (h i m))),
      linear l hs,
    )

  module _ (x : ℕ) (all : List A) (pos : 0 < x) (most : x ≤ sum_of weight all) (d : Distinct code all) where
    abbrev sum : ℕ
    sum = sum_of weight all

    -- as many get one lot more as lots are left over
    left_over : sum_of (λ a. one_if (ltb (rank code weight x sum all a) (left_over_of code weight x sum all))) all ≡ left_over_of code weight x sum all
    unfolding rank
    left_over = firsts_are (won x sum) (order x sum) all (linear x sum all d) (left_over_of code weight x sum all) (left_few code weight x all (omega arith))

    share_parts : (a : A) → share code weight x all a ≡ whole_part code weight x sum a + one_if (ltb (rank code weight x sum all a) (left_over_of code weight x sum all))
    unfolding share share_of
    share_parts a = rw (ne_eqb x 0 (λ e. omega arith), ne_eqb sum 0 (λ e. omega arith))

    share_sum_some : sum_of (share code weight x all) all ≡ x
    unfolding left_over_of
    share_sum_some =
        omega (
          arith,
          sum_cong _ _ all (λ a m. share_parts a),
          sum-add (whole_part code weight x sum) (λ a. one_if (ltb (rank code weight x sum all a) (left_over_of code weight x sum all))) all,
          left_over,
          wholes_le code weight x all (omega arith),
        )

  pub share_sum : (x : ℕ) (all : List A) → x ≤ sum_of weight all → Distinct code all → sum_of (share code weight x all) all ≡ x
  share_sum zero all h d = sum_cong _ (λ a. 0) all (λ a m. share_of_none code weight 0 all a refl) ∙ sum-zero all
  share_sum (suc x) all h d = share_sum_some (suc x) all (omega arith) h d
