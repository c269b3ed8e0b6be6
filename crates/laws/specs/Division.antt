-- Laws of the division. X x W is the whole parts times W and the remainders, so the lots left over are no more than the members
-- with a remainder, and those go before everybody without one: hence no share is above its weight.
-- Assumes nothing.
use Prim.Native.Nat.{ℕ, zero, suc, ◌+◌, ◌-◌, ◌*◌, ◌/◌, ◌≤◌, ◌<◌, zero-le}
use Rattle.std.specs.Prelude.{◌≡◌, Bool, true, false, cond, ◌&&◌, ◌||◌, ltb, length}
use Rattle.std.proofs.Math.Path.{refl, ap}
use Rattle.std.proofs.Common.{◌∙◌, le_refl, mod-lt, div-add-mod', mul-le-mul_right, lt_of_mul-lt-mul_right}
use mathlib.Core.List.{List, [], ◌∷◌, map, Memᴰ}
use Rattle.std.proofs.Math.Nat.{zero-div, add-mul-div_right, le_of_mul-le-mul_right}
use native.Mathlib.Omega.{arith}
use borrow.Author.Tests.{lt-ltb, le-ltb, ltb-true, eq-eqb, ne_eqb}
use Rattle.std.proofs.Math.Dec.{eqb}
use Rattle.rules.specs.Codes.{smaller}
use Rattle.rules.specs.Division.{sum_of, one_if, whole_part, remainder, left_over_of, rank, share_of, share}
use Rattle.laws.specs.Sums.{one_le, sum_cong, sum_mono, sum-mul, sum-mem, sum_one, sum-map}

one_or : (a b : Bool) → one_if a ≤ one_if (a || b)
one_or true b = le_refl 1
one_or false b = zero-le

rest_le : (r w : ℕ) → r < w → r ≤ w * one_if (ltb 0 r)
rest_le zero w h = zero-le
rest_le (suc r) w h = rw (lt-ltb 0 (suc r) (omega arith)) (omega arith)

cond_le : (b : Bool) {n m : ℕ} → n ≤ m → cond b 0 n ≤ m
cond_le true h = zero-le
cond_le false h = h

module _ {A : Type 0} (code : A → List ℕ) (weight : A → ℕ) (x : ℕ) where
  pub parts : (sum : ℕ) (l : List A) →
      sum * sum_of (whole_part code weight x sum) l + sum_of (remainder code weight x sum) l ≡ x * sum_of weight l
  parts sum [] = omega arith
  parts sum (a ∷ l) = omega (arith, parts sum l, div-add-mod' (x * weight a) sum)

  -- how many have a remainder
  with_rest : ℕ → List A → ℕ
  with_rest sum l = sum_of (λ a. one_if (ltb 0 (remainder code weight x sum a))) l

  rank_without : (sum : ℕ) (l : List A) (a : A) → remainder code weight x sum a ≡ 0 → with_rest sum l ≤ rank code weight x sum l a
  unfolding rank with_rest
  rank_without sum l a e =
      sum_mono _ _ l (λ b m. rw e (one_or (ltb 0 (remainder code weight x sum b)) (eqb 0 (remainder code weight x sum b) && smaller (code b) (code a))))

  module _ (all : List A) (pos : 0 < sum_of weight all) where
    abbrev sum : ℕ
    sum = sum_of weight all

    pub wholes_le : sum_of (whole_part code weight x sum) all ≤ x
    wholes_le = le_of_mul-le-mul_right {k = sum} (omega (arith, parts sum all)) pos

    left_mul : sum * left_over_of code weight x sum all ≡ sum_of (remainder code weight x sum) all
    unfolding left_over_of
    left_mul =
        let s : ℕ = x - sum_of (whole_part code weight x sum) all in
        let e : s + sum_of (whole_part code weight x sum) all ≡ x = omega (arith, wholes_le) in
        omega (arith, parts sum all, ap (λ n. sum * n) e)

    left_le : left_over_of code weight x sum all ≤ with_rest sum all
    unfolding with_rest
    left_le =
        le_of_mul-le-mul_right {k = sum} (omega (
          arith,
          left_mul,
          sum-mul sum (λ a. one_if (ltb 0 (remainder code weight x sum a))) all,
          sum_mono (remainder code weight x sum) (λ a. sum * one_if (ltb 0 (remainder code weight x sum a))) all (λ a m. rest_le _ _ (mod-lt (x * weight a) pos)),
        )) pos

    pub left_few : left_over_of code weight x sum all ≤ length all
    unfolding with_rest
    left_few = omega (arith, left_le, sum_mono (λ a. one_if (ltb 0 (remainder code weight x sum a))) (λ a. 1) all (λ a m. one_le (ltb 0 (remainder code weight x sum a))), sum_one all)

    -- who gets a lot that was left over has a remainder
    pub served : (a : A) → rank code weight x sum all a < left_over_of code weight x sum all → 0 < remainder code weight x sum a
    served a h = go (remainder code weight x sum a) refl
      where
        go : (r : ℕ) → remainder code weight x sum a ≡ r → 0 < r
        go zero e = absurd (omega (arith, rank_without sum all a e, left_le))
        go (suc r) e = omega arith

    share_le : (a : A) → x ≤ sum → whole_part code weight x sum a + one_if (ltb (rank code weight x sum all a) (left_over_of code weight x sum all)) ≤ weight a
    share_le a h = go (ltb (rank code weight x sum all a) (left_over_of code weight x sum all)) refl
      where
        fits : x * weight a ≤ weight a * sum
        fits = omega (arith, mul-le-mul_right (weight a) h)

        go : (b : Bool) → ltb (rank code weight x sum all a) (left_over_of code weight x sum all) ≡ b → whole_part code weight x sum a + one_if b ≤ weight a
        go false e = le_of_mul-le-mul_right {k = sum} (omega (arith, fits, div-add-mod' (x * weight a) sum)) pos
        go true e = omega (arith, lt_of_mul-lt-mul_right sum {m = whole_part code weight x sum a} {n = weight a} (omega (arith, fits, div-add-mod' (x * weight a) sum, served a (ltb-true _ _ e))))

  -- "X = 0 or W = 0 gives nothing."
  pub share_of_none : (all : List A) (a : A) → x ≡ 0 → share code weight x all a ≡ 0
  unfolding share share_of
  share_of_none all a e = rw (eq-eqb x 0 e)

  pub share_at_most : (all : List A) → x ≤ sum_of weight all → (a : A) → share code weight x all a ≤ weight a
  unfolding share share_of
  share_at_most all h a = go (sum_of weight all) refl
    where
      go : (w : ℕ) → sum_of weight all ≡ w → share code weight x all a ≤ weight a
      go zero e = omega (arith, share_of_none all a (omega arith))
      go (suc w) e = cond_le (eqb x 0 || eqb (sum_of weight all) 0) (share_le all (omega arith) a h)

  -- "X is at most W": where it is W, each gets its weight and nothing is left over
  pub share_whole : (all : List A) → x ≡ sum_of weight all → (a : A) → Memᴰ a all → share code weight x all a ≡ weight a
  unfolding share share_of left_over_of
  share_whole all e a m = go (sum_of weight all) refl
    where
      go : (w : ℕ) → sum_of weight all ≡ w → share code weight x all a ≡ weight a
      go zero z = omega (arith, share_of_none all a (omega arith), sum-mem weight all a m)
      go (suc w) z =
          let some : 0 < sum_of weight all = omega arith in
          let part : (b : A) → whole_part code weight x (sum_of weight all) b ≡ weight b =
          λ b. ap (λ n. n / sum_of weight all) (omega (arith, ap (λ n. n * weight b) e)) ∙ add-mul-div_right 0 (weight b) some ∙ omega (arith, zero-div (sum_of weight all)) in
          let left : x - sum_of (whole_part code weight x (sum_of weight all)) all ≡ 0 = omega (arith, sum_cong (whole_part code weight x (sum_of weight all)) weight all (λ b k. part b)) in
          rw (ne_eqb x 0 (λ q. omega arith), ne_eqb (sum_of weight all) 0 (λ q. omega arith), left, part a, le-ltb (rank code weight x (sum_of weight all) all a) 0 (omega arith)) (omega arith)

  pub share_none : (all : List A) → x ≤ sum_of weight all → (a : A) → weight a ≡ 0 → share code weight x all a ≡ 0
  share_none all h a e = omega (arith, share_at_most all h a)

-- The members under other names: their weights the same, and their codes in the same order.
module _ {A B : Type 0} (code : A → List ℕ) (weight : A → ℕ) (code' : B → List ℕ) (weight' : B → ℕ) (g : B → A) (l : List B)
    (agree : (b : B) → Memᴰ b l → weight (g b) ≡ weight' b)
    (order : (b c : B) → Memᴰ b l → Memᴰ c l → smaller (code (g b)) (code (g c)) ≡ smaller (code' b) (code' c)) (x : ℕ) where
  sum_along : sum_of weight (map g l) ≡ sum_of weight' l
  sum_along = sum-map weight g l ∙ sum_cong _ _ l agree

  left_along : (sum : ℕ) → left_over_of code weight x sum (map g l) ≡ left_over_of code' weight' x sum l
  unfolding left_over_of
  left_along sum =
      rw (sum-map (whole_part code weight x sum) g l, sum_cong (λ b. whole_part code weight x sum (g b)) (whole_part code' weight' x sum) l (λ b m. rw (agree b m)))

  rank_along : (sum : ℕ) (b : B) → Memᴰ b l → rank code weight x sum (map g l) (g b) ≡ rank code' weight' x sum l b
  unfolding rank
  rank_along sum b m =
      sum-map _ g l ∙ sum_cong _ _ l (λ c n. rw (agree b m, agree c n, order c b n m))

  pub share_along : (b : B) → Memᴰ b l → share code weight x (map g l) (g b) ≡ share code' weight' x l b
  unfolding share share_of
  share_along b m = rw (sum_along, left_along, rank_along (sum_of weight' l) b m, agree b m)
