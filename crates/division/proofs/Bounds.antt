-- Every number of a division fits: there are 256 weights of at most 4,000,000, and X is less than their sum. So whole lots and what is
-- lacked fit one number side by side, and are read from it again.
-- Assumes nothing.
use Prim.Native.Nat.{ℕ, ◌+◌, ◌*◌, ◌%◌, ◌≤◌, ◌<◌}
use mathlib.Core.Path.{◌≡◌}
use mathlib.Core.List.{List}
use native.Mathlib.Nat.{le_trans, mod-lt, mul-le-mul, mul-le-mul_right, div-le_of_le-mul}
use native.Mathlib.Omega.{arith}
use Rattle.rules.specs.Division.{sum_of}
use Rattle.laws.specs.Sums.{up_to}
use Rattle.laws.specs.Indices.{sum_bound}
use Rattle.division.specs.Shares.{at}
use Rattle.division.specs.Parts.{base, whole_in_of, lack_in, whole_at, lack_at, part_at, Ready}

-- two numbers side by side
pub whole_back : (w l : ℕ) → l < base → whole_in_of (w * base + l) ≡ w
whole_back w l h = omega arith

pub lack_back : (w l : ℕ) → l < base → lack_in (w * base + l) ≡ l
lack_back w l h = omega arith

module _ {weights : List ℕ} {count x sum : ℕ} (r : Ready weights count x sum) where
  pub sum_le : sum ≤ 1_024_000_000
  sum_le = omega (arith, sum_bound (at weights) 4_000_000 count r.bounded.small, r.bounded.few, r.total)

  pub product_le : (i : ℕ) → i < count → x * at weights i ≤ 4_096_000_000_000_000
  product_le i h =
      let few : x ≤ 1_024_000_000 = omega (arith, sum_le, r.less) in
      mul-le-mul few (r.bounded.small i h)

  pub rest_lt : (i : ℕ) → x * at weights i % sum < sum
  rest_lt i = mod-lt (x * at weights i) (omega (arith, r.less))

  pub lack_lt : (i : ℕ) → lack_at weights x sum i < base
  lack_lt i = omega (arith, sum_le)

  pub whole_le : (i : ℕ) → i < count → whole_at weights x sum i ≤ 4_000_000
  whole_le i h = le_trans (div-le_of_le-mul sum (mul-le-mul_right (at weights i) (omega (arith, r.less)))) (r.bounded.small i h)

  pub wholes_le : (i : ℕ) → i ≤ count → sum_of (whole_at weights x sum) (up_to i) ≤ 4_000_000 * i
  wholes_le i h = sum_bound (whole_at weights x sum) 4_000_000 i (λ k l. whole_le k (omega arith))

  pub whole_in : (i : ℕ) → whole_in_of (part_at weights x sum i) ≡ whole_at weights x sum i
  whole_in i = whole_back (whole_at weights x sum i) (lack_at weights x sum i) (lack_lt i)

  pub lack_in_lem : (i : ℕ) → lack_in (part_at weights x sum i) ≡ lack_at weights x sum i
  lack_in_lem i = lack_back (whole_at weights x sum i) (lack_at weights x sum i) (lack_lt i)
