-- How large a number of so many digits is: what the reader's bounds rest on.
-- Assumes nothing.
use Rattle.std.proofs.Common.{◌≡◌, ℕ, suc, ◌+◌, ◌-◌, ◌*◌, ◌^◌, ◌<◌, ◌≤◌, true, leb, List, [], ◌∷◌, length, subst, add-zero, add-suc, pow-suc, add-one, arith, lit<, leb-true}
use Prim.Native.Char.{code}
use mathlib.Core.Bool.{and-eq-true_iff}
use native.Mathlib.Nat.{pow-le-pow_right}
use Rattle.rules.specs.Figures.{is_digit, all_digits_of, number_after}
use Rattle.figures.specs.Numbers.{run, run_number}
use Rattle.figures.proofs.Lists.{by_test}

-- one digit more
pub ten : (k i : ℕ) → 10 ^ (k + (i + 1)) ≡ 10 ^ (k + i) * 10
ten k i = rw (add-one, add-suc, pow-suc)

-- no more digits than k
pub at_most : (k i : ℕ) → i ≤ k → 10 ^ i ≤ 10 ^ k
at_most k i h = pow-le-pow_right (lit< tt) h

digit_more : (k n x : ℕ) → is_digit x ≡ true → n < 10 ^ k → n * 10 + (x - code "0") < 10 ^ suc k
digit_more k n x h l =
    let q = (and-eq-true_iff (leb (code "0") x) (leb x (code "9"))).0 h in
    omega (arith, pow-suc 10 k, leb-true)

-- k digits and those of ds are a number below the power of ten
pub below : (k n : ℕ) (ds : List ℕ) → all_digits_of ds ≡ true → n < 10 ^ k → number_after n ds < 10 ^ (k + length ds)
below k n [] h l = rw add-zero l
below k n (x ∷ ds) h l =
    let p = (and-eq-true_iff (is_digit x) (all_digits_of ds)).0 h in
    subst (λ (m : ℕ). number_after (n * 10 + (x - code "0")) ds < 10 ^ m) (omega arith)
    (below (suc k) (n * 10 + (x - code "0")) ds p.1 (digit_more k n x p.0 l))

-- and those at the start of v
pub run_below : (k n : ℕ) (v : List ℕ) → n < 10 ^ k → run_number n v < 10 ^ (k + run v)
run_below k n [] l = rw add-zero l
run_below k n (x ∷ v) l =
    by_test (is_digit x)
    (λ t.
    simp t
    (subst (λ (m : ℕ). run_number (n * 10 + (x - code "0")) v < 10 ^ m) (omega arith)
    (run_below (suc k) (n * 10 + (x - code "0")) v (digit_more k n x t l))))
    (λ t. simp t (rw add-zero l))
