-- The digits at the start of a list: what stands there, and where they end.
-- Assumes nothing.
use Rattle.std.proofs.Common.{◌≡◌, ℕ, ◌+◌, ◌%◌, ◌^◌, ◌<◌, ◌≤◌, true, leb, List, [], ◌∷◌, ◌++◌, length, refl, ap, arith, le-leb, leb-true}
use Prim.Native.Char.{code}
use mathlib.Core.Bool.{and-eq-true_iff}
use Rattle.rules.specs.Figures.{is_digit, all_digits_of, number_after}
use Rattle.figures.specs.Numbers.{DigitOf, run, run_number}
use Rattle.figures.proofs.Lists.{by_test}

-- the difference of a byte and "0", modulo 2^64
pub digit_of_wrapped : (x r : ℕ) → x < 256 → r < 2 ^ 64 → (r + 48) % 2 ^ 64 ≡ x → DigitOf x r
digit_of_wrapped x r small big e = record {
  digit = λ few. (simp (le-leb (code "0") x (omega arith), le-leb x (code "9") (omega arith)), omega arith);
  none = λ many.
      by_test (is_digit x)
      (λ t.
      let q = (and-eq-true_iff (leb (code "0") x) (leb x (code "9"))).0 t in
      absurd (omega (arith, leb-true)))
      (λ t. t);
}

pub run_most : (v : List ℕ) → run v ≤ length v
run_most [] = omega arith
run_most (x ∷ v) = by_test (is_digit x) (λ e. simp e (omega (arith, run_most v))) (λ e. simp e (omega arith))

pub run_append : (ds v : List ℕ) → all_digits_of ds ≡ true → run (ds ++ v) ≡ length ds + run v
run_append [] v h = omega arith
run_append (x ∷ ds) v h =
    let p = (and-eq-true_iff (is_digit x) (all_digits_of ds)).0 h in
    simp p.0 (omega (arith, run_append ds v p.1))

pub run_number_append : (n : ℕ) (ds v : List ℕ) → all_digits_of ds ≡ true → run_number n (ds ++ v) ≡ run_number (number_after n ds) v
run_number_append n [] v h = refl
run_number_append n (x ∷ ds) v h =
    let p = (and-eq-true_iff (is_digit x) (all_digits_of ds)).0 h in
    simp p.0 (run_number_append (number_after n (x ∷ [])) ds v p.1)

-- no digit follows: the number stays
pub run_none : (n : ℕ) (v : List ℕ) → run v ≡ 0 → run_number n v ≡ n
run_none n [] h = refl
run_none n (x ∷ v) h = by_test (is_digit x) (λ e. absurd (omega (arith, simp e at h))) (λ e. simp e)

-- the digits at the start, and what follows them
pub record Split (v : List ℕ) : Type 0 where
  pub digits : List ℕ
  pub rest : List ℕ
  pub all : v ≡ digits ++ rest
  pub digit : all_digits_of digits ≡ true
  pub ends : run rest ≡ 0

pub split : (v : List ℕ) → Split v
split [] = record { digits = []; rest = []; all = refl; digit = refl; ends = refl }
split (x ∷ v) =
    by_test (is_digit x)
    (λ e. let s = split v in record { digits = x ∷ s.digits; rest = s.rest; all = ap (λ (l : List ℕ). x ∷ l) s.all; digit = simp e s.digit; ends = s.ends })
    (λ e. record { digits = []; rest = x ∷ v; all = refl; digit = refl; ends = simp e })
