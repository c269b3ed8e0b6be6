-- The digits of a number: its last digit stands behind the digits of a tenth of it, and a number below a power of ten has at most
-- as many digits as the power has noughts. Both follow from one fact: more rounds than the number needs change nothing. And the number
-- that digits write is the number they are of.
-- Assumes nothing.
use Rattle.std.specs.Prelude.{ℕ, zero, suc, ◌+◌, ◌-◌, ◌*◌, ◌/◌, ◌%◌, ◌^◌, ◌≤◌, ◌<◌, ◌≡◌, refl, List, [], ◌∷◌, ◌++◌, ltb, length}
use Prim.Native.Char.{code}
use Rattle.std.proofs.Common.{◌∙◌, arith, lt-ltb, le-ltb, ltb-true, ltb-false, length-append}
use Rattle.rules.specs.Figures.{number_after}
use Rattle.rules.specs.Report.{digit, digits_before, digits}
use Rattle.laws.specs.ByTest.{by_test}

-- the digits that are there already stay behind
behind : (most n : ℕ) (ds es : List ℕ) → digits_before most n (ds ++ es) ≡ digits_before most n ds ++ es
behind zero n ds es = refl
behind (suc most) n ds es =
    by_test (ltb n 10) (λ h. simp h) (λ h. simp h (behind most (n / 10) (digit (n % 10) ∷ ds) es))

-- rounds beyond those that the number needs change nothing
enough : (most more n : ℕ) (ds : List ℕ) → n < most → n < more → digits_before most n ds ≡ digits_before more n ds
enough zero more n ds p q = absurd (omega arith)
enough (suc most) zero n ds p q = absurd (omega arith)
enough (suc most) (suc more) n ds p q =
    by_test (ltb n 10) (λ h. simp h)
    (λ h. simp h (enough most more (n / 10) (digit (n % 10) ∷ ds) (omega (arith, ltb-false)) (omega (arith, ltb-false))))

pub digits_one : (n : ℕ) → n < 10 → digits n ≡ digit n ∷ []
unfolding digits
digits_one n h = simp (lt-ltb n 10 h)

pub digits_more : (n : ℕ) → 10 ≤ n → digits n ≡ digits (n / 10) ++ (digit (n % 10) ∷ [])
unfolding digits
digits_more n h =
    simp (le-ltb n 10 h)
    (enough n (suc (n / 10)) (n / 10) (digit (n % 10) ∷ []) (omega arith) (omega arith)
    ∙ behind (suc (n / 10)) (n / 10) [] (digit (n % 10) ∷ []))

pub digits_length : (k n : ℕ) → n < 10 ^ suc k → length (digits n) ≤ suc k
digits_length zero n h = simp (digits_one n h) (omega arith)
digits_length (suc k) n h =
    by_test (ltb n 10)
    (λ p. simp (digits_one n (ltb-true n 10 p)) (omega arith))
    (λ p.
    let tenth : n / 10 < 10 ^ suc k = omega arith in
    simp (digits_more n (ltb-false n 10 p), length-append) (omega (arith, digits_length k (n / 10) tenth)))

-- a customer's lots; a sum of such lots; any number of 64 bits
pub digits_length_7 : (n : ℕ) → n ≤ 9999999 → length (digits n) ≤ 7
digits_length_7 n h = digits_length 6 n (omega arith)

pub digits_length_10 : (n : ℕ) → n < 10 ^ 10 → length (digits n) ≤ 10
digits_length_10 n h = digits_length 9 n h

pub digits_length_20 : (n : ℕ) → n < 2 ^ 64 → length (digits n) ≤ 20
digits_length_20 n h = digits_length 19 n (omega arith)

pub digits_some : (n : ℕ) → 0 < length (digits n)
digits_some n =
    by_test (ltb n 10)
    (λ p. simp (digits_one n (ltb-true n 10 p)) (omega arith))
    (λ p. simp (digits_more n (ltb-false n 10 p), length-append) (omega arith))

number_append : (n : ℕ) (ds : List ℕ) (d : ℕ) → number_after n (ds ++ d ∷ []) ≡ number_after n ds * 10 + (d - code "0")
number_append n [] d = refl
number_append n (x ∷ xs) d = number_append (n * 10 + (x - code "0")) xs d

number_below : (most n : ℕ) → n < most → number_after 0 (digits n) ≡ n
number_below zero n h = absurd (omega arith)
number_below (suc most) n h =
    by_test (ltb n 10)
    (λ p. rw (digits_one n (ltb-true n 10 p)) (omega arith))
    (λ p.
    rw (digits_more n (ltb-false n 10 p))
    (omega (arith, ltb-false n 10 p, number_append 0 (digits (n / 10)) (digit (n % 10)), number_below most (n / 10) (omega (arith, ltb-false n 10 p)))))

-- digits are read as the number that they write
pub number_digits : (n : ℕ) → number_after 0 (digits n) ≡ n
number_digits n = number_below (suc n) n (omega arith)
