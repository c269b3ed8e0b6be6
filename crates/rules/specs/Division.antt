-- docs/RULES.md, section 10. Document 01, "Cascade and whole lots": "Dividing X over weights w with sum W (X is at most W)".
-- Assumes nothing.
use Rattle.std.specs.Prelude.{ℕ, ◌+◌, ◌-◌, ◌*◌, ◌/◌, ◌%◌, List, [], ◌∷◌, Bool, true, false, cond, ◌&&◌, ◌||◌, ltb, eqb}
use Rattle.rules.specs.Codes.{smaller}

abbrev pub sum_of : {A : Type 0} → (A → ℕ) → List A → ℕ
sum_of f [] = 0
sum_of f (a ∷ rest) = f a + sum_of f rest

abbrev pub one_if : Bool → ℕ
one_if true = 1
one_if false = 0

-- X lots over the members of a list, each with a code and a weight. Customers are divided so, whatever else they hold
module _ {A : Type 0} (code : A → List ℕ) (weight : A → ℕ) (x sum : ℕ) where
  -- "each gets the whole part of X x w / W"
  abbrev pub whole_part : A → ℕ
  whole_part a = x * weight a / sum

  abbrev pub remainder : A → ℕ
  remainder a = x * weight a % sum

  -- "The lots left over"
  unfoldable pub left_over_of : List A → ℕ
  left_over_of all = x - sum_of whole_part all

  -- "go one each to the largest remainders of X x w by W; equal remainders go to the smaller code"
  abbrev pub goes_before : A → A → Bool
  goes_before b a = ltb (remainder a) (remainder b) || eqb (remainder a) (remainder b) && smaller (code b) (code a)

  -- how many go before a
  unfoldable pub rank : List A → A → ℕ
  rank all a = sum_of (λ b. one_if (goes_before b a)) all

  -- "X = 0 or W = 0 gives nothing."
  unfoldable pub share_of : List A → A → ℕ
  share_of all a = cond (eqb x 0 || eqb sum 0) 0 (whole_part a + one_if (ltb (rank all a) (left_over_of all)))

-- a member's lots where x is divided over all of them
unfoldable pub share : {A : Type 0} → (A → List ℕ) → (A → ℕ) → ℕ → List A → A → ℕ
share code weight x all a = share_of code weight x (sum_of weight all) all a
