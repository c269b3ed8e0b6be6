-- What the contract of a division cites: the members are the first `count` places of two arrays, one of keys and one of weights. A key
-- stands for a code: keys are in order as the codes are.
-- Assumes nothing.
use Rattle.std.specs.Prelude.{ℕ, ◌≤◌, ◌<◌, List, [], ◌∷◌, ◌≡◌, length, get_or}
use Rattle.rules.specs.Limits.{most_customers}
use Rattle.rules.specs.Division.{sum_of, share}
use Rattle.laws.specs.Sums.{up_to}
use Rattle.laws.specs.Filled.{filled}

abbrev pub at : List ℕ → ℕ → ℕ
at l i = get_or l i 0

abbrev pub code_at : List ℕ → ℕ → List ℕ
code_at keys i = at keys i ∷ []

unfoldable pub share_at : List ℕ → List ℕ → ℕ → ℕ → ℕ → ℕ
share_at keys weights count x = share (code_at keys) (at weights) x (up_to count)

-- an array of weights after a division: the shares, and from `count` on as it was
unfoldable pub divided : List ℕ → ℕ → ℕ → List ℕ → List ℕ
divided keys count x weights = filled (share_at keys weights count x) count weights

-- what is asked of the weights, of what is divided over them, and of the arrays that are lent
pub record Bounded (weights : List ℕ) (count : ℕ) : Type 0 where
  pub few : count ≤ most_customers
  pub within : count ≤ length weights
  pub small : (i : ℕ) → i < count → at weights i ≤ 4_000_000

pub record Lent (weights keys : List ℕ) (count x sum : ℕ) : Type 0 where
  pub bounded : Bounded weights count
  pub keyed : count ≤ length keys
  pub total : sum ≡ sum_of (at weights) (up_to count)
  pub most : x ≤ sum
