-- What reading a code gives, when a key is among those given before, and marks that tell of most keys that they are not.
-- Assumes nothing.
use Rattle.std.specs.Prelude.{ℕ, ◌%◌, ◌<◌, Bool, true, false, cond, ◌||◌, ◌≡◌, List, [], ◌∷◌, length, get_or, take, eqb}
use Rattle.rules.specs.Codes.{is_code}
use Rattle.laws.specs.Keys.{key_of}
use Rattle.codes.specs.declared.Code.{Code}
use Rattle.codes.specs.declared.Code.TheVariants.{Key, Malformed}

unfoldable pub code_of : List ℕ → Code
code_of v = cond (is_code v) (Key (key_of v)) Malformed

abbrev pub given_in : List ℕ → ℕ → Bool
given_in [] key = false
given_in (k ∷ rest) key = eqb k key || given_in rest key

-- where a key's mark stands
unfoldable pub mark_of : ℕ → ℕ
mark_of key = key % 1021

-- each of the first count keys has its mark
pub record Marked (keys marks : List ℕ) (count : ℕ) : Type 0 where
  pub whole : length marks ≡ 1024
  pub all : (key : ℕ) → given_in (take count keys) key ≡ true → 0 < get_or marks (mark_of key) 0
