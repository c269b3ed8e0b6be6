-- Two bytes at a place: whether they are digits, and the number that they write.
-- Assumes nothing.
use Rattle.std.specs.Prelude.{◌≡◌, ℕ, ◌+◌, ◌<◌, ◌≤◌, true, false, List, [], ◌∷◌, length, slice_index}
use Rattle.rules.specs.Figures.{all_digits_of, number_after}

abbrev pub bytes_at : List ℕ → ℕ → List ℕ
bytes_at v i = slice_index v i ∷ slice_index v (i + 1) ∷ []

abbrev pub two_at : List ℕ → ℕ → ℕ
two_at v i = number_after 0 (bytes_at v i)

-- the number that two bytes write, and more than any where they are no digits
pub record TwoOf (bytes : List ℕ) (r : ℕ) : Type 0 where
  pub digits : r ≤ 99 → (all_digits_of bytes ≡ true) × (r ≡ number_after 0 bytes)
  pub none : 99 < r → all_digits_of bytes ≡ false

pub record DigitsAt (v : List ℕ) (i : ℕ) : Type 0 where
  pub inside : i + 1 < length v
  pub digits : all_digits_of (bytes_at v i) ≡ true
