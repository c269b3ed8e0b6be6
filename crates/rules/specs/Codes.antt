-- docs/RULES.md, section 5. Document 01: customer codes, when two are the same, and their order.
-- Assumes nothing.
use Rattle.std.specs.Prelude.{ℕ, List, [], ◌∷◌, Bool, true, false, ◌&&◌, ◌||◌, length, leb, ltb, eqb}
use Prim.Native.Char.{code}
use Rattle.rules.specs.Limits.{longest_code}
use Rattle.rules.specs.Figures.{is_digit}

-- "C: customer code: 1 to 12 bytes, each 0-9 or A-Z"
abbrev pub is_letter : ℕ → Bool
is_letter x = leb (code "A") x && leb x (code "Z")

abbrev pub all_of_code : List ℕ → Bool
all_of_code [] = true
all_of_code (x ∷ xs) = (is_digit x || is_letter x) && all_of_code xs

unfoldable pub is_code : List ℕ → Bool
is_code v = leb 1 (length v) && leb (length v) longest_code && all_of_code v

abbrev pub same : List ℕ → List ℕ → Bool
same [] [] = true
same [] (y ∷ ys) = false
same (x ∷ xs) [] = false
same (x ∷ xs) (y ∷ ys) = eqb x y && same xs ys

-- "Codes compare byte by byte, and a code that begins a longer one is smaller."
abbrev pub smaller : List ℕ → List ℕ → Bool
smaller [] [] = false
smaller [] (y ∷ ys) = true
smaller (x ∷ xs) [] = false
smaller (x ∷ xs) (y ∷ ys) = ltb x y || eqb x y && smaller xs ys
