-- docs/POSITION-LIMIT.md. Where the codes of the seats stand: cut from bytes by their sizes, or at the front of lines.
-- Assumes nothing.
use Rattle.std.specs.Prelude.{ℕ, cond, List, [], ◌∷◌, map, length, take, drop, leb}
use Rattle.rules.specs.Text.{is}
use Rattle.rules.specs.Opening.{up_to_blank}

-- the codes that stand one behind the other, each of its size; one that runs past the end is none, and stands as an empty one
abbrev pub codes_in : List ℕ → List ℕ → List (List ℕ)
codes_in [] s = []
codes_in (n ∷ ns) s = cond (leb n (length s)) (take n s) [] ∷ codes_in ns (drop n s)

-- "a line feed ends each line, bytes after the last one are a line too"
abbrev pub onto : ℕ → List (List ℕ) → List (List ℕ)
onto b [] = (b ∷ []) ∷ []
onto b (l ∷ ls) = (b ∷ l) ∷ ls

abbrev pub lines_of : List ℕ → List (List ℕ)
lines_of [] = []
lines_of (b ∷ s) = cond (is "\n" b) ([] ∷ lines_of s) (onto b (lines_of s))

-- "its code is what stands before the first blank"
abbrev pub codes_ahead : List ℕ → List (List ℕ)
codes_ahead s = map up_to_blank (lines_of s)
