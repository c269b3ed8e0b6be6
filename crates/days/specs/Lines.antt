-- docs/MOVES.md. Request [11]: "one line each"; "a line feed ends each line". The lines of a list, and its line feeds.
-- Assumes nothing.
use Rattle.std.specs.Prelude.{ℕ, suc, List, [], ◌∷◌, cond}
use Rattle.rules.specs.Text.{is}

-- a line without its line feed; and bytes that no line feed ends
pub data Line : Type 0 where
  Whole : List ℕ → Line
  Cut : List ℕ → Line

-- the lines, the first of them longer by a byte in front
abbrev pub longer : ℕ → List Line → List Line
longer x [] = Cut (x ∷ []) ∷ []
longer x (Whole v ∷ ls) = Whole (x ∷ v) ∷ ls
longer x (Cut v ∷ ls) = Cut (x ∷ v) ∷ ls

unfoldable pub lines_of : List ℕ → List Line
lines_of [] = []
lines_of (x ∷ xs) = cond (is "\n" x) (Whole [] ∷ lines_of xs) (longer x (lines_of xs))

-- how many line feeds there are
abbrev pub feeds : List ℕ → ℕ
feeds [] = 0
feeds (x ∷ xs) = cond (is "\n" x) (suc (feeds xs)) (feeds xs)
