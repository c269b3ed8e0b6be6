-- A text of lines, each ended by one line feed: the line at place k, counted from 0; and that no line is longer than the widest.
-- Assumes nothing.
use Rattle.std.specs.Prelude.{ℕ, suc, ◌-◌, max, cond, List, [], ◌∷◌, eqb}
use Rattle.rules.specs.Text.{is}

-- what stands behind k lines; a byte that ends a line leaves one line less to pass
abbrev pub left_behind : ℕ → ℕ → ℕ
left_behind k b = cond (is "\n" b) (k - 1) k

abbrev pub behind_lines : ℕ → List ℕ → List ℕ
behind_lines k [] = []
behind_lines k (b ∷ s) = cond (eqb k 0) (b ∷ s) (behind_lines (left_behind k b) s)

-- what stands before the first line feed
abbrev pub first_line : List ℕ → List ℕ
first_line [] = []
first_line (b ∷ s) = cond (is "\n" b) [] (b ∷ first_line s)

unfoldable pub line_of : ℕ → List ℕ → List ℕ
line_of k s = first_line (behind_lines k s)

-- every line, from any place on, has at most so many bytes
abbrev pub widest_from : ℕ → List ℕ → ℕ
widest_from n [] = n
widest_from n (b ∷ s) = cond (is "\n" b) (max n (widest_from 0 s)) (widest_from (suc n) s)
