-- docs/SHEETS.md. Request [8]: a sheet's mark is a comma or a point, and a book's is a point. Figures in the one and in the other.
-- Assumes nothing.
use Rattle.std.specs.Prelude.{ℕ, List, [], ◌∷◌, map, Bool, false, cond, ◌||◌, eqb}
use Prim.Native.Char.{code}
use Rattle.rules.specs.Text.{is}

-- "`mark,` or `mark.`"
abbrev pub is_mark : ℕ → Bool
is_mark m = is "," m || is "." m

-- "the other mark"
abbrev pub other : ℕ → ℕ
other m = cond (is "," m) (code ".") (code ",")

-- a byte with one byte in another's place, and bytes so
abbrev pub respelt : ℕ → ℕ → ℕ → ℕ
respelt from to b = cond (eqb b from) to b

abbrev pub respelled : ℕ → ℕ → List ℕ → List ℕ
respelled from to v = map (respelt from to) v

-- "every one of the sheet's own mark becomes a point": a figure of a sheet as a book has it, and one of a book as a sheet has it
abbrev pub in_book : ℕ → List ℕ → List ℕ
in_book mark v = respelled mark (code ".") v

abbrev pub in_sheet : ℕ → List ℕ → List ℕ
in_sheet mark v = respelled (code ".") mark v

-- a byte stands in a figure
abbrev pub stands_in : ℕ → List ℕ → Bool
stands_in b [] = false
stands_in b (x ∷ v) = eqb x b || stands_in b v
