-- docs/SHEETS.md. Request [8]: "write a book as a sheet in either mark". The sheet of an accepted book, field by field: its first line, then
-- "one line per term, customer, seat or trade, each ended by one line feed, Z left out".
-- Assumes nothing.
use Rattle.std.specs.Prelude.{ℕ, List, [], ◌∷◌, ◌++◌, cond, ◌||◌}
use Prim.Native.Char.{code}
use Rattle.rules.specs.Text.{is, bytes}
use Rattle.rules.specs.Report.{joined}
use Rattle.rules.specs.Fields.{Field, Whole, Cut, fields_of}
use Rattle.sheets.specs.Mark.{respelled, in_sheet}
use Rattle.sheets.specs.Line.{figured, traded}

-- a value that has a line to itself: the point of a figure becomes the mark, and a trade's blanks become semicolons
abbrev pub value_in : ℕ → ℕ → List ℕ → List ℕ
value_in mark t v = cond (figured t) (in_sheet mark v) (cond (traded t) (respelled (code " ") (code ";") (in_sheet mark v)) v)

abbrev pub line_in : ℕ → ℕ → List ℕ → List ℕ
line_in mark t v = t ∷ code ";" ∷ value_in mark t v ++ bytes "\n"

-- a further part of a seat's line
abbrev pub part_in : List ℕ → List ℕ
part_in v = code ";" ∷ v

-- "seat (I;code;K;H;Q)": I begins the line, K and H go on with it, Q ends it; lots have no point
abbrev pub shown : ℕ → ℕ → List ℕ → List ℕ
shown mark t v =
    cond (is "I" t) (t ∷ part_in v)
    (cond (is "K" t || is "H" t) (part_in v)
    (cond (is "Q" t) (part_in v ++ bytes "\n")
    (cond (is "Z" t) []
    (line_in mark t v))))

unfoldable pub field_in : ℕ → Field → List ℕ
field_in mark Cut = []
field_in mark (Whole t v) = shown mark t v

abbrev pub mark_line : ℕ → List ℕ
mark_line mark = bytes "mark" ++ mark ∷ bytes "\n"

unfoldable pub sheet_of : ℕ → List ℕ → List ℕ
sheet_of mark book = mark_line mark ++ joined (field_in mark) (fields_of book)
