-- What the code says of a line of four parts as it writes its fields.
-- Assumes nothing.
use Rattle.std.specs.Prelude.{ℕ, ◌+◌, ◌≤◌, ◌/◌, ◌%◌, ◌≡◌, List, ◌∷◌, ◌++◌, false, eqb, length}
use Rattle.rules.specs.Limits.{longest_book}
use Rattle.writing.specs.Written.{Room}
use Rattle.sheets.specs.declared.line.Parts.{Parts}
use Rattle.sheets.specs.Mark.{respelled, in_book}
use Rattle.sheets.specs.Places.{between, HasParts}
use Rattle.sheets.specs.Sizes.{four_fields}

-- the field of a trade by its bytes in the sheet: those of price and lots, and those from the semicolon before the day on
abbrev pub trade_in : ℕ → ℕ → List ℕ → List ℕ → List ℕ
trade_in mark t figures day =
    t ∷ (length figures + length day) / 256 ∷ (length figures + length day) % 256 ∷ (respelled 59 32 (in_book mark figures) ++ respelled 59 32 day)

-- the fields of a line of four parts by where they end
abbrev pub four_at : ℕ → List ℕ → ℕ → ℕ → Parts → List ℕ
four_at mark s at t p =
    four_fields mark t (between (at + 2) p.first s) (between (p.first + 1) p.second s) (between (p.second + 1) p.third s) (between (p.third + 1) p.end s)

-- they fit into the buffer; a semicolon is no mark
pub record Four (mark : ℕ) (s : List ℕ) (at t : ℕ) (p : Parts) (place : ℕ) (buffer : List ℕ) : Type 0 where
  pub has : HasParts s at t p
  pub short : length s ≤ longest_book
  pub unlike : eqb 59 mark ≡ false
  pub room : Room place (four_at mark s at t p) buffer
