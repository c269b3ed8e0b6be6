-- docs/MOVES.md. The figures of Articles 12 and 13 of document 000, in the words of request [11].
-- Assumes nothing.
use Rattle.std.specs.Prelude.{ℕ, ◌+◌, List, [], ◌∷◌, get_or}
use Rattle.days.specs.declared.Metal.{Metal}
use Rattle.days.specs.declared.Metal.TheVariants.{Gold, Silver}
use Rattle.watch.specs.declared.table.Row.{Row}

-- so many days, the percentage of the price, the percentage of open interest
abbrev pub row : ℕ → ℕ → ℕ → Row
row days price interest = record { days = days; price = price; interest = interest }

-- "Price: gold 10, 12, 14 percent over 3, 4, 5 days; silver 12, 15, 17"; "Open interest: 30, 35, 40 percent, .. both metals"
abbrev pub table : List Row
table =
    row 3 10 30 ∷
    row 4 12 35 ∷
    row 5 14 40 ∷
    row 3 12 30 ∷
    row 4 15 35 ∷
    row 5 17 40 ∷ []

-- gold's three rows stand before silver's
abbrev pub first_row : Metal → ℕ
first_row Gold = 0
first_row Silver = 3

-- a metal's row for its shortest span, the next or the longest
unfoldable pub row_at : Metal → ℕ → Row
row_at metal span = get_or table (first_row metal + span) (row 0 0 0)

abbrev pub rows_of : Metal → List Row
rows_of metal = row_at metal 0 ∷ row_at metal 1 ∷ row_at metal 2 ∷ []
