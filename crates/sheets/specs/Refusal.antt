-- docs/SHEETS.md. Request [8], "Refusals, in the sheet tool only": a name for each number; 1 is the book's. Brought in as `refusal`.
-- Assumes nothing.
use Rattle.std.specs.Prelude.{ℕ}
use Rattle.rules.specs.Refusal.{too_long}
use Rattle.sheets.specs.declared.refusal.SheetRule.{SheetRule}
use Rattle.sheets.specs.declared.refusal.SheetRule.TheVariants.{TooLong, NoMark, OtherMark, NoLine, NoResult}

-- "20 no mark line"
abbrev pub no_mark : ℕ
no_mark = 20

-- "21 the other mark in a price, rate or lots figure"
abbrev pub other_mark : ℕ
other_mark = 21

-- "22 wrong letter, wrong number of parts or no line feed"
abbrev pub no_line : ℕ
no_line = 22

-- "23 no room for the result"
abbrev pub no_result : ℕ
no_result = 23

-- the number of each rule, as code names it
abbrev pub number_of : SheetRule → ℕ
number_of TooLong = too_long
number_of NoMark = no_mark
number_of OtherMark = other_mark
number_of NoLine = no_line
number_of NoResult = no_result
