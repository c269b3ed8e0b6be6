-- Request [2]: both sides of each edge of a stamp, and the order of trades. S 400.00, gold edges, locked down.
-- Assumes nothing.
use Rattle.std.specs.Prelude.{ℕ, List, [], ◌∷◌, ◌++◌}
use Prim.Native.String.{String}
use Rattle.rules.specs.Text.{bytes}
use Rattle.rules.specs.Report.{field}
use Rattle.cases.specs.Tables.{gold, bought_as, sold_as, customer, book}
use Rattle.cases.specs.Case.{Case, prints}
use Rattle.cases.specs.Refusals.{refused_at_trade}

-- a trade of 10 lots
abbrev at : String → String → List ℕ
at price stamp = field "B" (bytes price ++ bytes " 10 " ++ bytes stamp)

-- Long 10, Q 10. Bought at 450.00 the loss is 12.5 percent, and at 420.00 it is 5: P where the first is the newer, and N where the second is.
abbrev pair : String → String → List ℕ
pair first second = book gold (customer "A" "10" "0" "10" (at "450.00" first ∷ at "420.00" second ∷ []) ∷ [])

abbrev first_newer : String → String → String → Case
first_newer n first second = prints n (pair first second) "total 0\nleft 10\nA P 0\n"

abbrev second_newer : String → String → String → Case
second_newer n first second = prints n (pair first second) "total 0\nleft 0\nA N 0\n"

-- one trade of this stamp is good
abbrev good : String → String → Case
good n stamp = prints n (book gold (customer "A" "10" "0" "10" (at "420.00" stamp ∷ []) ∷ [])) "total 0\nleft 0\nA N 0\n"

abbrev bad : String → String → ℕ → Case
bad n stamp number = refused_at_trade n (field "B" (bytes "400.00 1 " ++ bytes stamp)) number

unfoldable pub nights : List Case
nights =
    first_newer "19:49 is the last minute of a day" "20250115 1949" "20250115 1950"
    ∷ second_newer "19:50 is its first" "20250115 1950" "20250115 1949"
    ∷ second_newer "00:00 after 23:59" "20250115 2359" "20250115 0000"
    ∷ first_newer "and not before it" "20250115 0000" "20250115 2359"
    ∷ second_newer "09:00 after 02:30" "20250115 0230" "20250115 0900"
    ∷ first_newer "and not before it, again" "20250115 0900" "20250115 0230"
    ∷ second_newer "of equal minutes the later place" "20250115 1000" "20250115 1000"
    ∷ first_newer "an older day late in the book" "20250115 1000" "20250114 1000"
    ∷ first_newer "an older day, though later by its minutes" "20250115 1950" "20250114 1949"
    ∷ second_newer "a new year" "20241231 1949" "20250101 1950"
    ∷ prints "by clock tier 1, by place tier 3, by this order tier 2"
    (book gold (customer "A" "0" "10" "0" (sold_as "440.00 10 20250115 2030" ∷ sold_as "420.00 10 20250115 1400" ∷ sold_as "410.00 10 20250115 0900" ∷ []) ∷ []))
    "total 0\nleft 0\nA 2 0\n"
    ∷ prints "the needed part of the oldest that counts"
    (book gold (customer "A" "15" "0" "15" (at "420.00" "20250115 1000" ∷ at "450.00" "20250114 1000" ∷ []) ∷ []))
    "total 0\nleft 0\nA N 0\n"
    ∷ good "20000101 1950" "20000101 1950"
    ∷ good "20000229" "20000229 1000"
    ∷ bad "5: 20010229" "20010229 1000" 5
    ∷ good "20010228" "20010228 1000"
    ∷ good "20040229" "20040229 1000"
    ∷ good "20991231" "20991231 1000"
    ∷ bad "5: 21000101" "21000101 1000" 5
    ∷ bad "5: 19991231" "19991231 1000" 5
    ∷ good "20250430" "20250430 1000"
    ∷ bad "5: 20250431" "20250431 1000" 5
    ∷ bad "5: 20250631" "20250631 1000" 5
    ∷ bad "5: 20250931" "20250931 1000" 5
    ∷ bad "5: 20251131" "20251131 1000" 5
    ∷ good "20250131" "20250131 1000"
    ∷ good "20250331" "20250331 1000"
    ∷ good "20250531" "20250531 1000"
    ∷ good "20250731" "20250731 1000"
    ∷ good "20250831" "20250831 1000"
    ∷ good "20251031" "20251031 1000"
    ∷ bad "5: month 13" "20251301 1000" 5
    ∷ bad "5: month 0" "20250001 1000" 5
    ∷ bad "5: day 0" "20250100 1000" 5
    ∷ bad "5: day 32" "20250132 1000" 5
    ∷ good "0000" "20250115 0000"
    ∷ good "2359" "20250115 2359"
    ∷ bad "5: 2400" "20250115 2400" 5
    ∷ bad "5: 1960" "20250115 1960" 5
    ∷ bad "5: a day of 7 digits" "2025115 1000" 5
    ∷ bad "5: a day of 9 digits" "020250115 1000" 5
    ∷ bad "5: a time of 3 digits" "20250115 900" 5
    ∷ bad "5: a time of 5 digits" "20250115 01000" 5
    ∷ bad "5: no time" "20250115" 5
    ∷ bad "5: a blank at the end" "20250115 1000 " 5
    ∷ bad "5: two blanks" "20250115  1000" 5
    ∷ bad "5: a fifth part" "20250115 1000 1" 5
    ∷ bad "5: a colon" "20250115 10:0" 5
    ∷ bad "4: a comma in the day" "2025,115 1000" 4
    ∷ bad "4: a comma in the time, though the day is none" "20010229 10,0" 4
    ∷ refused_at_trade "5: the old form" (bought_as "400.00 1") 5
    ∷ refused_at_trade "5: the old form, sold" (sold_as "400.00 1") 5
    ∷ []
