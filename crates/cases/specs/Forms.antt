-- Document 01: "figures of these forms", trades and codes: what is of its form and range, and what is not.
-- Assumes nothing.
use Rattle.std.specs.Prelude.{List, [], ◌∷◌, ◌++◌}
use Rattle.cases.specs.Tables.{terms, gold, bought, sold, book, totals, entry}
use Rattle.cases.specs.Case.{Case, reports}
use Rattle.cases.specs.Refusals.{refused_at_s, refused_at_l, refused_at_c, refused_at_k, refused_at_trade, accepts, idle}

unfoldable pub forms : List Case
forms =
    refused_at_s "5: price 00.01" "00.01" 5
    ∷ refused_at_s "5: price .50" ".50" 5
    ∷ refused_at_s "5: price 0.00" "0.00" 5
    ∷ refused_at_s "5: price 400" "400" 5
    ∷ refused_at_s "5: price 400.0" "400.0" 5
    ∷ refused_at_s "5: price 400.000" "400.000" 5
    ∷ refused_at_s "5: price 123456.00" "123456.00" 5
    ∷ refused_at_s "5: price of no bytes" "" 5
    ∷ refused_at_s "5: price 4.0.00" "4.0.00" 5
    ∷ accepts "price 0.01" (terms "D" "0.01" "8.000" "8.000" "4.000")
    ∷ accepts "price 99999.99" (terms "D" "99999.99" "8.000" "8.000" "4.000")
    ∷ refused_at_l "5: rate 8.00" "8.00" 5
    ∷ refused_at_l "5: rate 0.000" "0.000" 5
    ∷ refused_at_l "5: rate 100.000" "100.000" 5
    ∷ accepts "rates 0.001 and 99.999" (terms "D" "400.00" "0.001" "99.999" "0.001")
    ∷ refused_at_k "5: lots 07" "07" 5
    ∷ refused_at_k "5: lots +5" "+5" 5
    ∷ refused_at_k "5: lots 5.00" "5.00" 5
    ∷ refused_at_k "5: lots 1000001" "1000001" 5
    ∷ refused_at_k "5: lots of no bytes" "" 5
    ∷ refused_at_trade "5: a trade of 0 lots" (bought "400.00 0") 5
    ∷ refused_at_trade "5: a trade of 1000001 lots" (sold "400.00 1000001") 5
    ∷ refused_at_trade "5: two blanks" (bought "400.00  1") 5
    ∷ refused_at_trade "5: no blank" (bought "400.00") 5
    ∷ refused_at_trade "5: a blank at the end" (bought "400.00 1 ") 5
    ∷ refused_at_c "5: a code of no bytes" "" 5
    ∷ refused_at_c "5: a code of 13 bytes" "ABCDEFGHIJKLM" 5
    ∷ refused_at_c "5: a small letter in a code" "a" 5
    ∷ reports "a code of 12 bytes" (book gold (idle "A0Z9EFGHIJKL" ∷ [])) (totals "0" "0" ++ entry "A0Z9EFGHIJKL" "N" "0")
    ∷ []
