-- Request [4]: the price that lost its point. Both sides of five times S and of a fifth of it, in fen and in yuan; that every trade is judged;
-- and what comes before 12 and what after it.
-- Assumes nothing.
use Rattle.std.specs.Prelude.{ℕ, List, [], ◌∷◌, ◌++◌, take}
use Prim.Native.Char.{Char}
use Prim.Native.String.{String}
use Rattle.rules.specs.Text.{bytes}
use Rattle.rules.specs.Report.{field}
use Rattle.cases.specs.Tables.{terms_with, gold, gold_up, made, bought, sold, bought_as, sold_as, customer, end, book}
use Rattle.cases.specs.Case.{Case, prints, loses, refused_after}
use Rattle.cases.specs.Refusals.{idle, before_q, refused_at_trade}

-- X and S as written, gold's edges, locked down
abbrev with_s : String → String → List ℕ
with_s x s = terms_with "D" x s "8.000" "8.000" "4.000"

-- one lot at a price, B or A, of a customer without a position: it is good, or too far from S
abbrev one : Char → String → List ℕ
one tag price = field tag (bytes price ++ bytes " 1" ++ made)

abbrev near : String → Char → String → String → String → Case
near n tag x s price = prints n (book (with_s x s) (customer "A" "0" "0" "0" (one tag price ∷ []) ∷ [])) "total 0\nleft 0\nA N 0\n"

abbrev far : String → Char → String → String → String → Case
far n tag x s price = refused_after n (with_s x s ++ idle "A") (one tag price ++ end) 12

-- S 400.00: a customer with K and H as written and these trades, and then one that is refused with 12, whatever stands behind it
abbrev far_after : String → String → String → List (List ℕ) → List ℕ → List ℕ → Case
far_after n k h trades trade rest = refused_after n (gold ++ customer "A" k h "0" trades) (trade ++ rest) 12

unfoldable pub lost_points : List Case
lost_points =
    far "12: 40000.00 for 400.00, bought" "B" "2" "400.00" "40000.00"
    ∷ far "12: 40000.00 for 400.00, sold" "A" "2" "400.00" "40000.00"
    ∷ far "12: 4.00 for 400.00, bought" "B" "2" "400.00" "4.00"
    ∷ far "12: 4.00 for 400.00, sold" "A" "2" "400.00" "4.00"
    ∷ near "five times S: bought at 2000.00" "B" "2" "400.00" "2000.00"
    ∷ far "12: bought at 2000.01" "B" "2" "400.00" "2000.01"
    ∷ near "five times S: sold at 2000.00" "A" "2" "400.00" "2000.00"
    ∷ far "12: sold at 2000.01" "A" "2" "400.00" "2000.01"
    ∷ near "a fifth of S: bought at 80.00" "B" "2" "400.00" "80.00"
    ∷ far "12: bought at 79.99" "B" "2" "400.00" "79.99"
    ∷ near "a fifth of S: sold at 80.00" "A" "2" "400.00" "80.00"
    ∷ far "12: sold at 79.99" "A" "2" "400.00" "79.99"
    ∷ near "five times 400.01: 2000.05" "B" "2" "400.01" "2000.05"
    ∷ far "12: S 400.01, 2000.06" "B" "2" "400.01" "2000.06"
    ∷ near "just above a fifth of 400.01: 80.01" "B" "2" "400.01" "80.01"
    ∷ far "12: just below a fifth of 400.01: 80.00" "B" "2" "400.01" "80.00"
    ∷ near "just above a fifth of 400.04: 80.01" "A" "2" "400.04" "80.01"
    ∷ far "12: just below a fifth of 400.04: 80.00" "A" "2" "400.04" "80.00"
    ∷ far "12: S 0.01, 0.06" "A" "2" "0.01" "0.06"
    ∷ near "S 0.04, 0.01" "A" "2" "0.04" "0.01"
    ∷ far "12: S 0.06, 0.01" "A" "2" "0.06" "0.01"
    ∷ far "12: S 19999.99, 99999.99" "B" "2" "19999.99" "99999.99"
    ∷ far "12: S 99999.99, 19999.99" "B" "2" "99999.99" "19999.99"
    ∷ near "X 0, five times S: bought at 40000" "B" "0" "8000" "40000"
    ∷ far "12: X 0, bought at 40001" "B" "0" "8000" "40001"
    ∷ near "X 0, a fifth of S: sold at 1600" "A" "0" "8000" "1600"
    ∷ far "12: X 0, sold at 1599" "A" "0" "8000" "1599"
    ∷ near "X 0, just above a fifth of 8001: 1601" "A" "0" "8001" "1601"
    ∷ far "12: X 0, just below a fifth of 8001: 1600" "A" "0" "8001" "1600"
    ∷ near "X 0, five times 8001: 40005" "A" "0" "8001" "40005"
    ∷ far "12: X 0, S 8001, 40006" "A" "0" "8001" "40006"
    ∷ far "12: X 0, 800000 for 8000" "B" "0" "8000" "800000"
    ∷ far "12: X 0, 80 for 8000" "A" "0" "8000" "80"
    ∷ far "12: X 0, S 1999999, 9999999" "B" "0" "1999999" "9999999"
    ∷ far "12: X 0, S 9999999, 1999999" "A" "0" "9999999" "1999999"
    ∷ loses "a trade at five times S counts" (book gold (customer "A" "1" "0" "1" (bought "2000.00 1" ∷ []) ∷ [])) 160_000
    ∷ loses "a trade at a fifth of S counts" (book gold (customer "A" "0" "1" "0" (sold "80.00 1" ∷ []) ∷ [])) 32_000
    ∷ refused_after "12: locked up" (gold_up ++ idle "A") (bought "40000.00 1" ++ end) 12
    ∷ far_after "12: long, bought" "1" "0" [] (bought "40000.00 1") end
    ∷ far_after "12: long, sold: the other side" "1" "0" (bought "400.00 1" ∷ []) (sold "40000.00 1") end
    ∷ far_after "12: short, sold" "0" "1" [] (sold "4.00 1") end
    ∷ far_after "12: short, bought: the other side" "0" "1" (sold "400.00 1" ∷ []) (bought "4.00 1") end
    ∷ far_after "12: net 0, bought" "5" "5" [] (bought "40000.00 5") end
    ∷ far_after "12: net 0, sold" "5" "5" [] (sold "40000.00 5") end
    ∷ far_after "12: the oldest, which does not count, first in the book" "10" "0" [] (bought "40000.00 10") (bought "400.00 10" ++ end)
    ∷ far_after "12: the oldest, which does not count, last in the book" "10" "0" (bought_as "400.00 10 20250115 1000" ∷ []) (bought_as "40000.00 10 20250114 1000") end
    ∷ far_after "12: the part that does not count" "10" "0" (bought_as "400.00 9 20250115 1000" ∷ []) (bought_as "40000.00 1000000 20250114 1000") end
    ∷ refused_after "12: of the second customer, at its own tag" (gold ++ idle "A" ++ idle "B") (sold "40000.00 1" ++ end) 12
    ∷ far_after "12 before 9: the lots are too few" "5" "0" [] (bought "40000.00 4") end
    ∷ far_after "12 before 9: the lots are on the other side" "5" "0" (bought "400.00 4" ∷ []) (sold "40000.00 1") (idle "B" ++ end)
    ∷ far_after "12 before 2 of the next field" "0" "0" [] (bought "40000.00 1") []
    ∷ far_after "12 before 3 of the next field" "0" "0" [] (bought "40000.00 1") (field "Y" [] ++ end)
    ∷ far_after "12 before 4 of the next trade" "0" "0" [] (bought "40000.00 1") (bought "400,00 1" ++ end)
    ∷ far_after "12 before 5 of the next trade" "0" "0" [] (bought "40000.00 1") (bought "400.00 0" ++ end)
    ∷ far_after "12 before 7 of the next customer" "0" "0" [] (bought "40000.00 1") (idle "A" ++ end)
    ∷ refused_after "8 of an earlier field before 12" (before_q "5" "0") (field "Q" (bytes "6") ++ bought "40000.00 5" ++ end) 8
    ∷ refused_after "9 of an earlier customer before 12" gold (customer "A" "5" "0" "0" [] ++ customer "B" "5" "0" "0" (bought "40000.00 5" ∷ []) ++ end) 9
    ∷ refused_after "2 before 12: the trade is cut" (gold ++ idle "A") (take 20 (bought "40000.00 1")) 2
    ∷ refused_after "3 before 12: a trade where Q is due" (before_q "5" "0") (bought "40000.00 5" ++ end) 3
    ∷ refused_at_trade "4 before 12: a comma in the price" (bought "40000,00 1") 4
    ∷ refused_at_trade "4 before 12: a comma in the lots" (bought "40000.00 1,0") 4
    ∷ refused_at_trade "4 before 12: a comma in the time" (sold_as "4.00 1 20250115 10,0") 4
    ∷ refused_at_trade "5 before 12: 0 lots" (bought "40000.00 0") 5
    ∷ refused_at_trade "5 before 12: 1000001 lots" (sold "4.00 1000001") 5
    ∷ refused_at_trade "5 before 12: no day" (bought_as "40000.00 1") 5
    ∷ refused_at_trade "5 before 12: a day that is none" (bought_as "40000.00 1 20010229 1000") 5
    ∷ refused_at_trade "5 before 12: a time that is none" (sold_as "4.00 1 20250115 2400") 5
    ∷ refused_at_trade "5 before 12: 4000000 without decimals" (bought "4000000 1") 5
    ∷ refused_at_trade "5 before 12: one decimal" (sold "4.0 1") 5
    ∷ refused_at_trade "5 before 12: 100000.00" (bought "100000.00 1") 5
    ∷ refused_after "5 before 12: X 0, a price with decimals" (with_s "0" "8000" ++ idle "A") (bought "8000.00 1" ++ end) 5
    ∷ []
