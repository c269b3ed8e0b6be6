-- Document 01, "Both sides of each edge": the marked cases 1 to 10 as one table.
-- Assumes nothing.
use Rattle.std.specs.Prelude.{ℕ, List, [], ◌∷◌}
use Prim.Native.String.{String}
use Rattle.cases.specs.Tables.{terms, gold, bought, sold, customer, book}
use Rattle.cases.specs.Case.{Case, prints, loses, divides, member}

-- "S 400.00, gold edges, locked down." "Long 10, Q 10", "long 15, Q 15", "Short 10"
abbrev pub long : String → List (List ℕ) → List ℕ
long n trades = book gold (customer "A" n "0" n trades ∷ [])

abbrev pub short10 : String → List ℕ
short10 v = book gold (customer "A" "0" "10" "0" (sold v ∷ []) ∷ [])

-- "bought 450.00 x 10, then 420.00 x 10"
abbrev pub two_trades : List (List ℕ)
two_trades = bought "450.00 10" ∷ bought "420.00 10" ∷ []

-- "One listing in full", with L as written
abbrev pub the_listing : String → List ℕ
the_listing l =
    book (terms "D" "400.00" l "8.000" "4.000")
    (customer "W3" "0" "1" "0" (sold "410.00 1" ∷ [])
    ∷ customer "P2" "4" "0" "4" (bought "440.00 4" ∷ [])
    ∷ customer "W1" "0" "3" "0" (sold "440.00 3" ∷ [])
    ∷ customer "P1" "8" "2" "6" (bought "440.00 8" ∷ sold "440.00 2" ∷ [])
    ∷ customer "W2" "0" "5" "0" (sold "420.00 5" ∷ [])
    ∷ [])

unfoldable pub cases : List Case
cases =
    prints "1: bought at 432.00" (long "10" (bought "432.00 10" ∷ [])) "total 0\nleft 10\nA P 0\n"
    ∷ prints "1: bought at 431.99" (long "10" (bought "431.99 10" ∷ [])) "total 0\nleft 0\nA N 0\n"
    ∷ prints "2: sold at 432.00" (short10 "432.00 10") "total 0\nleft 0\nA 1 0\n"
    ∷ prints "2: sold at 431.99" (short10 "431.99 10") "total 0\nleft 0\nA 2 0\n"
    ∷ prints "3: sold at 416.00" (short10 "416.00 10") "total 0\nleft 0\nA 2 0\n"
    ∷ prints "3: sold at 415.99" (short10 "415.99 10") "total 0\nleft 0\nA 3 0\n"
    ∷ prints "4: sold at 400.01" (short10 "400.01 10") "total 0\nleft 0\nA 3 0\n"
    ∷ prints "4: sold at 400.00" (short10 "400.00 10") "total 0\nleft 0\nA N 0\n"
    ∷ prints "5: loss 5 percent" (long "10" two_trades) "total 0\nleft 0\nA N 0\n"
    ∷ loses "5: total -20,000" (long "10" two_trades) 20_000
    ∷ prints "6: loss 7.5 percent" (long "15" two_trades) "total 0\nleft 0\nA N 0\n"
    ∷ loses "6: total -45,000" (long "15" two_trades) 45_000
    ∷ divides "7: 7 over 5, 5, 4" 7 (member "A" 5 ∷ member "B" 5 ∷ member "C" 4 ∷ []) (3 ∷ 2 ∷ 2 ∷ [])
    ∷ divides "8: 5 over 3, 3, 3" 5 (member "A" 3 ∷ member "B" 3 ∷ member "C" 3 ∷ []) (2 ∷ 2 ∷ 1 ∷ [])
    ∷ divides "9: 1 over 1,000,000 and 1" 1 (member "A" 1_000_000 ∷ member "B" 1 ∷ []) (1 ∷ 0 ∷ [])
    ∷ prints "10: the listing" (the_listing "8.000") "total 9\nleft 1\nW3 3 1\nP2 P 3\nW1 1 3\nP1 P 6\nW2 2 5\n"
    ∷ prints "10: L written 8,000" (the_listing "8,000") "refused 4 at 17\n"
    ∷ []
