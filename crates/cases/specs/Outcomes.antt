-- Document 01, "Unit gain and standing" and "Cascade and whole lots", beyond the marked cases: standings on both sides of the lock, what
-- is still pending, and lots of many digits.
-- Assumes nothing.
use Rattle.std.specs.Prelude.{ℕ, List, [], ◌∷◌, ◌++◌, map}
use Prim.Native.String.{String}
use Rattle.rules.specs.Report.{joined}
use Rattle.cases.specs.Tables.{terms, gold, gold_up, bought, sold, customer, book, totals, entry}
use Rattle.cases.specs.Case.{Case, prints, loses, divides, reports, member}

-- pending for so many lots, at a loss of 10 percent
abbrev pending : String → String → List ℕ
pending c n = customer c n "0" n (bought "440.00 10" ∷ [])

-- short for so many lots, sold as written
abbrev short : String → String → String → List ℕ
short c n v = customer c "0" n "0" (sold v ∷ [])

abbrev ten_codes : List String
ten_codes = "A" ∷ "B" ∷ "C" ∷ "D" ∷ "E" ∷ "F" ∷ "G" ∷ "H" ∷ "I" ∷ "J" ∷ []

abbrev ten_others : List String
ten_others = "K" ∷ "L" ∷ "M" ∷ "N" ∷ "O" ∷ "P" ∷ "Q" ∷ "R" ∷ "S" ∷ "T" ∷ []

-- a million lots, pending or offered in tier 1
abbrev buyer : String → List ℕ
buyer c = customer c "1000000" "0" "1000000" (bought "440.00 1000000" ∷ [])

abbrev seller : String → List ℕ
seller c = short c "1000000" "440.00 1000000"

unfoldable pub outcomes : List Case
outcomes =
    prints "net 0 with Q above 0" (book gold (customer "A" "5" "5" "5" [] ∷ [])) "total 0\nleft 0\nA N 0\n"
    ∷ prints "net 0: trades are ignored"
    (book gold (customer "A" "5" "5" "5" (bought "440.00 5" ∷ sold "440.00 5" ∷ []) ∷ customer "B" "5" "5" "0" (sold "440.00 5" ∷ []) ∷ []))
    "total 0\nleft 0\nA N 0\nB N 0\n"
    ∷ prints "the locked side with a gain" (book gold (customer "A" "10" "0" "10" (bought "360.00 10" ∷ []) ∷ [])) "total 0\nleft 0\nA N 0\n"
    ∷ prints "a loss with nothing unfilled" (book gold (customer "A" "10" "0" "0" (bought "440.00 10" ∷ []) ∷ [])) "total 0\nleft 0\nA N 0\n"
    ∷ prints "the other side without a gain, with Q above 0" (book gold (customer "A" "4" "9" "4" (sold "400.00 5" ∷ []) ∷ [])) "total 0\nleft 0\nA N 0\n"
    ∷ prints "the other side offers its whole net, whatever Q"
    (book gold (customer "A" "4" "9" "4" (sold "440.00 5" ∷ []) ∷ pending "B" "9" ∷ [])) "total 5\nleft 4\nA 1 5\nB P 5\n"
    ∷ prints "counted pending is at most net"
    (book gold (customer "A" "10" "4" "10" (bought "440.00 6" ∷ []) ∷ short "B" "9" "440.00 9" ∷ []))
    "total 6\nleft 0\nA P 6\nB 1 6\n"
    ∷ prints "locked up: P is short, the tiers are long"
    (book gold_up (customer "A" "0" "4" "3" (sold "360.00 4" ∷ []) ∷ customer "B" "5" "0" "0" (bought "380.00 5" ∷ []) ∷ []))
    "total 3\nleft 0\nA P 3\nB 2 3\n"
    ∷ prints "tier 2 gives what tier 1 left pending, tier 3 nothing"
    (book gold
    (short "W1" "3" "440.00 3"
    ∷ short "W2" "2" "420.00 2"
    ∷ short "V2" "3" "420.00 3"
    ∷ short "W3" "5" "410.00 5"
    ∷ pending "P" "5"
    ∷ []))
    "total 5\nleft 0\nW1 1 3\nW2 2 1\nV2 2 1\nW3 3 0\nP P 5\n"
    ∷ prints "with nothing left pending, no spare lot"
    (book gold
    (pending "A" "1" ∷ pending "B" "1" ∷ pending "C" "1"
    ∷ short "W1" "1" "440.00 1"
    ∷ short "W2" "1" "420.00 1"
    ∷ []))
    "total 2\nleft 1\nA P 1\nB P 1\nC P 0\nW1 1 1\nW2 2 1\n"
    ∷ prints "each tier is rounded by itself"
    (book gold
    (pending "A" "1" ∷ pending "B" "5" ∷ pending "C" "1"
    ∷ short "W1" "4" "440.00 4"
    ∷ short "W2" "1" "420.00 1"
    ∷ short "W3" "1" "410.00 1"
    ∷ []))
    "total 6\nleft 1\nA P 1\nB P 5\nC P 0\nW1 1 4\nW2 2 1\nW3 3 1\n"
    ∷ reports "R of eight digits" (book gold (map buyer ten_codes)) (totals "0" "10000000" ++ joined (λ c. entry c "P" "0") ten_codes)
    ∷ reports "T of eight digits" (book gold (map buyer ten_codes ++ map seller ten_others))
    (totals "10000000" "0" ++ joined (λ c. entry c "P" "1000000") ten_codes ++ joined (λ c. entry c "1" "1000000") ten_others)
    ∷ loses "a million lots at a loss of 79999.99"
    (book (terms "D" "20000.00" "99.999" "99.999" "0.001") (customer "A" "1000000" "0" "1000000" (bought "99999.99 1000000" ∷ []) ∷ []))
    7_999_999_000_000
    ∷ divides "a code that begins another is smaller" 1 (member "AA" 1 ∷ member "A" 1 ∷ member "A0" 1 ∷ []) (0 ∷ 1 ∷ 0 ∷ [])
    ∷ divides "0 over something" 0 (member "A" 1 ∷ []) (0 ∷ [])
    ∷ divides "something over nothing" 1 (member "A" 0 ∷ []) (0 ∷ [])
    ∷ []
