-- Request [3]: prices without a point. Both sides of each form of a price, in S and in trades; the values of X, and its place; and sheets
-- of silver in whole yuan, at the edges and one yuan beside them.
-- Assumes nothing.
use Rattle.std.specs.Prelude.{ℕ, List, [], ◌∷◌, ◌++◌, take}
use Prim.Native.Char.{Char}
use Prim.Native.String.{String}
use Rattle.rules.specs.Text.{bytes}
use Rattle.rules.specs.Report.{field}
use Rattle.cases.specs.Tables.{lock, term, front, edges, terms_with, gold, made, bought, sold, bought_as, begins_seated, held, customer, end, book, totals, entry}
use Rattle.cases.specs.Case.{Case, prints, loses, refused_after, reports}
use Rattle.cases.specs.Refusals.{idle, refused_at_trade, accepts}

-- silver's edges, 10 and 5 percent; and terms with these, with X and S as written, locked down
abbrev silver_edges : List ℕ
silver_edges = edges "10.000" "10.000" "5.000"

abbrev with_s : String → String → List ℕ
with_s x s = terms_with "D" x s "10.000" "10.000" "5.000"

-- "With X 0 .. S and trades are then in yuan": S 8000, locked down or up
abbrev yuan : List ℕ
yuan = with_s "0" "8000"

abbrev yuan_up : List ℕ
yuan_up = terms_with "U" "0" "8000" "10.000" "10.000" "5.000"

-- refused at X as written; at S as written; at a trade, an edge or lots in a book of whole prices
abbrev refused_at_x : String → String → String → ℕ → Case
refused_at_x n x s number = refused_after n (lock "D") (term "X" x ++ term "S" s ++ silver_edges ++ end) number

abbrev refused_at_s_of : String → String → String → ℕ → Case
refused_at_s_of n x s number = refused_after n (front "D" x) (term "S" s ++ silver_edges ++ end) number

abbrev refused_in_yuan : String → List ℕ → ℕ → Case
refused_in_yuan n trade number = refused_after n (yuan ++ idle "A") (trade ++ end) number

abbrev refused_at_l_in_yuan : String → String → ℕ → Case
refused_at_l_in_yuan n l number = refused_after n (front "D" "0" ++ term "S" "8000") (edges l "10.000" "5.000" ++ end) number

abbrev refused_at_k_in_yuan : String → String → ℕ → Case
refused_at_k_in_yuan n k number = refused_after n (yuan ++ begins_seated (bytes "A")) (held "K" k ++ held "H" "0" ++ held "Q" "0" ++ end) number

-- what a book's only customer loses on one lot: the values of S and of a price, in yuan with X 0 and in fen with X 2
abbrev buyer : String → String → String → String → ℕ → Case
buyer n x s v loss = loses n (book (with_s x s) (customer "A" "1" "0" "1" (bought v ∷ []) ∷ [])) loss

abbrev seller : String → String → String → String → ℕ → Case
seller n x s v loss = loses n (book (with_s x s) (customer "A" "0" "1" "0" (sold v ∷ []) ∷ [])) loss

-- long 10 or short 10, with Q and the trades as written
abbrev long10 : List ℕ → String → List (List ℕ) → List ℕ
long10 tms q trades = book tms (customer "A" "10" "0" q trades ∷ [])

abbrev short10 : List ℕ → String → List (List ℕ) → List ℕ
short10 tms q trades = book tms (customer "A" "0" "10" q trades ∷ [])

-- a trade whose price is written with what stands behind its whole yuan
abbrev priced : Char → List ℕ → String → String → List ℕ
priced tag behind price lots = field tag (bytes price ++ behind ++ bytes " " ++ bytes lots ++ made)

-- a sheet at and beside the edges: with X 0, and in fen, where every price has two more decimals
abbrev sheet : String → String → List ℕ → List ℕ
sheet x s behind =
    book (with_s x s)
    (customer "W3" "0" "1" "0" (priced "A" behind "8399" "1" ∷ [])
    ∷ customer "P2" "6" "0" "6" (priced "B" behind "8800" "6" ∷ [])
    ∷ customer "V2" "0" "2" "0" (priced "A" behind "8400" "2" ∷ [])
    ∷ customer "W1" "0" "3" "0" (priced "A" behind "8800" "3" ∷ [])
    ∷ customer "N1" "5" "0" "5" (priced "B" behind "8799" "5" ∷ [])
    ∷ customer "P1" "8" "2" "6" (priced "B" behind "8800" "8" ∷ priced "A" behind "8800" "2" ∷ [])
    ∷ customer "W2" "0" "5" "0" (priced "A" behind "8799" "5" ∷ [])
    ∷ customer "N2" "0" "4" "0" (priced "A" behind "8000" "4" ∷ [])
    ∷ [])

abbrev sheet_prints : String
sheet_prints = "total 11\nleft 1\nW3 3 1\nP2 P 5\nV2 2 2\nW1 1 3\nN1 N 0\nP1 P 6\nW2 2 5\nN2 N 0\n"

abbrev sheet_report : List ℕ
sheet_report =
    totals "11" "1" ++
    entry "W3" "3" "1" ++
    entry "P2" "P" "5" ++
    entry "V2" "2" "2" ++
    entry "W1" "1" "3" ++
    entry "N1" "N" "0" ++
    entry "P1" "P" "6" ++
    entry "W2" "2" "5" ++
    entry "N2" "N" "0"

unfoldable pub silver : List Case
silver =
    buyer "X 0: S 1, bought at 5" "0" "1" "5 1" 4
    ∷ buyer "X 0: S 2000000, bought at 9999999" "0" "2000000" "9999999 1" 7_999_999
    ∷ seller "X 0: S 5, sold at 1" "0" "5" "1 1" 4
    ∷ seller "X 0: S 9999999, sold at 2000000" "0" "9999999" "2000000 1" 7_999_999
    ∷ accepts "X 0: S 8000" yuan
    ∷ refused_at_s_of "5: X 0, S 10000000" "0" "10000000" 5
    ∷ refused_at_s_of "5: X 0, S 0" "0" "0" 5
    ∷ refused_at_s_of "5: X 0, S 01" "0" "01" 5
    ∷ refused_at_s_of "5: X 0, S 00" "0" "00" 5
    ∷ refused_at_s_of "5: X 0, S 0000001" "0" "0000001" 5
    ∷ refused_at_s_of "5: X 0, S 400.00" "0" "400.00" 5
    ∷ refused_at_s_of "5: X 0, S 400.0" "0" "400.0" 5
    ∷ refused_at_s_of "5: X 0, S 1." "0" "1." 5
    ∷ refused_at_s_of "5: X 0, S .5" "0" ".5" 5
    ∷ refused_at_s_of "5: X 0, S of no bytes" "0" "" 5
    ∷ refused_at_s_of "5: X 0, S +1" "0" "+1" 5
    ∷ refused_at_s_of "5: X 0, S with a blank behind it" "0" "8000 " 5
    ∷ refused_at_s_of "4: X 0, S 8,000" "0" "8,000" 4
    ∷ refused_at_s_of "4: X 0, S 400,00" "0" "400,00" 4
    ∷ buyer "X 2: S 0.01, bought at 0.05" "2" "0.01" "0.05 1" 4
    ∷ buyer "X 2: S 20000.00, bought at 99999.99" "2" "20000.00" "99999.99 1" 7_999_999
    ∷ seller "X 2: S 0.05, sold at 0.01" "2" "0.05" "0.01 1" 4
    ∷ seller "X 2: S 99999.99, sold at 20000.00" "2" "99999.99" "20000.00 1" 7_999_999
    ∷ buyer "X 2: S 400.00, bought at 400.01" "2" "400.00" "400.01 1" 1
    ∷ refused_at_s_of "5: X 2, S 400" "2" "400" 5
    ∷ refused_at_s_of "5: X 2, S 400.0" "2" "400.0" 5
    ∷ refused_at_s_of "5: X 2, S 400.000" "2" "400.000" 5
    ∷ refused_at_s_of "5: X 2, S 9999999" "2" "9999999" 5
    ∷ refused_at_s_of "5: X 2, S 1" "2" "1" 5
    ∷ refused_at_s_of "5: X 2, S 1." "2" "1." 5
    ∷ refused_at_s_of "5: X 2, S .5" "2" ".5" 5
    ∷ refused_at_s_of "5: X 2, S .50" "2" ".50" 5
    ∷ refused_at_s_of "5: X 2, S 0.00" "2" "0.00" 5
    ∷ refused_at_s_of "5: X 2, S 01.00" "2" "01.00" 5
    ∷ refused_at_s_of "5: X 2, S 100000.00" "2" "100000.00" 5
    ∷ refused_at_s_of "4: X 2, S 400," "2" "400," 4
    ∷ buyer "X 0: bought at 8001" "0" "8000" "8001 1" 1
    ∷ seller "X 0: sold at 7999" "0" "8000" "7999 1" 1
    ∷ refused_in_yuan "5: X 0, bought at 10000000" (bought "10000000 1") 5
    ∷ refused_in_yuan "5: X 0, sold at 10000000" (sold "10000000 1") 5
    ∷ refused_in_yuan "5: X 0, bought at 0" (bought "0 1") 5
    ∷ refused_in_yuan "5: X 0, sold at 0" (sold "0 1") 5
    ∷ refused_in_yuan "5: X 0, bought at 01" (bought "01 1") 5
    ∷ refused_in_yuan "5: X 0, sold at 01" (sold "01 1") 5
    ∷ refused_in_yuan "5: X 0, bought at 400.00" (bought "400.00 1") 5
    ∷ refused_in_yuan "5: X 0, sold at 400.00" (sold "400.00 1") 5
    ∷ refused_in_yuan "5: X 0, bought at 400.0" (bought "400.0 1") 5
    ∷ refused_in_yuan "5: X 0, sold at 400.000" (sold "400.000 1") 5
    ∷ refused_in_yuan "5: X 0, bought at 1." (bought "1. 1") 5
    ∷ refused_in_yuan "5: X 0, sold at .5" (sold ".5 1") 5
    ∷ refused_in_yuan "5: X 0, bought at no price" (bought " 1") 5
    ∷ refused_in_yuan "4: X 0, a comma in the price of B" (bought "8,000 1") 4
    ∷ refused_in_yuan "4: X 0, a comma in the price of A" (sold "400,00 1") 4
    ∷ refused_in_yuan "4 before 5: a comma in the day behind 400.00" (bought_as "400.00 1 2025,115 1000") 4
    ∷ refused_at_trade "5: X 2, bought at 400" (bought "400 1") 5
    ∷ refused_at_trade "5: X 2, sold at 400" (sold "400 1") 5
    ∷ refused_at_trade "5: X 2, bought at 400.0" (bought "400.0 1") 5
    ∷ refused_at_trade "5: X 2, sold at 400.0" (sold "400.0 1") 5
    ∷ refused_at_trade "5: X 2, sold at 400.000" (sold "400.000 1") 5
    ∷ refused_at_trade "5: X 2, bought at 9999999" (bought "9999999 1") 5
    ∷ refused_at_trade "5: X 2, bought at 1." (bought "1. 1") 5
    ∷ refused_at_trade "5: X 2, sold at .5" (sold ".5 1") 5
    ∷ refused_at_trade "5: X 2, bought at 0.00" (bought "0.00 1") 5
    ∷ refused_at_trade "5: X 2, sold at 100000.00" (sold "100000.00 1") 5
    ∷ refused_after "5: the second trade with a point" (yuan ++ customer "A" "2" "0" "0" (bought "8000 1" ∷ [])) (bought "8000.00 1" ++ end) 5
    ∷ refused_after "5 before 9: 400 where prices have decimals" (gold ++ customer "A" "2" "0" "0" []) (bought "400 1" ++ end) 5
    ∷ loses "a million lots at a loss of 7,999,999 yuan"
    (book (with_s "0" "2000000") (customer "A" "1000000" "0" "1000000" (bought "9999999 1000000" ∷ []) ∷ []))
    7_999_999_000_000
    ∷ refused_in_yuan "5: X 0, a trade of 1.00 lots" (bought "8000 1.00") 5
    ∷ refused_in_yuan "5: X 0, a trade of 0 lots" (sold "8000 0") 5
    ∷ refused_in_yuan "5: X 0, a trade of 1000001 lots" (bought "8000 1000001") 5
    ∷ refused_at_k_in_yuan "5: X 0, K 07" "07" 5
    ∷ refused_at_k_in_yuan "5: X 0, K 5.00" "5.00" 5
    ∷ refused_at_k_in_yuan "5: X 0, K 1000001" "1000001" 5
    ∷ accepts "X 0: rates 0.001 and 99.999" (terms_with "D" "0" "8000" "0.001" "99.999" "0.001")
    ∷ refused_at_l_in_yuan "5: X 0, rate 10" "10" 5
    ∷ refused_at_l_in_yuan "5: X 0, rate 10.00" "10.00" 5
    ∷ refused_at_l_in_yuan "5: X 0, rate 100.000" "100.000" 5
    ∷ refused_at_l_in_yuan "4: X 0, rate 10,000" "10,000" 4
    ∷ refused_at_x "5: X 1, prices with one decimal" "1" "400.0" 5
    ∷ refused_at_x "5: X 1, prices with two" "1" "400.00" 5
    ∷ refused_at_x "5: X 3" "3" "400.000" 5
    ∷ refused_at_x "5: X 02" "02" "400.00" 5
    ∷ refused_at_x "5: X 00" "00" "8000" 5
    ∷ refused_at_x "5: X 20" "20" "400.00" 5
    ∷ refused_at_x "5: X of no bytes" "" "8000" 5
    ∷ refused_at_x "5: X of no bytes, prices with two decimals" "" "400.00" 5
    ∷ refused_at_x "5: X 0 and a blank" "0 " "8000" 5
    ∷ refused_at_x "5: a letter in X" "O" "8000" 5
    ∷ refused_at_x "5, not 4: a comma in X" "," "8000" 5
    ∷ refused_at_x "5, not 4: a comma behind X 0" "0," "8000" 5
    ∷ refused_at_x "5: a wrong X before a comma in S" "1" "400,00" 5
    ∷ refused_after "2: no X after D" (lock "D") [] 2
    ∷ refused_after "2: the value of X is cut" (lock "D") (take 3 (term "X" "0")) 2
    ∷ refused_after "2: no S after X" (front "D" "0") [] 2
    ∷ refused_after "3: X missing, S where it is due" (lock "D") (term "S" "400.00" ++ silver_edges ++ end) 3
    ∷ refused_after "3: X missing, S in whole yuan" (lock "D") (term "S" "8000" ++ silver_edges ++ end) 3
    ∷ refused_after "3: X twice" (front "D" "0") (term "X" "0" ++ term "S" "8000" ++ silver_edges ++ end) 3
    ∷ refused_after "3: X twice, the second behind S" (front "D" "0" ++ term "S" "8000") (term "X" "0" ++ silver_edges ++ end) 3
    ∷ refused_after "3: X after S" (lock "D") (term "S" "400.00" ++ term "X" "2" ++ silver_edges ++ end) 3
    ∷ refused_after "3: X before D" [] (term "X" "0" ++ lock "D" ++ term "S" "8000" ++ silver_edges ++ end) 3
    ∷ refused_after "3: X after V" (lock "D") (term "S" "8000" ++ silver_edges ++ term "X" "0" ++ end) 3
    ∷ refused_after "3: a second X where a customer is due" yuan (term "X" "0" ++ end) 3
    ∷ refused_after "3: a second X among the trades" (yuan ++ idle "A") (term "X" "0" ++ end) 3
    ∷ refused_after "3: a small x" (lock "D") (field "x" (bytes "0") ++ term "S" "8000" ++ silver_edges ++ end) 3
    ∷ prints "10 percent: bought at 8800" (long10 yuan "10" (bought "8800 10" ∷ [])) "total 0\nleft 10\nA P 0\n"
    ∷ prints "10 percent: bought at 8799" (long10 yuan "10" (bought "8799 10" ∷ [])) "total 0\nleft 0\nA N 0\n"
    ∷ prints "10 percent: bought at 8799 and 8801" (long10 yuan "10" (bought "8799 5" ∷ bought "8801 5" ∷ [])) "total 0\nleft 10\nA P 0\n"
    ∷ prints "10 percent: bought at 8799 and 8800" (long10 yuan "10" (bought "8799 1" ∷ bought "8800 9" ∷ [])) "total 0\nleft 0\nA N 0\n"
    ∷ prints "10 percent of 8001: bought at 8802" (long10 (with_s "0" "8001") "10" (bought "8802 10" ∷ [])) "total 0\nleft 10\nA P 0\n"
    ∷ prints "10 percent of 8001: bought at 8801" (long10 (with_s "0" "8001") "10" (bought "8801 10" ∷ [])) "total 0\nleft 0\nA N 0\n"
    ∷ prints "10 percent: sold at 8800" (short10 yuan "0" (sold "8800 10" ∷ [])) "total 0\nleft 0\nA 1 0\n"
    ∷ prints "10 percent: sold at 8799" (short10 yuan "0" (sold "8799 10" ∷ [])) "total 0\nleft 0\nA 2 0\n"
    ∷ prints "5 percent: sold at 8400" (short10 yuan "0" (sold "8400 10" ∷ [])) "total 0\nleft 0\nA 2 0\n"
    ∷ prints "5 percent: sold at 8399" (short10 yuan "0" (sold "8399 10" ∷ [])) "total 0\nleft 0\nA 3 0\n"
    ∷ prints "a gain of one yuan: sold at 8001" (short10 yuan "0" (sold "8001 10" ∷ [])) "total 0\nleft 0\nA 3 0\n"
    ∷ prints "no gain: sold at 8000" (short10 yuan "0" (sold "8000 10" ∷ [])) "total 0\nleft 0\nA N 0\n"
    ∷ prints "locked up, 10 percent: sold at 7200" (short10 yuan_up "10" (sold "7200 10" ∷ [])) "total 0\nleft 10\nA P 0\n"
    ∷ prints "locked up, 10 percent: sold at 7201" (short10 yuan_up "10" (sold "7201 10" ∷ [])) "total 0\nleft 0\nA N 0\n"
    ∷ prints "locked up, 10 percent: bought at 7200" (long10 yuan_up "0" (bought "7200 10" ∷ [])) "total 0\nleft 0\nA 1 0\n"
    ∷ prints "locked up, 10 percent: bought at 7201" (long10 yuan_up "0" (bought "7201 10" ∷ [])) "total 0\nleft 0\nA 2 0\n"
    ∷ prints "locked up, 5 percent: bought at 7600" (long10 yuan_up "0" (bought "7600 10" ∷ [])) "total 0\nleft 0\nA 2 0\n"
    ∷ prints "locked up, 5 percent: bought at 7601" (long10 yuan_up "0" (bought "7601 10" ∷ [])) "total 0\nleft 0\nA 3 0\n"
    ∷ prints "locked up, no gain: bought at 8000" (long10 yuan_up "0" (bought "8000 10" ∷ [])) "total 0\nleft 0\nA N 0\n"
    ∷ prints "a sheet of silver" (sheet "0" "8000" []) sheet_prints
    ∷ reports "the report of a sheet of silver" (sheet "0" "8000" []) sheet_report
    ∷ prints "the same sheet in fen" (sheet "2" "8000.00" (bytes ".00")) sheet_prints
    ∷ []
