-- Document 01, "Refusal numbers": small books for each number at its place.
-- Assumes nothing.
use Rattle.std.specs.Prelude.{ℕ, ◌-◌, List, [], ◌∷◌, ◌++◌, length, take, drop, replicate}
use Prim.Native.Char.{code}
use Prim.Native.String.{String}
use Rattle.rules.specs.Text.{bytes}
use Rattle.rules.specs.Report.{field}
use Rattle.cases.specs.Tables.{terms, term, before_s, before_l, before_u, before_v, gold, gold_up, bought, sold, begins_seated, held, customer, end, book, totals, entry}
use Rattle.cases.specs.Case.{Case, answers, refuses, refused_after, reports}
use Rattle.cases.specs.Cases.{the_listing}

-- gold's terms with another S, or another L: refused there
abbrev pub refused_at_s : String → String → ℕ → Case
refused_at_s n s number = refused_after n before_s (term "S" s ++ drop (length before_l) (book gold [])) number

abbrev pub refused_at_l : String → String → ℕ → Case
refused_at_l n l number = refused_after n before_l (term "L" l ++ drop (length before_u) (book gold [])) number

-- a customer without a position
abbrev pub idle : String → List ℕ
idle c = customer c "0" "0" "0" []

-- one who holds 5 long and shows trades for 4: it breaks 9 once a field closes it
abbrev pub lacking : List ℕ
lacking = customer "A" "5" "0" "0" (bought "400.00 4" ∷ [])

-- what stands before the K, the H and the Q of the only customer
abbrev pub before_k : List ℕ
before_k = gold ++ begins_seated (bytes "A")

abbrev pub before_h : String → List ℕ
before_h k = before_k ++ held "K" k

abbrev pub before_q : String → String → List ℕ
before_q k h = before_h k ++ held "H" h

abbrev pub refused_at_c : String → String → ℕ → Case
refused_at_c n c number = refused_after n gold (idle c ++ end) number

abbrev pub refused_at_k : String → String → ℕ → Case
refused_at_k n k number = refused_after n before_k (held "K" k ++ held "H" "0" ++ held "Q" "0" ++ end) number

abbrev pub refused_at_trade : String → List ℕ → ℕ → Case
refused_at_trade n trade number = refused_after n (gold ++ idle "A") (trade ++ end) number

-- a book of terms alone is accepted: the total is 0 and nothing is left, of no customer
abbrev pub accepts : String → List ℕ → Case
accepts n tms = reports n (book tms []) (totals "0" "0")

abbrev pub the_report : List ℕ
the_report = totals "9" "1" ++ entry "W3" "3" "1" ++ entry "P2" "P" "3" ++ entry "W1" "1" "3" ++ entry "P1" "P" "6" ++ entry "W2" "2" "5"

unfoldable pub refusals : List Case
refusals =
    refuses "1: 60,001 bytes" (replicate 60_001 0) 1 0
    ∷ refuses "60,000 bytes are judged" (replicate 60_000 0) 3 0
    ∷ refused_after "2: an empty book" [] [] 2
    ∷ refused_after "2: two bytes of a field" before_s (take 2 (term "S" "400.00")) 2
    ∷ refused_after "2: the value of V is cut" before_v (take 7 (term "V" "4.000")) 2
    ∷ refuses "2: no Z after gold's terms, which are 41 bytes" gold 2 41
    ∷ refused_after "2: no H after K" (before_h "0") [] 2
    ∷ refused_after "3: S where D is due" [] (drop (length before_s) (book gold [])) 3
    ∷ refused_after "3: L before S" before_s (term "L" "8.000" ++ term "S" "400.00" ++ drop (length before_u) (book gold [])) 3
    ∷ refused_after "3: V before U" before_u (term "V" "4.000" ++ term "U" "8.000" ++ end) 3
    ∷ refused_after "3: C where V is due" before_v (idle "A" ++ end) 3
    ∷ refused_after "3: a term twice" gold (term "V" "4.000" ++ end) 3
    ∷ refused_after "3: a tag of no kind" gold (field "Y" [] ++ end) 3
    ∷ refused_after "3: a small c" gold (field "c" (bytes "A")) 3
    ∷ refused_after "3: H where K is due" before_k (held "H" "0") 3
    ∷ refused_after "3: C where K is due" before_k (idle "B") 3
    ∷ refused_after "3: a trade where Q is due" (before_q "0" "0") (bought "400.00 1") 3
    ∷ refused_after "3: Z where Q is due" (before_q "0" "0") end 3
    ∷ refused_after "3: a trade before any customer" gold (bought "400.00 1" ++ end) 3
    ∷ refused_after "3: one byte after Z" (book gold []) (0 ∷ []) 3
    ∷ refused_after "3: two bytes after Z" (book gold []) (0 ∷ 0 ∷ []) 3
    ∷ refused_after "3: a whole field after Z" (book gold []) end 3
    ∷ refused_at_s "4: a comma in S" "400,00" 4
    ∷ refused_at_l "4: a comma in L" "8,000" 4
    ∷ refused_after "4: a comma in U" before_u (term "U" "8,000" ++ term "V" "4.000" ++ end) 4
    ∷ refused_after "4: a comma in V" before_v (term "V" "4,000" ++ end) 4
    ∷ refused_at_k "4: a comma in K" "1,0" 4
    ∷ refused_after "4: a comma in H" (before_h "0") (held "H" "1,0" ++ held "Q" "0" ++ end) 4
    ∷ refused_after "4: a comma in Q" (before_q "0" "0") (held "Q" "," ++ end) 4
    ∷ refused_at_trade "4: a comma in the lots of B" (bought "400.00 1,0") 4
    ∷ refused_at_trade "4: a comma in the price of A" (sold "400,00 1") 4
    ∷ refused_after "5: an S of 44 bytes, with a length byte like a comma" before_s (field "S" (replicate 44 (code "1"))) 5
    ∷ refused_after "5: D is neither D nor U" [] (terms "X" "400.00" "8.000" "8.000" "4.000" ++ end) 5
    ∷ refused_after "5: D of two bytes" [] (terms "DD" "400.00" "8.000" "8.000" "4.000" ++ end) 5
    ∷ refused_after "5: a comma in D" [] (terms "," "400.00" "8.000" "8.000" "4.000" ++ end) 5
    ∷ refused_at_c "5: a comma in C" "A," 5
    ∷ refused_after "5: a comma in Z" gold (field "Z" (bytes ",")) 5
    ∷ refused_after "5: Z with a value" gold (field "Z" (bytes "0")) 5
    ∷ refused_after "6: U equal to V" (before_u ++ term "U" "4.000") (term "V" "4.000" ++ end) 6
    ∷ refused_after "6: U below V" (before_u ++ term "U" "4.000") (term "V" "4.001" ++ end) 6
    ∷ accepts "U just above V" (terms "D" "400.00" "8.000" "4.001" "4.000")
    ∷ refused_after "7: a code given before" (gold ++ idle "A" ++ idle "B") (idle "A" ++ end) 7
    ∷ refused_after "8: Q above K, locked down" (before_q "5" "9") (held "Q" "6" ++ end) 8
    ∷ refused_after "8: Q above H, locked up" (gold_up ++ begins_seated (bytes "A") ++ held "K" "9" ++ held "H" "5") (held "Q" "6" ++ end) 8
    ∷ refused_after "9: at Z" gold (lacking ++ end) 9
    ∷ refused_after "9: at C, the customer's own C" (gold ++ idle "B") (lacking ++ idle "C" ++ end) 9
    ∷ refused_after "9: trades on the other side do not count" gold (customer "A" "5" "0" "0" (sold "400.00 5" ∷ []) ++ end) 9
    ∷ accepts "terms and Z only" gold
    ∷ answers "11: the length needed" (the_listing "8.000") (length the_report - 1) 11 (length the_report) []
    ∷ reports "a room of that length" (the_listing "8.000") the_report
    ∷ []
