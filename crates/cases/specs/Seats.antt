-- Request [5]: customers with several seats. Which fields may stand where, the sums, and the lots of each seat. S 400.00, gold edges, locked down.
-- Assumes nothing.
use Rattle.std.specs.Prelude.{ℕ, List, [], ◌∷◌, ◌++◌, take}
use Prim.Native.String.{String}
use Rattle.rules.specs.Text.{bytes}
use Rattle.cases.specs.Tables.{gold, gold_up, bought, sold, begins, held, seat, seated, customer, end, book, totals, seat_entry, entry_over, entry}
use Rattle.cases.specs.Case.{Case, prints, loses, answers, refused_after, reports}

abbrev over : String → List (List ℕ) → List (List ℕ) → List ℕ
over c seats trades = seated (bytes c) seats trades

-- a seat without lots
abbrev empty : String → List ℕ
empty i = seat i "0" "0" "0"

-- a seat long for so many lots, as many of them unfilled; and one short for so many
abbrev buys : String → String → List ℕ
buys i n = seat i n "0" n

abbrev sells : String → String → List ℕ
sells i n = seat i "0" n "0"

abbrev four_seats : List (List ℕ)
four_seats = empty "1" ∷ empty "2" ∷ empty "3" ∷ empty "4" ∷ []

-- pending for so many lots, or short for so many in tier 1, at one seat
abbrev pending : String → List ℕ
pending n = customer "P" n "0" n (bought "440.00 99" ∷ [])

abbrev offers : String → List ℕ
offers n = customer "W" "0" n "0" (sold "440.00 99" ∷ [])

-- a customer of four seats of a million lots each, pending and offered
abbrev millions : (String → String → List ℕ) → List (List ℕ)
millions f = f "D" "1000000" ∷ f "C" "1000000" ∷ f "B" "1000000" ∷ f "A" "1000000" ∷ []

abbrev million_each : List (List ℕ)
million_each = seat_entry "D" "1000000" ∷ seat_entry "C" "1000000" ∷ seat_entry "B" "1000000" ∷ seat_entry "A" "1000000" ∷ []

-- the lots at each seat of somebody long, 10 percent down, against so many lots in tier 1
abbrev long_over : String → List (List ℕ) → String → String → String → String → List (List ℕ) → Case
long_over n seats w t r o lots = reports n (book gold (over "P" seats (bought "440.00 99" ∷ []) ∷ offers w ∷ [])) (totals t r ++ entry_over "P" "P" o lots ++ entry "W" "1" t)

-- and of somebody short, 10 percent up, against so many lots pending
abbrev short_over : String → List (List ℕ) → String → String → String → List (List ℕ) → Case
short_over n seats p t r lots = reports n (book gold (pending p ∷ over "W" seats (sold "440.00 99" ∷ []) ∷ [])) (totals t r ++ entry "P" "P" t ++ entry_over "W" "1" t lots)

-- what stands before a fifth seat; before a trade's next field; before a second seat
abbrev before_fifth : List ℕ
before_fifth = gold ++ over "A" four_seats []

abbrev after_trade : List ℕ
after_trade = gold ++ over "A" (empty "1" ∷ []) (bought "400.00 1" ∷ [])

abbrev after_seat : List ℕ
after_seat = gold ++ over "A" (empty "1" ∷ []) []

unfoldable pub seats : List Case
seats =
    reports "one seat, of standing N" (book gold (over "A" (empty "1" ∷ []) [] ∷ [])) (totals "0" "0" ++ entry_over "A" "N" "0" (seat_entry "1" "0" ∷ []))
    ∷ reports "four seats, of standing N" (book gold (over "A" four_seats [] ∷ []))
    (totals "0" "0" ++ entry_over "A" "N" "0" (seat_entry "1" "0" ∷ seat_entry "2" "0" ∷ seat_entry "3" "0" ∷ seat_entry "4" "0" ∷ []))
    ∷ prints "the listing of four seats" (book gold (over "A" four_seats [] ∷ [])) "total 0\nleft 0\nA N 0\n"
    ∷ reports "the report of N with lots at each seat"
    (book gold (over "A" (seat "1" "5" "0" "5" ∷ seat "2" "5" "0" "0" ∷ []) (bought "400.00 10" ∷ []) ∷ []))
    (totals "0" "0" ++ entry_over "A" "N" "0" (seat_entry "1" "0" ∷ seat_entry "2" "0" ∷ []))
    ∷ refused_after "3: a fifth seat" before_fifth (empty "5" ++ end) 3
    ∷ refused_after "3: a fifth seat whose code is no code" before_fifth (empty "a" ++ end) 3
    ∷ refused_after "3: a fifth seat whose code was given" before_fifth (empty "1" ++ end) 3
    ∷ refused_after "2: a fifth seat that is cut" before_fifth (take 3 (empty "5")) 2
    ∷ refused_after "3: a seat after a trade" after_trade (empty "2" ++ end) 3
    ∷ refused_after "3: K straight after C" (gold ++ begins (bytes "A")) (held "K" "0" ++ held "H" "0" ++ held "Q" "0" ++ end) 3
    ∷ refused_after "3: Z straight after C" (gold ++ begins (bytes "A")) end 3
    ∷ refused_after "3: C straight after C" (gold ++ begins (bytes "A")) (over "B" (empty "1" ∷ []) [] ++ end) 3
    ∷ refused_after "3: a trade straight after C" (gold ++ begins (bytes "A")) (bought "400.00 1" ++ end) 3
    ∷ refused_after "3: a seat before any customer" gold (empty "1" ++ end) 3
    ∷ refused_after "3: I where K is due" (gold ++ begins (bytes "A") ++ held "I" "1") (empty "2" ++ end) 3
    ∷ refused_after "3: C where the K of a second seat is due" (after_seat ++ held "I" "2") (over "B" (empty "1" ∷ []) [] ++ end) 3
    ∷ refused_after "3: Z where the Q of a second seat is due" (after_seat ++ held "I" "2" ++ held "K" "0" ++ held "H" "0") end 3
    ∷ refused_after "3: K after a seat" after_seat (held "K" "0" ++ end) 3
    ∷ refused_after "3: a small i" after_seat (held "i" "2" ++ end) 3
    ∷ refused_after "2: the code of a seat is cut" (gold ++ begins (bytes "A")) (take 3 (held "I" "1")) 2
    ∷ refused_after "2: no K after I" (gold ++ begins (bytes "A") ++ held "I" "1") [] 2
    ∷ refused_after "2: nothing after a seat" after_seat [] 2
    ∷ refused_after "5: a seat code of no bytes" (gold ++ begins (bytes "A")) (empty "" ++ end) 5
    ∷ refused_after "5: a small letter in a seat code" (gold ++ begins (bytes "A")) (empty "a" ++ end) 5
    ∷ refused_after "5: a seat code of 13 bytes" after_seat (empty "ABCDEFGHIJKLM" ++ end) 5
    ∷ refused_after "5, not 4: a comma in a seat code" after_seat (empty "2," ++ end) 5
    ∷ reports "a seat code of 12 bytes" (book gold (over "A" (empty "A0Z9EFGHIJKL" ∷ []) [] ∷ []))
    (totals "0" "0" ++ entry_over "A" "N" "0" (seat_entry "A0Z9EFGHIJKL" "0" ∷ []))
    ∷ refused_after "13: a seat code twice" after_seat (empty "1" ++ end) 13
    ∷ refused_after "13: the first and the fourth" (gold ++ over "A" (empty "1" ∷ empty "2" ∷ empty "3" ∷ []) []) (empty "1" ++ end) 13
    ∷ refused_after "13 before what follows: a comma in its K" after_seat (held "I" "1" ++ held "K" "," ++ end) 13
    ∷ refused_after "2 before 13: the second seat is cut" after_seat (take 3 (empty "1")) 2
    ∷ reports "one seat code in two customers" (book gold (over "A" (empty "1" ∷ []) [] ∷ over "B" (empty "1" ∷ []) [] ∷ []))
    (totals "0" "0" ++ entry_over "A" "N" "0" (seat_entry "1" "0" ∷ []) ++ entry_over "B" "N" "0" (seat_entry "1" "0" ∷ []))
    ∷ reports "a seat with its customer's code" (book gold (over "A" (empty "A" ∷ []) [] ∷ [])) (totals "0" "0" ++ entry_over "A" "N" "0" (seat_entry "A" "0" ∷ []))
    ∷ reports "seat codes that begin alike" (book gold (over "A" (empty "1" ∷ empty "11" ∷ []) [] ∷ []))
    (totals "0" "0" ++ entry_over "A" "N" "0" (seat_entry "1" "0" ∷ seat_entry "11" "0" ∷ []))
    ∷ refused_after "8: on one seat, though not on the sum" (gold ++ begins (bytes "A") ++ held "I" "1" ++ held "K" "5" ++ held "H" "0") (held "Q" "6" ++ seat "2" "9" "0" "0" ++ end) 8
    ∷ refused_after "8: on the second seat" (gold ++ over "A" (seat "1" "9" "0" "0" ∷ []) [] ++ held "I" "2" ++ held "K" "5" ++ held "H" "9") (held "Q" "6" ++ end) 8
    ∷ refused_after "8: locked up, on one seat" (gold_up ++ begins (bytes "A") ++ held "I" "1" ++ held "K" "9" ++ held "H" "5") (held "Q" "6" ++ seat "2" "0" "9" "0" ++ end) 8
    ∷ refused_after "9: on the sum, though each seat is covered" gold (over "A" (seat "1" "5" "0" "0" ∷ seat "2" "4" "0" "0" ∷ []) (bought "400.00 8" ∷ []) ++ end) 9
    ∷ prints "the sum is covered" (book gold (over "A" (seat "1" "5" "0" "0" ∷ seat "2" "4" "0" "0" ∷ []) (bought "400.00 9" ∷ []) ∷ [])) "total 0\nleft 0\nA N 0\n"
    ∷ loses "a long seat beside a short one: the newest of the net" (book gold (over "A" (buys "1" "10" ∷ sells "2" "4" ∷ []) (bought "410.00 5" ∷ bought "420.00 6" ∷ []) ∷ [])) 12_000
    ∷ prints "a long seat beside a short one: net 6 is covered" (book gold (over "A" (buys "1" "10" ∷ sells "2" "4" ∷ []) (bought "440.00 6" ∷ []) ∷ [])) "total 0\nleft 6\nA P 0\n"
    ∷ prints "long and short seats of the same size: net 0" (book gold (over "A" (buys "1" "5" ∷ sells "2" "5" ∷ []) [] ∷ [])) "total 0\nleft 0\nA N 0\n"
    ∷ prints "the side of the sum is that of neither seat alone"
    (book gold (over "A" (seat "1" "5" "3" "5" ∷ sells "2" "9" ∷ []) (sold "440.00 7" ∷ []) ∷ pending "9" ∷ [])) "total 7\nleft 2\nA 1 7\nP P 7\n"
    ∷ prints "pending is capped by the sum's net, and not seat by seat"
    (book gold (over "A" (seat "1" "5" "3" "5" ∷ seat "2" "5" "0" "0" ∷ []) (bought "440.00 7" ∷ []) ∷ [])) "total 0\nleft 5\nA P 0\n"
    ∷ long_over "P by Q, and not by lots held" (seat "1" "9" "0" "1" ∷ seat "2" "5" "0" "5" ∷ []) "4" "4" "2" "4" (seat_entry "1" "1" ∷ seat_entry "2" "3" ∷ [])
    ∷ long_over "P by Q, also where pending is capped" (seat "1" "6" "0" "6" ∷ seat "2" "6" "8" "3" ∷ []) "9" "4" "0" "4" (seat_entry "1" "3" ∷ seat_entry "2" "1" ∷ [])
    ∷ long_over "a seat with nothing unfilled has nothing" (seat "1" "9" "0" "0" ∷ buys "2" "5" ∷ empty "3" ∷ []) "3" "3" "2" "3" (seat_entry "1" "0" ∷ seat_entry "2" "3" ∷ seat_entry "3" "0" ∷ [])
    ∷ reports "nothing offered: nothing at each seat" (book gold (over "P" (buys "1" "5" ∷ buys "2" "5" ∷ []) (bought "440.00 99" ∷ []) ∷ []))
    (totals "0" "10" ++ entry_over "P" "P" "0" (seat_entry "1" "0" ∷ seat_entry "2" "0" ∷ []))
    ∷ long_over "equal remainders to the smaller seat code" (buys "B" "3" ∷ buys "C" "3" ∷ buys "A" "3" ∷ []) "5" "5" "4" "5" (seat_entry "B" "2" ∷ seat_entry "C" "1" ∷ seat_entry "A" "2" ∷ [])
    ∷ long_over "a seat code that begins another is smaller" (buys "AA" "1" ∷ buys "A0" "1" ∷ buys "A" "1" ∷ []) "1" "1" "2" "1" (seat_entry "AA" "0" ∷ seat_entry "A0" "0" ∷ seat_entry "A" "1" ∷ [])
    ∷ long_over "the largest remainder before the smaller code" (buys "A" "4" ∷ buys "B" "5" ∷ buys "C" "5" ∷ []) "7" "7" "7" "7" (seat_entry "A" "2" ∷ seat_entry "B" "3" ∷ seat_entry "C" "2" ∷ [])
    ∷ short_over "a tier by lots held on the net side, gross" (seat "1" "4" "6" "4" ∷ sells "2" "6" ∷ []) "6" "6" "0" (seat_entry "1" "3" ∷ seat_entry "2" "3" ∷ [])
    ∷ short_over "a long seat of somebody short has no weight" (buys "1" "2" ∷ sells "2" "6" ∷ sells "3" "6" ∷ []) "5" "5" "0" (seat_entry "1" "0" ∷ seat_entry "2" "3" ∷ seat_entry "3" "2" ∷ [])
    ∷ short_over "the whole net, where seats hold more" (seat "1" "4" "9" "0" ∷ sells "2" "3" ∷ []) "9" "8" "1" (seat_entry "1" "6" ∷ seat_entry "2" "2" ∷ [])
    ∷ reports "locked up: P by Q, the tier by K" (book gold_up
    (over "A" (seat "1" "0" "4" "1" ∷ seat "2" "0" "4" "3" ∷ []) (sold "360.00 8" ∷ []) ∷ over "B" (seat "1" "1" "0" "0" ∷ seat "2" "4" "0" "0" ∷ []) (bought "360.00 5" ∷ []) ∷ []))
    (totals "4" "0" ++ entry_over "A" "P" "4" (seat_entry "1" "1" ∷ seat_entry "2" "3" ∷ []) ++ entry_over "B" "1" "4" (seat_entry "1" "1" ∷ seat_entry "2" "3" ∷ []))
    ∷ reports "four million lots, a million at each seat" (book gold
    (over "P" (millions buys) (bought "440.00 1000000" ∷ bought "440.00 1000000" ∷ bought "440.00 1000000" ∷ bought "440.00 1000000" ∷ [])
    ∷ over "W" (millions sells) (sold "440.00 1000000" ∷ sold "440.00 1000000" ∷ sold "440.00 1000000" ∷ sold "440.00 1000000" ∷ [])
    ∷ []))
    (totals "4000000" "0" ++ entry_over "P" "P" "4000000" million_each ++ entry_over "W" "1" "4000000" million_each)
    ∷ answers "11: the seats count in the length needed" (book gold (over "A" four_seats [] ∷ [])) 51 11 52 []
    ∷ []
