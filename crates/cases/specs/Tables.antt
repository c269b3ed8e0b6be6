-- The makers of the tables' books and reports. The layout of terms, customers, trades and entries is said here and nowhere else
-- in the tables.
-- Assumes nothing.
use Rattle.std.specs.Prelude.{ℕ, List, [], ◌∷◌, ◌++◌}
use Prim.Native.Char.{Char}
use Prim.Native.String.{String}
use Rattle.rules.specs.Text.{bytes}
use Rattle.rules.specs.Report.{field, joined}

-- D, and what stands before X
abbrev pub lock : String → List ℕ
lock d = field "D" (bytes d)

-- one of X, S, L, U, V
abbrev pub term : Char → String → List ℕ
term tag v = field tag (bytes v)

-- D and X, and what stands before S
abbrev pub front : String → String → List ℕ
front d x = lock d ++ term "X" x

-- L, U, V
abbrev pub edges : String → String → String → List ℕ
edges l u v = term "L" l ++ term "U" u ++ term "V" v

-- the terms of a book whose prices have as many decimals as its X says
abbrev pub terms_with : String → String → String → String → String → String → List ℕ
terms_with d x s l u v = front d x ++ term "S" s ++ edges l u v

-- "Document 01's listing takes 2", and so do its other cases
abbrev pub terms : String → String → String → String → String → List ℕ
terms d s l u v = terms_with d "2" s l u v

-- "S 400.00, gold edges, locked down": what stands before each of the terms, and all of them
abbrev pub before_s : List ℕ
before_s = front "D" "2"

abbrev pub before_l : List ℕ
before_l = before_s ++ term "S" "400.00"

abbrev pub before_u : List ℕ
before_u = before_l ++ term "L" "8.000"

abbrev pub before_v : List ℕ
before_v = before_u ++ term "U" "8.000"

abbrev pub gold : List ℕ
gold = before_v ++ term "V" "4.000"

-- gold's terms, locked up
abbrev pub gold_up : List ℕ
gold_up = terms "U" "400.00" "8.000" "8.000" "4.000"

-- trades whose value is written whole: a price, a blank, lots, a blank, the day, a blank, the time
abbrev pub bought_as : String → List ℕ
bought_as v = field "B" (bytes v)

abbrev pub sold_as : String → List ℕ
sold_as v = field "A" (bytes v)

-- "document 01's cases take one day and time": a price, a blank, lots, and these
abbrev pub made : List ℕ
made = bytes " 20250115 1000"

abbrev pub bought : String → List ℕ
bought v = field "B" (bytes v ++ made)

abbrev pub sold : String → List ℕ
sold v = field "A" (bytes v ++ made)

-- C, and what stands before the seats
abbrev pub begins : List ℕ → List ℕ
begins code = field "C" code

-- one of I, K, H, Q
abbrev pub held : Char → String → List ℕ
held tag n = field tag (bytes n)

-- I, K, H, Q
abbrev pub seat : String → String → String → String → List ℕ
seat code k h q = held "I" code ++ held "K" k ++ held "H" h ++ held "Q" q

-- C, the seats, then the trades
abbrev pub seated : List ℕ → List (List ℕ) → List (List ℕ) → List ℕ
seated code seats trades = begins code ++ joined (λ s. s) seats ++ joined (λ t. t) trades

-- "01's cases take one seat": C, and what stands before its K
abbrev pub the_seat : String
the_seat = "M1"

abbrev pub begins_seated : List ℕ → List ℕ
begins_seated code = begins code ++ held "I" the_seat

abbrev pub group : List ℕ → String → String → String → List (List ℕ) → List ℕ
group code k h q trades = seated code (seat the_seat k h q ∷ []) trades

abbrev pub customer : String → String → String → String → List (List ℕ) → List ℕ
customer c k h q trades = group (bytes c) k h q trades

abbrev pub end : List ℕ
end = field "Z" []

-- the terms, the groups, Z
abbrev pub book : List ℕ → List (List ℕ) → List ℕ
book tms groups = tms ++ joined (λ g. g) groups ++ end

-- a report: T and R, and of each customer C, E, O, then I and J of each seat
abbrev pub totals : String → String → List ℕ
totals t r = field "T" (bytes t) ++ field "R" (bytes r)

abbrev pub seat_entry : String → String → List ℕ
seat_entry i j = field "I" (bytes i) ++ field "J" (bytes j)

abbrev pub entry_over : String → String → String → List (List ℕ) → List ℕ
entry_over c e o seats = field "C" (bytes c) ++ field "E" (bytes e) ++ field "O" (bytes o) ++ joined (λ s. s) seats

-- with one seat, which has all of the offset
abbrev pub entry : String → String → String → List ℕ
entry c e o = entry_over c e o (seat_entry the_seat o ∷ [])
