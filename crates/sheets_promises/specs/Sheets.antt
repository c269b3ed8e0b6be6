-- The sheets of the tables, in either mark: the terms of document 01's cases, its listing, and the books that they make.
-- Assumes nothing.
use Rattle.std.specs.Prelude.{ℕ, List, [], ◌∷◌, ◌++◌}
use Prim.Native.String.{String}
use Rattle.rules.specs.Text.{bytes}
use Rattle.rules.specs.Report.{joined}
use Rattle.cases.specs.Tables.{terms_with, gold, begins, seat, seated, held, bought, sold, end, book}

-- "S 400.00, gold edges, locked down", and lines behind the terms
abbrev pub comma : String → List ℕ
comma lines = bytes "mark,\nD;D\nX;2\nS;400,00\nL;8,000\nU;8,000\nV;4,000\n" ++ bytes lines

abbrev pub point : String → List ℕ
point lines = bytes "mark.\nD;D\nX;2\nS;400.00\nL;8.000\nU;8.000\nV;4.000\n" ++ bytes lines

-- the book of those terms and these fields
abbrev pub made : List (List ℕ) → List ℕ
made fields = gold ++ joined (λ f. f) fields ++ end

-- "One listing in full"
abbrev pub comma_listing : List ℕ
comma_listing =
    comma "C;W3\nI;M1;0;1;0\nA;410,00;1;20250115;1000\nC;P2\nI;M1;4;0;4\nB;440,00;4;20250115;1000\nC;W1\nI;M1;0;3;0\nA;440,00;3;20250115;1000\n"
    ++ bytes "C;P1\nI;M1;8;2;6\nB;440,00;8;20250115;1000\nA;440,00;2;20250115;1000\nC;W2\nI;M1;0;5;0\nA;420,00;5;20250115;1000\n"

abbrev pub point_listing : List ℕ
point_listing =
    point "C;W3\nI;M1;0;1;0\nA;410.00;1;20250115;1000\nC;P2\nI;M1;4;0;4\nB;440.00;4;20250115;1000\nC;W1\nI;M1;0;3;0\nA;440.00;3;20250115;1000\n"
    ++ bytes "C;P1\nI;M1;8;2;6\nB;440.00;8;20250115;1000\nA;440.00;2;20250115;1000\nC;W2\nI;M1;0;5;0\nA;420.00;5;20250115;1000\n"

-- silver: prices are whole figures, rates are not
abbrev pub silver : List ℕ
silver = book (terms_with "U" "0" "5000" "8.000" "12.000" "6.000") (seated (bytes "P1") (seat "M1" "0" "3" "3" ∷ []) (sold "4500 3" ∷ []) ∷ [])

abbrev pub comma_silver : List ℕ
comma_silver = bytes "mark,\nD;U\nX;0\nS;5000\nL;8,000\nU;12,000\nV;6,000\nC;P1\nI;M1;0;3;3\nA;4500;3;20250115;1000\n"

abbrev pub point_silver : List ℕ
point_silver = bytes "mark.\nD;U\nX;0\nS;5000\nL;8.000\nU;12.000\nV;6.000\nC;P1\nI;M1;0;3;3\nA;4500;3;20250115;1000\n"

-- a customer of two seats, with trades on both sides, and one without trades
abbrev pub seats_book : List ℕ
seats_book =
    made
    (seated (bytes "A1") (seat "M1" "5" "0" "2" ∷ seat "M2" "1" "4" "0" ∷ []) (bought "410.00 6" ∷ sold "400.00 4" ∷ []) ∷ seated (bytes "A2") (seat "M1" "0" "0" "0" ∷ []) [] ∷ [])

abbrev pub comma_seats : List ℕ
comma_seats = comma "C;A1\nI;M1;5;0;2\nI;M2;1;4;0\nB;410,00;6;20250115;1000\nA;400,00;4;20250115;1000\nC;A2\nI;M1;0;0;0\n"

-- the book up to a customer's seat, and up to its trades
abbrev pub to_seat : List ℕ
to_seat = begins (bytes "A") ++ held "I" "M1"

abbrev pub to_trades : List ℕ
to_trades = begins (bytes "A") ++ seat "M1" "1" "0" "0"
