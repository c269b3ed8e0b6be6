-- Request [8], what goes in and what must come out: books made, books made and refused, every refusal of a sheet with both sides of what it tells
-- apart, rooms, and books written.
-- Assumes nothing.
use Rattle.std.specs.Prelude.{◌+◌, ◌-◌, List, [], ◌∷◌, ◌++◌, length, replicate}
use Prim.Native.Char.{code}
use Rattle.rules.specs.Text.{bytes}
use Rattle.cases.specs.Tables.{front, lock, term, gold, before_l, edges, begins, held, seat, bought, bought_as, sold_as, end}
use Rattle.cases.specs.Cases.{the_listing}
use Rattle.sheets_promises.specs.Case.{Case, leaves, makes, refuses, has_no_room, writes, writes_not}
use Rattle.sheets_promises.specs.Sheets.{comma, point, made, comma_listing, point_listing, silver, comma_silver, point_silver, seats_book, comma_seats, to_seat, to_trades}

-- cases that wrong readings are tried on
abbrev pub own_in_lots : Case
own_in_lots = leaves "own mark in K" (comma "C;A\nI;M1;1,0;0;0\n") (made (to_seat ∷ held "K" "1.0" ∷ held "H" "0" ∷ held "Q" "0" ∷ [])) 5 (length (gold ++ to_seat))

abbrev pub in_code : Case
in_code = leaves "own mark in a customer's code" (comma "C;A,B\n") (made (begins (bytes "A,B") ∷ [])) 5 (length gold)

abbrev pub point_in_s : Case
point_in_s = refuses "a point in S" (bytes "mark,\nD;D\nX;2\nS;400.00\n") 21 4

abbrev pub both : Case
both = refuses "22 before 21: parts of S" (bytes "mark,\nS;400.00;\n") 22 2

abbrev pub thousand : Case
thousand = refuses "a comma in K" (bytes "mark.\nI;M1;1,000;0;0\n") 21 2

abbrev pub misplaced : Case
misplaced = leaves "a letter out of its place" (bytes "mark,\nX;2\n") (term "X" "2" ++ end) 3 0

abbrev pub in_day : Case
in_day = leaves "own mark in a day" (comma "C;A\nI;M1;1;0;0\nB;410,00;1;2025,0115;1000\n") (made (to_trades ∷ bought_as "410.00 1 2025,0115 1000" ∷ [])) 4 (length (gold ++ to_trades))

abbrev pub first_line : Case
first_line = refuses "an empty line" (bytes "mark,\n\n") 22 2

abbrev pub written_listing : Case
written_listing = writes "the listing in commas" (the_listing "8.000") "," comma_listing

unfoldable pub books_made_of : List Case
books_made_of =
    makes "the listing as a comma sheet" comma_listing (the_listing "8.000")
    ∷ makes "the listing as a point sheet" point_listing (the_listing "8.000")
    ∷ makes "silver as a comma sheet" comma_silver silver
    ∷ makes "silver as a point sheet" point_silver silver
    ∷ makes "seats, and trades on both sides" comma_seats seats_book
    ∷ makes "no customers" (comma "") (made [])
    -- its own mark in a figure that has no point becomes one, and no comma is dropped
    ∷ own_in_lots
    ∷ leaves "own mark in H" (comma "C;A\nI;M1;0;1,0;0\n") (made (to_seat ∷ held "K" "0" ∷ held "H" "1.0" ∷ held "Q" "0" ∷ [])) 5 (length (gold ++ to_seat ++ held "K" "0"))
    ∷ leaves "own mark in Q" (comma "C;A\nI;M1;1;0;1,0\n") (made (to_seat ∷ held "K" "1" ∷ held "H" "0" ∷ held "Q" "1.0" ∷ [])) 5 (length (gold ++ to_seat ++ held "K" "1" ++ held "H" "0"))
    ∷ leaves "own mark in the lots of a trade" (comma "C;A\nI;M1;1;0;0\nB;410,00;1,5;20250115;1000\n") (made (to_trades ∷ bought "410.00 1.5" ∷ [])) 5 (length (gold ++ to_trades))
    ∷ leaves "own mark as thousands" (comma "C;A\nI;M1;1,000,000;0;0\n") (made (to_seat ∷ held "K" "1.000.000" ∷ held "H" "0" ∷ held "Q" "0" ∷ [])) 5 (length (gold ++ to_seat))
    -- codes, D, X, day and time are carried over as they are, with either mark
    ∷ in_code
    ∷ leaves "other mark in a customer's code" (comma "C;A.B\n") (made (begins (bytes "A.B") ∷ [])) 5 (length gold)
    ∷ leaves "own mark in a seat's code" (comma "C;A\nI;M,1;0;0;0\n") (made (begins (bytes "A") ∷ seat "M,1" "0" "0" "0" ∷ [])) 5 (length (gold ++ begins (bytes "A")))
    ∷ leaves "other mark in a seat's code" (point "C;A\nI;M,1;0;0;0\n") (made (begins (bytes "A") ∷ seat "M,1" "0" "0" "0" ∷ [])) 5 (length (gold ++ begins (bytes "A")))
    ∷ leaves "other mark in D" (bytes "mark,\nD;.\n") (lock "." ++ end) 5 0
    ∷ leaves "own mark in D" (bytes "mark,\nD;,\n") (lock "," ++ end) 5 0
    ∷ leaves "other mark in X" (bytes "mark.\nD;D\nX;2,\n") (front "D" "2," ++ end) 5 4
    ∷ leaves "own mark in X" (bytes "mark,\nD;D\nX;2,\n") (front "D" "2," ++ end) 5 4
    ∷ in_day
    ∷ leaves "other mark in a day" (point "C;A\nI;M1;1;0;0\nB;410.00;1;2025,0115;1000\n") (made (to_trades ∷ bought_as "410.00 1 2025,0115 1000" ∷ [])) 4 (length (gold ++ to_trades))
    ∷ leaves "own mark in a time" (comma "C;A\nI;M1;1;0;0\nA;410,00;1;20250115;10,00\n") (made (to_trades ∷ sold_as "410.00 1 20250115 10,00" ∷ [])) 4 (length (gold ++ to_trades))
    ∷ leaves "other mark in a time" (comma "C;A\nI;M1;1;0;0\nA;410,00;1;20250115;10.00\n") (made (to_trades ∷ sold_as "410.00 1 20250115 10.00" ∷ [])) 5 (length (gold ++ to_trades))
    -- a good letter out of its place, and what the book's table refuses otherwise
    ∷ misplaced
    ∷ leaves "a term twice" (comma "V;4,000\n") (made (term "V" "4.000" ∷ [])) 3 (length gold)
    ∷ leaves "the mark line alone" (bytes "mark.\n") end 3 0
    ∷ leaves "a customer without a seat" (comma "C;A\n") (made (begins (bytes "A") ∷ [])) 3 (length (gold ++ begins (bytes "A")))
    -- "Empty parts are parts"; a carriage return and a blank stay where they are
    ∷ leaves "an empty S" (bytes "mark,\nD;D\nX;2\nS;\n") (front "D" "2" ++ term "S" "" ++ end) 5 8
    ∷ leaves "empty parts of a seat" (comma "C;A\nI;;;;\n") (made (begins (bytes "A") ∷ seat "" "" "" "" ∷ [])) 5 (length (gold ++ begins (bytes "A")))
    ∷ leaves "empty parts of a trade" (comma "C;A\nI;M1;1;0;0\nB;;;;\n") (made (to_trades ∷ bought_as "   " ∷ [])) 5 (length (gold ++ to_trades))
    ∷ leaves "a carriage return in the last part" (bytes "mark,\nD;D\r\n") (lock "D\r" ++ end) 5 0
    ∷ leaves "a carriage return behind a time" (comma "C;A\nI;M1;1;0;0\nB;410,00;1;20250115;1000\r\n") (made (to_trades ∷ bought_as "410.00 1 20250115 1000\r" ∷ [])) 5 (length (gold ++ to_trades))
    ∷ leaves "a blank in a part" (comma "C;A\nI;M1;1;0;0\nB;410,00 ;1;20250115;1000\n") (made (to_trades ∷ bought_as "410.00  1 20250115 1000" ∷ [])) 5 (length (gold ++ to_trades))
    ∷ []

-- 1 and 20
unfoldable pub sheets_refused : List Case
sheets_refused =
    refuses "60,001 bytes" (replicate 60_001 (code "\n")) 1 0
    ∷ refuses "60,000 bytes" (replicate 60_000 (code "\n")) 20 1
    ∷ refuses "an empty sheet" [] 20 1
    ∷ refuses "mark;" (bytes "mark;\nD;D\n") 20 1
    ∷ refuses "mark, without its line feed" (bytes "mark,") 20 1
    ∷ refuses "Mark," (bytes "Mark,\nD;D\n") 20 1
    ∷ refuses "mark, with a carriage return" (bytes "mark,\r\nD;D\r\n") 20 1
    ∷ refuses "mark without a mark" (bytes "mark\nD;D\n") 20 1
    ∷ refuses "mark with both marks" (bytes "mark,.\nD;D\n") 20 1
    ∷ refuses "a blank before mark," (bytes " mark,\nD;D\n") 20 1
    ∷ refuses "an empty first line" (bytes "\nmark,\nD;D\n") 20 1
    ∷ refuses "no mark line" (bytes "D;D\n") 20 1
    ∷ []

-- 22, also where the line has 21 too
unfoldable pub lines_refused : List Case
lines_refused =
    first_line
    ∷ refuses "an empty line at the end" (comma "\n") 22 8
    ∷ refuses "K" (comma "C;A\nK;1\n") 22 9
    ∷ refuses "H" (comma "C;A\nH;1\n") 22 9
    ∷ refuses "Q" (comma "C;A\nQ;1\n") 22 9
    ∷ refuses "Z" (comma "Z;\n") 22 8
    ∷ refuses "Z without a part" (comma "Z\n") 22 8
    ∷ refuses "two letters" (bytes "mark,\nDD;D\n") 22 2
    ∷ refuses "a small letter" (bytes "mark,\nd;D\n") 22 2
    ∷ refuses "no letter" (bytes "mark,\n;D\n") 22 2
    ∷ refuses "another mark line" (bytes "mark,\nmark,\n") 22 2
    ∷ refuses "no semicolon" (bytes "mark,\nD\n") 22 2
    ∷ refuses "a comma for the semicolon" (bytes "mark.\nD,D\n") 22 2
    ∷ refuses "two parts of D" (bytes "mark,\nD;D;\n") 22 2
    ∷ refuses "two parts of C" (comma "C;A;B\n") 22 8
    ∷ refuses "four parts of S" (bytes "mark,\nS;1;2;3;4\n") 22 2
    ∷ refuses "one part of I" (comma "C;A\nI;M1\n") 22 9
    ∷ refuses "three parts of I" (comma "C;A\nI;M1;0;0\n") 22 9
    ∷ refuses "five parts of I" (comma "C;A\nI;M1;0;0;0;\n") 22 9
    ∷ refuses "two parts of B" (comma "C;A\nI;M1;0;0;0\nB;410,00;1\n") 22 10
    ∷ refuses "three parts of A" (comma "C;A\nI;M1;0;0;0\nA;410,00;1;20250115\n") 22 10
    ∷ refuses "five parts of B" (comma "C;A\nI;M1;0;0;0\nB;410,00;1;20250115;1000;\n") 22 10
    ∷ refuses "bytes after the last line feed" (bytes "mark,\nD;D\nX;2") 22 3
    ∷ refuses "one byte after the last line feed" (bytes "mark,\nD;D\n\r") 22 3
    ∷ both
    ∷ refuses "22 before 21: parts of I" (comma "C;A\nI;M1;0.0;0\n") 22 9
    ∷ refuses "22 before 21: parts of B" (comma "B;410.00;1\n") 22 8
    ∷ refuses "22 before 21: no line feed" (bytes "mark,\nS;400.00") 22 2
    ∷ refuses "22 before 21: the letter" (bytes "mark,\nK;1.0\n") 22 2
    ∷ refuses "the first bad line, by 21" (bytes "mark,\nS;400.00\n\n") 21 2
    ∷ refuses "the first bad line, by 22" (bytes "mark,\n\nS;400.00\n") 22 2
    ∷ []

-- 21
unfoldable pub marks_refused : List Case
marks_refused =
    point_in_s
    ∷ refuses "a comma in S" (bytes "mark.\nD;D\nX;2\nS;400,00\n") 21 4
    ∷ refuses "L written 8.000 in a comma sheet" (bytes "mark,\nD;D\nX;2\nS;400,00\nL;8.000\n") 21 5
    ∷ refuses "L written 8,000 in a point sheet" (bytes "mark.\nD;D\nX;2\nS;400.00\nL;8,000\n") 21 5
    ∷ refuses "a point in U" (bytes "mark,\nU;8.000\n") 21 2
    ∷ refuses "a comma in U" (bytes "mark.\nU;8,000\n") 21 2
    ∷ refuses "a point in V" (bytes "mark,\nV;8.000\n") 21 2
    ∷ refuses "a comma in V" (bytes "mark.\nV;8,000\n") 21 2
    ∷ refuses "a point in K" (bytes "mark,\nI;M1;1.000;0;0\n") 21 2
    ∷ thousand
    ∷ refuses "a point in H" (bytes "mark,\nI;M1;0;.;0\n") 21 2
    ∷ refuses "a comma in H" (bytes "mark.\nI;M1;0;,;0\n") 21 2
    ∷ refuses "a point in Q" (bytes "mark,\nI;M1;0;0;0.\n") 21 2
    ∷ refuses "a comma in Q" (bytes "mark.\nI;M1;0;0;0,\n") 21 2
    ∷ refuses "a point in the price of B" (bytes "mark,\nB;410.00;1;20250115;1000\n") 21 2
    ∷ refuses "a comma in the price of A" (bytes "mark.\nA;410,00;1;20250115;1000\n") 21 2
    ∷ refuses "a point in the lots of A" (bytes "mark,\nA;410,00;1.0;20250115;1000\n") 21 2
    ∷ refuses "a comma in the lots of B" (bytes "mark.\nB;410.00;1,0;20250115;1000\n") 21 2
    ∷ refuses "both marks in S" (bytes "mark,\nS;1.000,00\n") 21 2
    ∷ []

-- 23 for either call, the mark byte of a call, and books written
unfoldable pub rooms_and_books : List Case
rooms_and_books =
    has_no_room "a byte too few for a book" comma_listing (length (the_listing "8.000") - 1)
    ∷ has_no_room "no room for a book that would be refused" (bytes "mark.\n") 2
    ∷ written_listing
    ∷ writes "the listing in points" (the_listing "8.000") "." point_listing
    ∷ writes "silver in commas" silver "," comma_silver
    ∷ writes "silver in points" silver "." point_silver
    ∷ writes "seats in commas" seats_book "," comma_seats
    ∷ writes "no customers in points" (made []) "." (point "")
    ∷ writes_not "a byte too few for a sheet" (made []) (code ",") (length (comma "") - 1) 23 0
    ∷ writes_not "a book that is refused, with no room" (the_listing "8,000") (code ",") 0 4 17
    ∷ writes_not "a book of a refused book's fields" (before_l ++ edges "8.000" "4.000" "8.000" ++ end) (code ".") 1_000 6 (length (before_l ++ term "L" "8.000" ++ term "U" "4.000"))
    ∷ writes_not "an empty book" [] (code ",") 0 2 0
    ∷ writes_not "a book that is too long" (replicate 60_001 0) (code ",") 0 1 0
    ∷ writes_not "a semicolon as the mark" (the_listing "8.000") (code ";") 1_000 20 0
    ∷ writes_not "0 as the mark, before the book is judged" (the_listing "8,000") 0 0 20 0
    ∷ writes_not "256 and a comma as the mark" (made []) (256 + code ",") 1_000 20 0
    ∷ []
