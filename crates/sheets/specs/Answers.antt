-- docs/SHEETS.md. Request [8]: what the calls answer, and what they leave in the lent buffer.
-- Assumes nothing.
use Rattle.std.specs.Prelude.{ℕ, List, cond, length, ltb}
use Rattle.rules.specs.Book.{Verdict, Refused, Accepted, judge}
use Rattle.rules.specs.Answer.{Answer, refused}
use Rattle.sheets.specs.Refusal as refusal
use Rattle.sheets.specs.Mark.{is_mark}
use Rattle.sheets.specs.Read.{Read, Bad, Made, read}
use Rattle.sheets.specs.Write.{sheet_of}

-- all of some bytes at the front of the buffer, with a number and a place
abbrev pub left : List ℕ → ℕ → ℕ → Answer
left s n place = record { number = n; place = place; length = length s; report = s }

-- "then 23 no room for the result (place 0)"
abbrev pub in_room : ℕ → List ℕ → Answer → Answer
in_room room s a = cond (ltb room (length s)) (refused refusal.no_result 0) a

-- "A book made is then judged by the book's own table, 11 aside, and stays in the buffer even if refused"
abbrev pub left_book : List ℕ → Verdict → Answer
left_book book (Refused n place) = left book n place
left_book book (Accepted terms cs) = left book 0 0

abbrev pub of_read : ℕ → Read → Answer
of_read room (Bad n place) = refused n place
of_read room (Made book) = in_room room book (left_book book (judge book))

-- the answer for a sheet and a buffer of so many bytes
unfoldable pub to_book : List ℕ → ℕ → Answer
to_book sheet room = of_read room (read sheet)

-- "a book to be written is judged so first"
abbrev pub of_verdict : ℕ → ℕ → List ℕ → Verdict → Answer
of_verdict mark room book (Refused n place) = refused n place
of_verdict mark room book (Accepted terms cs) = in_room room (sheet_of mark book) (left (sheet_of mark book) 0 0)

-- the answer for a book, a mark and a buffer of so many bytes; "another byte in the call for C is 20 at 0, before all else"
unfoldable pub to_sheet : List ℕ → ℕ → ℕ → Answer
to_sheet book mark room = cond (is_mark mark) (of_verdict mark room book (judge book)) (refused refusal.no_mark 0)
