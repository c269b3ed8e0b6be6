-- What is left is never more than the lent buffer holds.
-- Assumes nothing.
use Rattle.std.specs.Prelude.{ℕ, ◌≤◌, List, ltb, length}
use Rattle.std.proofs.Common.{arith, ltb-false}
use Rattle.rules.specs.Book.{Verdict, Refused, Accepted, judge}
use Rattle.laws.specs.ByTest.{by_test}
use Rattle.sheets.specs.Mark.{is_mark}
use Rattle.sheets.specs.Read.{Read, Bad, Made, read}
use Rattle.sheets.specs.Write.{sheet_of}
use Rattle.sheets.specs.Answers.{left, in_room, left_book, of_read, to_book, of_verdict, to_sheet}

room_fits : (room n place : ℕ) (s : List ℕ) → (in_room room s (left s n place)).length ≤ room
room_fits room n place s = by_test (ltb room (length s)) (λ e. simp e (omega arith)) (λ e. simp e (ltb-false room (length s) e))

pub book_fits : (sheet : List ℕ) (room : ℕ) → (to_book sheet room).length ≤ room
unfolding to_book
book_fits sheet room = go (read sheet)
  where
    judged : (book : List ℕ) (v : Verdict) → (in_room room book (left_book book v)).length ≤ room
    judged book (Refused n place) = room_fits room n place book
    judged book (Accepted terms cs) = room_fits room 0 0 book

    go : (r : Read) → (of_read room r).length ≤ room
    go (Bad n place) = omega arith
    go (Made book) = judged book (judge book)

pub sheet_fits : (book : List ℕ) (mark room : ℕ) → (to_sheet book mark room).length ≤ room
unfolding to_sheet
sheet_fits book mark room = by_test (is_mark mark) (λ e. simp e (go (judge book))) (λ e. simp e (omega arith))
  where
    go : (v : Verdict) → (of_verdict mark room book v).length ≤ room
    go (Refused n place) = omega arith
    go (Accepted terms cs) = room_fits room 0 0 (sheet_of mark book)
