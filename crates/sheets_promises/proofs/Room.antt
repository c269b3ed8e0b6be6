-- Rooms that are enough: 120,000 bytes for the book of every sheet, since it is at most twice as long, and 60,000 for the sheet of every book.
-- Assumes nothing.
use Rattle.std.specs.Prelude.{ℕ, ◌≤◌, ◌≡◌, List}
use Rattle.std.proofs.Common.{arith}
use Rattle.sheets.specs.Answers.{to_book, to_sheet}
use Rattle.sheets_promises.specs.BookBack.{Bytes, sheet_short}
use Rattle.sheets_promises.proofs.Refused.{made_because}
use Rattle.sheets_promises.specs.Sizes.{book_size}
use Rattle.sheets_promises.specs.WriteReasons.{room_23}
use Rattle.sheets_promises.proofs.ReadReasons.{book_23}

-- "its buffers are always large enough (a sheet of 60,000 bytes can make a book near 120,000)"
pub enough_for_books : (s : List ℕ) (room : ℕ) → 120_000 ≤ room → (to_book s room).number ≡ 23 → ⊥
enough_for_books s room h e =
    let (b, made, more) = (book_23 s room).0 e in
    omega (arith, (book_size s b made).1, ((made_because s).0 (b, made)).short)

pub enough_for_sheets : (b : List ℕ) → Bytes b → (m room : ℕ) → 60_000 ≤ room → (to_sheet b m room).number ≡ 23 → ⊥
enough_for_sheets b k m room h e =
    let (mark, good, more) = (room_23 b m room).0 e in
    omega (arith, sheet_short m mark b k good.terms good.customers good.accepted)
