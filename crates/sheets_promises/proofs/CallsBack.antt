-- There and back through both calls, from an accepted book.
-- Assumes nothing.
use Rattle.std.specs.Prelude.{ℕ, ◌≤◌, ◌≡◌, List, true, length}
use Rattle.std.proofs.Common.{ap, ◌∙◌}
use borrow.Author.Tests.{le-ltb}
use Rattle.rules.specs.declared.Terms.{Terms}
use Rattle.rules.specs.Book.{Customer, Accepted, judge}
use Rattle.rules.specs.Answer.{Answer}
use Rattle.sheets.specs.Mark.{is_mark}
use Rattle.sheets.specs.Write.{sheet_of}
use Rattle.sheets.specs.Answers.{left, left_book, to_book, to_sheet}
use Rattle.sheets_promises.specs.BookBack.{Bytes}
use Rattle.sheets_promises.proofs.BookBack.{book_back}
use Rattle.sheets_promises.specs.Calls.{book_left}

-- an accepted book to sheet to book, through both calls, with buffers that are large enough
pub book_call_back : (m : ℕ) → is_mark m ≡ true → (s : List ℕ) → Bytes s → (terms : Terms) (cs : List Customer) → judge s ≡ Accepted terms cs → (room back : ℕ) → length (sheet_of m s) ≤ room → length s ≤ back →
    (to_sheet s m room ≡ left (sheet_of m s) 0 0) × (to_book (to_sheet s m room).report back ≡ left s 0 0)
unfolding to_sheet
book_call_back m k s b terms cs e room back h g =
    let there : to_sheet s m room ≡ left (sheet_of m s) 0 0 = rw (k, e, le-ltb room (length (sheet_of m s)) h) in
    (there, ap (λ (a : Answer). to_book a.report back) there ∙ book_left (sheet_of m s) back s (book_back m k s b terms cs e) g ∙ ap (left_book s) e)
