-- What the calls answer, by what is read and what is judged: nothing is written on a sheet's own refusals, nor where the book is longer than the buffer,
-- and otherwise all of the book is left, refused or not. And there and back through both calls.
-- Assumes nothing.
use Rattle.std.specs.Prelude.{ℕ, ◌≤◌, ◌<◌, ◌≡◌, List, true, length}
use Rattle.std.proofs.Common.{ap, ◌∙◌, arith}
use borrow.Author.Tests.{lt-ltb, le-ltb}
use Rattle.rules.specs.declared.Terms.{Terms}
use Rattle.rules.specs.Book.{Customer, Accepted, judge}
use Rattle.rules.specs.Answer.{Answer, refused}
use Rattle.days.specs.Lines.{Line}
use Rattle.sheets.specs.Mark.{is_mark}
use Rattle.sheets.specs.Read.{Bad, Made, read}
use Rattle.sheets.specs.Answers.{left, left_book, to_book, to_sheet}
use Rattle.sheets_promises.specs.SheetBack.{mark_of, sheet_back, made_marked}
use Rattle.sheets_promises.specs.LineReasons.{BadAt, no_feed, unformed, strays, later}
use Rattle.sheets_promises.specs.Reasons.{Reason, too_long, no_mark, bad_line}

module _ (s : List ℕ) (room : ℕ) where
  -- "Nothing is written on these"
  pub sheet_refused : (n p : ℕ) → read s ≡ Bad n p → to_book s room ≡ refused n p
  unfolding to_book
  sheet_refused n p e = rw e

  module _ (b : List ℕ) (e : read s ≡ Made b) where
    pub no_room : room < length b → to_book s room ≡ refused 23 0
    unfolding to_book
    no_room h = rw (e, lt-ltb room (length b) h)

    -- "stays in the buffer even if refused"
    pub book_left : length b ≤ room → to_book s room ≡ left_book b (judge b)
    unfolding to_book
    book_left h = rw (e, le-ltb room (length b) h)

-- the numbers of a sheet's own refusals
line_number : {m k n p : ℕ} {ls : List Line} → BadAt m k ls n p → (1 ≤ n) × (n ≤ 22)
line_number no_feed = omega arith
line_number (unformed h) = omega arith
line_number (strays h) = omega arith
line_number (later h x) = line_number x

numbers : {s : List ℕ} {n p : ℕ} → Reason s n p → (1 ≤ n) × (n ≤ 22)
numbers (too_long h) = omega arith
numbers (no_mark h x) = omega arith
numbers (bad_line h x b) = line_number b

pub number_least : {s : List ℕ} {n p : ℕ} → Reason s n p → 1 ≤ n
number_least r = (numbers r).0

pub number_most : {s : List ℕ} {n p : ℕ} → Reason s n p → n ≤ 22
number_most r = (numbers r).1

-- a sheet to book to sheet, in its own mark; an accepted book to sheet to book: proofs/CallsBack.antt
pub sheet_call_back : (s b : List ℕ) (terms : Terms) (cs : List Customer) → read s ≡ Made b → judge b ≡ Accepted terms cs → (room back : ℕ) → length b ≤ room → length s ≤ back →
    (to_book s room ≡ left b 0 0) × (to_sheet (to_book s room).report (mark_of s) back ≡ left s 0 0)
unfolding to_sheet
sheet_call_back s b terms cs e j room back h g =
    let there : to_book s room ≡ left b 0 0 = book_left s room b e h ∙ ap (left_book b) j in
    let x = (made_marked s b e).0 in
    let own : is_mark (mark_of s) ≡ true = ap (λ (l : List ℕ). is_mark (mark_of l)) x.whole ∙ x.either in
    (there, ap (λ (a : Answer). to_sheet a.report (mark_of s) back) there ∙ rw (own, j, sheet_back s b terms cs e j, le-ltb back (length s) g))
