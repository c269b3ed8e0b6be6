-- What the code says of the book that it makes: a line's fields, where they are written, and what is answered and left in the lent buffer.
-- Assumes nothing.
use Rattle.std.specs.Prelude.{ℕ, ◌+◌, ◌≤◌, ◌<◌, ◌≡◌, List, false, cond, length, drop, ltb, eqb, Result}
use Rattle.rules.specs.Limits.{longest_book}
use Rattle.rules.specs.Book.{Step, Next}
use Rattle.days.specs.Lines.{lines_of}
use Rattle.writing.specs.Written.{Room, Wrote, written}
use Rattle.sheets.specs.declared.reading.Put.{Put}
use Rattle.sheets.specs.declared.refusal.Refusal.{Refusal}
use Rattle.sheets.specs.Refusal as refusal
use Rattle.sheets.specs.Read.{Read, Bad, lines_from}
use Rattle.sheets.specs.Read.{Made as Whole}
use Rattle.sheets.specs.Places.{front_of, of_front, size_of}
use Rattle.sheets.specs.Sizes.{fields_in, book_of, Tells}

-- what the line that begins at a place comes to
abbrev pub line_at : ℕ → List ℕ → ℕ → Step (List ℕ)
line_at mark s at = of_front mark (front_of (drop at s))

-- it is good, and its fields fit into the buffer; a semicolon is no mark
pub record Ready (mark : ℕ) (s : List ℕ) (at place : ℕ) (buffer : List ℕ) : Type 0 where
  pub here : at < length s
  pub short : length s ≤ longest_book
  pub good : line_at mark s at ≡ Next (fields_in (line_at mark s at))
  pub room : Room place (fields_in (line_at mark s at)) buffer
  pub unlike : eqb 59 mark ≡ false

-- they were written, and the next line begins at `next`
pub record Puts (mark : ℕ) (s : List ℕ) (at place : ℕ) (entry exit : List ℕ) (r : Put) : Type 0 where
  pub wrote : Wrote place (fields_in (line_at mark s at)) entry exit r.place
  pub ends : r.next ≡ at + size_of (front_of (drop at s))
  pub forward : at < r.next
  pub within : r.next ≤ length s

-- the lines from a place on make a book that fits into the buffer
pub record Takes (mark : ℕ) (s : List ℕ) (start : ℕ) (buffer : List ℕ) : Type 0 where
  pub inside : start ≤ length s
  pub short : length s ≤ longest_book
  pub good : lines_from mark 2 (lines_of (drop start s)) ≡ Whole (book_of (lines_from mark 2 (lines_of (drop start s))))
  pub room : Room 0 (book_of (lines_from mark 2 (lines_of (drop start s)))) buffer
  pub unlike : eqb 59 mark ≡ false

-- what is answered, and what stands in a buffer afterwards that had `entry`
abbrev pub made_in : ℕ → Read → Read
made_in room (Bad n place) = Bad n place
made_in room (Whole book) = cond (ltb room (length book)) (Bad refusal.no_result 0) (Whole book)

abbrev pub left_in : List ℕ → Read → List ℕ
left_in entry (Bad n place) = entry
left_in entry (Whole book) = cond (ltb (length entry) (length book)) entry (written 0 book entry)

pub record Makes (r : Read) (entry exit : List ℕ) (made : Result ℕ Refusal) : Type 0 where
  pub answer : Tells (made_in (length entry) r) made
  pub buffer : exit ≡ left_in entry r
