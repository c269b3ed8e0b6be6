-- The bytes that a book's customers come to, in a report and in a listing: their codes stand in the book, each behind its field's length, and
-- their seats behind their codes.
-- Assumes nothing.
use Rattle.std.specs.Prelude.{ℕ, ◌+◌, ◌-◌, ◌≤◌, ◌<◌, ◌≡◌, Bool, true, false, List, ◌++◌, map, length, get_or, take, drop}
use Rattle.rules.specs.Limits.{most_customers, longest_code}
use Rattle.rules.specs.declared.Standing.{Standing}
use Rattle.rules.specs.Book.{Seat}
use Rattle.rules.specs.Cascade.{Line}
use Rattle.rules.specs.Seats.{seat_weight, weight_in}
use Rattle.rules.specs.Report.{joined, reported, printed}
use Rattle.laws.specs.Sums.{up_to}
use Rattle.seats.specs.Dealt.{seats_at, dealt, Due, seat_of}
use Rattle.cascade.specs.Columns.{standing_of}
use Rattle.writing.specs.Shown.{shown}
use Rattle.entries.specs.Entries.{seat_bytes, report_head}
use Rattle.printing.specs.Printed.{listed_head}

-- the size of a code, whose value starts at a place: the low byte of its field's length; and the line of the customer whose code starts
-- there: its seats stand behind its code
abbrev pub size_at : List ℕ → ℕ → ℕ
size_at book start = get_or book (start - 1) 0

abbrev pub line_from : List ℕ → ℕ → Standing → ℕ → Line
line_from book start standing offset =
    shown (take (size_at book start) (drop start book)) (seats_at book (start + size_at book start)) standing offset

pub record Sheet : Type 0 where
  pub book : List ℕ
  pub starts : List ℕ
  pub standings : List ℕ
  pub offset : List ℕ
  pub count : ℕ
  pub total : ℕ
  pub residue : ℕ

abbrev pub sheet : List ℕ → List ℕ → List ℕ → List ℕ → ℕ → ℕ → ℕ → Sheet
sheet book starts standings offset count total residue =
    record { book = book; starts = starts; standings = standings; offset = offset; count = count; total = total; residue = residue }

abbrev pub line_at : Sheet → ℕ → Line
line_at s i = line_from s.book (get_or s.starts i 0) (standing_of (get_or s.standings i 0)) (get_or s.offset i 0)

-- what stands before the customers, and a customer: in a listing, or in a report
abbrev pub front_bytes : Bool → ℕ → ℕ → List ℕ
front_bytes true = listed_head
front_bytes false = report_head

abbrev pub line_bytes : Bool → Line → List ℕ
line_bytes true = printed
line_bytes false = reported

unfoldable pub sheet_bytes : Bool → Sheet → List ℕ
sheet_bytes listed s = front_bytes listed s.total s.residue ++ joined (line_bytes listed) (map (line_at s) (up_to s.count))

abbrev pub report_bytes : Sheet → List ℕ
report_bytes s = sheet_bytes false s

abbrev pub listing_bytes : Sheet → List ℕ
listing_bytes s = sheet_bytes true s

-- the fields of seats with the lots that stand in an array, and with those of a division by a side
abbrev pub seat_piece : List Seat → List ℕ → ℕ → List ℕ
seat_piece seats lots i = seat_bytes (seat_of seats i).code (get_or lots i 0)

unfoldable pub each_bytes : List Seat → List ℕ → List ℕ
each_bytes seats lots = joined (seat_piece seats lots) (up_to (length seats))

unfoldable pub seats_bytes : Standing → Bool → ℕ → List Seat → List ℕ
seats_bytes standing long offset seats = joined (λ (s : Seat). seat_bytes s.code (dealt standing long offset seats s)) seats

-- a customer's code stands in the book, its seats behind it, which are weighed by this side if by any
pub record Seated (book : List ℕ) (start : ℕ) (standing : Standing) (offset : ℕ) (long : Bool) : Type 0 where
  pub behind : 0 < start
  pub short : size_at book start ≤ longest_code
  pub inside : start + size_at book start ≤ length book
  pub due : Due (seats_at book (start + size_at book start)) standing long offset
  pub side : weight_in (line_from book start standing offset) ≡ seat_weight standing long

-- at most 256 customers, each with a place in the book where its code starts
pub record Placed (book starts standings offset : List ℕ) (count : ℕ) (long : Bool) : Type 0 where
  pub few : count ≤ most_customers
  pub started : count ≤ length starts
  pub stood : count ≤ length standings
  pub wide : count ≤ length offset
  pub seated : (i : ℕ) → i < count → Seated book (get_or starts i 0) (standing_of (get_or standings i 0)) (get_or offset i 0) long
