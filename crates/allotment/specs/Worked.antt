-- What a book comes to: the columns that its roll fills, run through the cascade, show its outcome.
-- Assumes nothing.
use Rattle.std.specs.Prelude.{ℕ, ◌-◌, ◌≤◌, ◌≡◌, Bool, not, List, map, length, replicate}
use Rattle.rules.specs.declared.Terms.{Terms}
use Rattle.rules.specs.Limits.{most_customers}
use Rattle.rules.specs.Division.{sum_of}
use Rattle.rules.specs.Book.{Customer}
use Rattle.rules.specs.Cascade.{pending_of, line_of, outcome}
use Rattle.rules.specs.Report.{report, listed}
use Rattle.laws.specs.Keys.{key_of}
use Rattle.laws.specs.Recode.{recode}
use Rattle.cascade.specs.declared.Cascade.{Cascade}
use Rattle.cascade.specs.Columns.{Columns, columns, lines_of}
use Rattle.cascade.specs.State.{after_all}
use Rattle.report.specs.Sheet.{Sheet, sheet, report_bytes, listing_bytes, Placed}
use Rattle.allotment.specs.declared.Closed.{Closed}

-- a buffer that every listing fits
abbrev pub listing_room : ℕ
listing_room = 8_192

-- and one that every report fits
abbrev pub report_room : ℕ
report_room = 33_050

-- the cascade's state before tier 1
abbrev pub at_first : Cascade
at_first = record { offset = replicate most_customers 0; total = 0 }

-- what it leaves after tier 3
abbrev pub closed_of : Columns → Closed
closed_of c =
    record {
      offset = (after_all c at_first).offset;
      total = (after_all c at_first).total;
      residue = sum_of pending_of (lines_of c at_first.offset) - (after_all c at_first).total;
    }

-- the book's customers as they are written, where so many have this offset
abbrev pub sheet_of : List ℕ → List ℕ → List ℕ → ℕ → Closed → Sheet
sheet_of book starts standings count d = sheet book starts standings d.offset count d.total d.residue

-- The columns and the book show an outcome: with keys for codes, the lines of the customers before the cascade, and the outcome's after it
pub record Shows (book : List ℕ) (terms : Terms) (cs : List Customer) (keys starts standings stakes : List ℕ) (count : ℕ) (down : Bool) (d : Closed) : Type 0 where
  pub before : lines_of (columns keys standings stakes count) at_first.offset ≡ map (recode key_of) (map (line_of terms) cs)
  pub after : lines_of (columns keys standings stakes count) d.offset ≡ map (recode key_of) (outcome terms cs).lines
  pub placed : Placed book starts standings d.offset count (not down)
  pub reports : report_bytes (sheet_of book starts standings count d) ≡ report (outcome terms cs)
  pub lists : listing_bytes (sheet_of book starts standings count d) ≡ listed (outcome terms cs)
  pub short : length (listing_bytes (sheet_of book starts standings count d)) ≤ listing_room
