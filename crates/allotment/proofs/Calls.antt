-- What a book comes to is its answer and its listing.
-- Assumes nothing.
use Prim.Native.Nat.{ℕ, ◌≤◌}
use mathlib.Core.Path.{◌≡◌, refl, sym, ap, subst, ◌∙◌}
use mathlib.Core.Bool.{Bool, not}
use mathlib.Core.List.{List}
use native.Mathlib.Omega.{arith}
use lib.ListN.{length}
use Rattle.rules.specs.declared.Terms.{Terms}
use Rattle.rules.specs.Book.{Customer, Verdict, Refused, Accepted, judge}
use Rattle.rules.specs.Report.{listing_of, listing}
use Rattle.rules.specs.Answer.{fitted, answer_of, answer}
use Rattle.rules.specs.Answer.{refused as refused01}
use Rattle.laws.specs.Sane.{accepted_sane}
use Rattle.consequences.specs.ReportLength.{report_length}
use Rattle.report.specs.Sheet.{report_bytes, listing_bytes, Placed}
use Rattle.allotment.specs.declared.Closed.{Closed}
use Rattle.allotment.specs.Worked.{listing_room, report_room, sheet_of, Shows}
use Rattle.allotment.specs.Listed.{Judged}

-- a refused book: nothing is written
pub record Stops (s : List ℕ) (n place : ℕ) : Type 0 where
  pub answers : (room : ℕ) → answer s room ≡ refused01 n place
  pub lists : listing s ≡ listing_of (Refused n place)
  pub judged : Judged (judge s) n place

pub stops : {s : List ℕ} {n place : ℕ} → judge s ≡ Refused n place → Stops s n place
unfolding answer listing
stops {s} {n} {place} j =
    record { answers = λ room. ap (answer_of room) j; lists = ap listing_of j; judged = subst (λ (v : Verdict). Judged v n place) (sym j) (refl, refl) }

-- an accepted one: its columns show the outcome
pub record Goes (s starts standings : List ℕ) (count : ℕ) (down : Bool) (d : Closed) : Type 0 where
  pub placed : Placed s starts standings d.offset count (not down)
  pub short : length (listing_bytes (sheet_of s starts standings count d)) ≤ listing_room
  pub fits : length (report_bytes (sheet_of s starts standings count d)) ≤ report_room
  pub answers : (room : ℕ) → answer s room ≡ fitted room (report_bytes (sheet_of s starts standings count d))
  pub lists : listing s ≡ listing_bytes (sheet_of s starts standings count d)
  pub judged : Judged (judge s) 0 0

pub goes : {s : List ℕ} {terms : Terms} {cs : List Customer} {keys starts standings stakes : List ℕ} {count : ℕ} {down : Bool} {d : Closed} →
    judge s ≡ Accepted terms cs → Shows s terms cs keys starts standings stakes count down d → Goes s starts standings count down d
unfolding answer listing
goes {s} {terms} {cs} j h =
    record {
      placed = h.placed;
      short = h.short;
      fits = rw h.reports (omega (arith, report_length s terms cs j, (accepted_sane s terms cs j).few));
      answers = λ room. ap (answer_of room) j ∙ ap (fitted room) (sym h.reports);
      lists = ap listing_of j ∙ sym h.lists;
      judged = subst (λ (v : Verdict). Judged v 0 0) (sym j) (refl, refl);
    }
