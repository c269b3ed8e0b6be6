-- Request [10]: what a viewer that reads column by column is answered. "standings as the bytes P, 1, 2, 3, N; offered, pending as counted before
-- the cascade, and offsets, in lots, in book order. Number and place are document 01's table".
-- Assumes nothing.
use Rattle.std.specs.Prelude.{ℕ, min, ◌≡◌, List, map, length}
use Rattle.rules.specs.declared.Terms.{Terms}
use Rattle.rules.specs.Book.{Customer, Verdict, Refused, Accepted, judge}
use Rattle.rules.specs.Cascade.{line_of, outcome}
use Rattle.rules.specs.Report.{letter}
use Rattle.rules.specs.Answer.{refused, fitted, lent}
use Rattle.rules.specs.Answer.{Answer as Answer01}
use Rattle.answers.specs.declared.Answer.{Answer}
use Rattle.columns.specs.Layouts.{to_columns}

-- the four runs that a viewer lends
pub record Runs : Type 0 where
  pub standings : List ℕ
  pub offered : List ℕ
  pub pending : List ℕ
  pub offsets : List ℕ

abbrev pub runs : List ℕ → List ℕ → List ℕ → List ℕ → Runs
runs standings offered pending offsets = record { standings = standings; offered = offered; pending = pending; offsets = offsets }

-- The customers in columns: their offsets as after the cascade, all else as before it
unfoldable pub view : Terms → List Customer → Runs
view terms cs =
    let before = to_columns (map (line_of terms) cs) in
    let after = to_columns (outcome terms cs).lines in
    runs (map letter before.standings) before.offered before.pending after.offsets

-- "A run with fewer places than customers is 11, with the number of places needed as place": the room is that of the shortest
abbrev pub places_of : Runs → ℕ
places_of r = min (min (length r.standings) (length r.offered)) (min (length r.pending) (length r.offsets))

-- what is answered of one run: "accepted: length is the number of customers, and the first so many places of each run are filled"
abbrev pub viewed_of : ℕ → Verdict → (Runs → List ℕ) → Answer01
viewed_of room (Refused n place) run = refused n place
viewed_of room (Accepted terms cs) run = fitted room (run (view terms cs))

unfoldable pub viewed : List ℕ → ℕ → (Runs → List ℕ) → Answer01
viewed s room run = viewed_of room (judge s) run

-- What a call returns and leaves in the four runs that it was lent, where each run has its answer; the numbers are the same for all four, and stand with
-- the first
pub record Viewed (answer : (Runs → List ℕ) → Answer01) (entry exit : Runs) (r : Answer) : Type 0 where
  pub number : r.number ≡ (answer (λ v. v.standings)).number
  pub place : r.place ≡ (answer (λ v. v.standings)).place
  pub length : r.length ≡ (answer (λ v. v.standings)).length
  pub standings : exit.standings ≡ lent (answer (λ v. v.standings)) entry.standings
  pub offered : exit.offered ≡ lent (answer (λ v. v.offered)) entry.offered
  pub pending : exit.pending ≡ lent (answer (λ v. v.pending)) entry.pending
  pub offsets : exit.offsets ≡ lent (answer (λ v. v.offsets)) entry.offsets
