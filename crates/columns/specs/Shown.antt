-- The runs that the product's own columns come to: standings as bytes, stakes, and offsets after the cascade.
-- Assumes nothing.
use Rattle.std.specs.Prelude.{ℕ, ◌≤◌, List, map, length}
use Rattle.rules.specs.Report.{letter}
use Rattle.laws.specs.Sums.{up_to}
use Rattle.laws.specs.Filled.{filled}
use Rattle.division.specs.Shares.{at}
use Rattle.cascade.specs.Columns.{standing_of, offered_as, pending_as}
use Rattle.columns.specs.View.{Runs, runs}

module _ (bytes stakes offset : List ℕ) where
  abbrev pub letter_at_of : ℕ → ℕ
  letter_at_of i = letter (standing_of (at bytes i))

  abbrev pub offered_at : ℕ → ℕ
  offered_at i = offered_as (standing_of (at bytes i)) (at stakes i)

  abbrev pub pending_at : ℕ → ℕ
  pending_at i = pending_as (standing_of (at bytes i)) (at stakes i)

  abbrev pub shown_in : ℕ → Runs
  shown_in n = runs (map letter_at_of (up_to n)) (map offered_at (up_to n)) (map pending_at (up_to n)) (map (at offset) (up_to n))

  pub record Columned (count : ℕ) : Type 0 where
    pub stood : count ≤ length bytes
    pub staked : count ≤ length stakes
    pub wide : count ≤ length offset

  -- the runs with so many customers in their first places
  abbrev pub over : ℕ → Runs → Runs
  over n r = runs (filled letter_at_of n r.standings) (filled offered_at n r.offered) (filled pending_at n r.pending) (filled (at offset) n r.offsets)

-- each run has so many places
pub record Roomy (count : ℕ) (r : Runs) : Type 0 where
  pub standings : count ≤ length r.standings
  pub offered : count ≤ length r.offered
  pub pending : count ≤ length r.pending
  pub offsets : count ≤ length r.offsets
