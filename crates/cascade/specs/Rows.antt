-- The customers in rows: an array of rows holds the runs that the columns are.
-- Assumes nothing.
use Rattle.std.specs.Prelude.{ℕ, ◌-◌, ◌≤◌, ◌≡◌, List, [], ◌∷◌, map, length, get_or, replicate}
use Rattle.rules.specs.Limits.{most_customers}
use Rattle.rules.specs.Cascade.{Line}
use Rattle.laws.specs.Filled.{filled}
use Rattle.division.specs.Shares.{at}
use Rattle.cascade.specs.declared.Cascade.{Cascade}
use Rattle.cascade.specs.Columns.{standing_of, offered_as, pending_as, Columns, columns}
use Rattle.cascade.specs.declared.rows.Row.{Row}
use Rattle.cascade.specs.declared.rows.Rows.{Rows}

abbrev pub key_in : Row → ℕ
key_in r = r.key

abbrev pub standing_in : Row → ℕ
standing_in r = r.standing

abbrev pub stake_in : Row → ℕ
stake_in r = r.stake

abbrev pub offset_in : Row → ℕ
offset_in r = r.offset

-- the row of customer i of the columns, and rows of nothing
abbrev pub row_at : List ℕ → List ℕ → List ℕ → List ℕ → ℕ → Row
row_at keys standings stakes offset i = record { key = at keys i; standing = at standings i; stake = at stakes i; offset = at offset i }

-- a row's line: still pending is its stake less its offset
abbrev pub line_in : Row → Line
line_in r =
    let s = standing_of r.standing in
    record { code = r.key ∷ []; seats = []; standing = s; offered = offered_as s r.stake; pending = pending_as s r.stake - r.offset; offset = r.offset }

abbrev pub no_row : Row
no_row = record { key = 0; standing = 0; stake = 0; offset = 0 }

abbrev pub no_rows : List Row
no_rows = replicate most_customers no_row

-- so many customers stand in columns, or fit into them
pub record Turnable (keys standings stakes offset : List ℕ) (count : ℕ) : Type 0 where
  pub few : count ≤ most_customers
  pub keyed : count ≤ length keys
  pub stood : count ≤ length standings
  pub staked : count ≤ length stakes
  pub wide : count ≤ length offset

-- the customers of rows in columns, which behind are as they were
pub record Turned (rows : List Row) (count : ℕ) (keys₀ standings₀ stakes₀ offset₀ keys standings stakes offset : List ℕ) : Type 0 where
  pub keyed : keys ≡ filled (at (map key_in rows)) count keys₀
  pub stood : standings ≡ filled (at (map standing_in rows)) count standings₀
  pub staked : stakes ≡ filled (at (map stake_in rows)) count stakes₀
  pub wide : offset ≡ filled (at (map offset_in rows)) count offset₀

-- rows of which the first n have other offsets
abbrev pub with_offset : List Row → (ℕ → ℕ) → ℕ → Row
with_offset rows f i = let r = get_or rows i no_row in record { key = r.key; standing = r.standing; stake = r.stake; offset = f i }

abbrev pub offset_by : (ℕ → ℕ) → ℕ → List Row → List Row
offset_by f n rows = filled (with_offset rows f) n rows

-- the cascade's columns of so many customers, and its state
abbrev pub columns_of : List Row → ℕ → Columns
columns_of rows count = columns (map key_in rows) (map standing_in rows) (map stake_in rows) count

abbrev pub state_of : Rows → Cascade
state_of r = record { offset = map offset_in r.rows; total = r.total }
