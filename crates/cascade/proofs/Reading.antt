-- What is read of a row is what its columns hold.
-- Assumes nothing.
use Prim.Native.Nat.{ℕ}
use mathlib.Core.Path.{◌≡◌, refl, sym, ap, ◌∙◌}
use mathlib.Core.List.{List, map}
use lib.ListN.{get_or, get_or-map}
use Rattle.division.specs.Shares.{at}
use Rattle.cascade.specs.State.{Within, weight_in, weight_at}
use Rattle.cascade.specs.declared.rows.Row.{Row}
use Rattle.cascade.specs.Rows.{standing_in, stake_in, offset_in, no_row}

module _ (rows : List Row) (i : ℕ) where
  abbrev row : Row
  row = get_or rows i no_row

  pub value_is : (f : Row → ℕ) → f no_row ≡ 0 → f row ≡ at (map f rows) i
  value_is f e = sym (ap (get_or (map f rows) i) (sym e) ∙ get_or-map f rows i no_row)

  pub row_within : Within (at (map standing_in rows) i) (at (map stake_in rows) i) (at (map offset_in rows) i) → Within row.standing row.stake row.offset
  row_within w = rw (value_is standing_in refl, value_is stake_in refl, value_is offset_in refl) w

  pub row_weight : (k : ℕ) → weight_in k row.standing row.stake row.offset ≡ weight_at k (map standing_in rows) (map stake_in rows) (map offset_in rows) i
  row_weight k = rw (value_is standing_in refl, value_is stake_in refl, value_is offset_in refl)
