-- What may be taken for granted of a position: its lots are not above a bound.
-- Assumes nothing.
use Rattle.std.specs.Prelude.{ℕ, ◌≤◌}
use Rattle.rules.specs.declared.Position.{Position}

pub record Few (most : ℕ) (p : Position) : Type 0 where
  pub long : p.long.0 ≤ most
  pub short : p.short.0 ≤ most
  pub unfilled : p.unfilled.0 ≤ most
