-- What the readers of a group may take for granted of the terms: figures in their ranges.
-- Assumes nothing.
use Rattle.std.specs.Prelude.{◌≤◌}
use Rattle.rules.specs.declared.Terms.{Terms}

pub record Sound (terms : Terms) : Type 0 where
  pub settlement : terms.settlement.0 ≤ 9_999_999
  pub loss : terms.loss.0 ≤ 99_999
  pub edge1 : terms.edge1.0 ≤ 99_999
  pub edge2 : terms.edge2.0 ≤ 99_999
