-- `positions::overdrawn_by` meets its contract: the side that is locked decides.
-- Assumes nothing.
use Rattle.positions.proofs.overdrawn_by.Statement.{statement}
use Rattle.positions.proofs.overdrawn_by.Tie as tie

returns : tie.Need-returns-then-terms
returns c = rw c.if-terms.true

returns-2 : tie.Need-returns-else-terms
returns-2 c = rw c.if-terms.false

pub overdrawn_by_spec : {M : Type 1} → statement M
overdrawn_by_spec = tie.close (tie.spec returns returns-2)
