-- Number 0 or another.
-- Assumes nothing.
use borrow.Author.Rules.{rules}
use borrow.Author.Tests.{eq-eqb, ne_eqb}
use Rattle.roll.proofs.ended.Statement.{statement}
use Rattle.roll.proofs.ended.Tie as tie

returns : tie.Need-returns-then-last-eq-ACCEPTED
returns c = rw (eq-eqb _ _ c.if-last-eq-ACCEPTED.true)

refused-requires : tie.Need-refused-requires
refused-requires c κs = search rules

returns-2 : tie.Need-returns
returns-2 c = rw (ne_eqb _ _ c.if-last-eq-ACCEPTED.false) c.refused.ensures

pub ended_spec : {M : Type 1} → statement M
ended_spec = tie.close (tie.spec returns refused-requires returns-2)
