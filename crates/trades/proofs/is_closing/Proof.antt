-- `trades::is_closing` meets its contract: either letter will do.
-- Assumes nothing.
use borrow.Author.Tests.{eq-eqb, ne_eqb}
use Rattle.trades.proofs.is_closing.Statement.{statement}
use Rattle.trades.proofs.is_closing.Tie as tie

returns : tie.Need-returns-then-tag-eq-C
returns c = simp (eq-eqb _ _ c.if-tag-eq-C.true)

returns-2 : tie.Need-returns-else-tag-eq-C
returns-2 c = simp (ne_eqb _ _ c.if-tag-eq-C.false)

pub is_closing_spec : {M : Type 1} → statement M
is_closing_spec = tie.close (tie.spec returns returns-2)
