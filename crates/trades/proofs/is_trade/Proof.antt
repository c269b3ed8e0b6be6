-- `trades::is_trade` meets its contract: either letter will do.
-- Assumes nothing.
use borrow.Author.Tests.{eq-eqb, ne_eqb}
use Rattle.trades.proofs.is_trade.Statement.{statement}
use Rattle.trades.proofs.is_trade.Tie as tie

returns : tie.Need-returns-then-tag-eq-B
returns c = simp (eq-eqb _ _ c.if-tag-eq-B.true)

returns-2 : tie.Need-returns-else-tag-eq-B
returns-2 c = simp (ne_eqb _ _ c.if-tag-eq-B.false)

pub is_trade_spec : {M : Type 1} → statement M
is_trade_spec = tie.close (tie.spec returns returns-2)
