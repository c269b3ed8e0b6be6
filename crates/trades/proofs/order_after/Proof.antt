-- `trades::order_after` meets its contract: the side and the order before it tell.
-- Assumes nothing.
use mathlib.Core.Path.{sym, ◌∙◌}
use borrow.Author.Rules.{rules}
use Rattle.trades.proofs.order_after.Statement.{statement}
use Rattle.trades.proofs.order_after.Tie as tie

on-side-requires : tie.Need-on_side-requires
on-side-requires c κs = search rules

returns : tie.Need-returns-then-order
returns c = let k = c in simp (sym k.on_side.ensures ∙ k.if-on_side.true, c.if-order.true)

returns-2 : tie.Need-returns-else-order
returns-2 c = simp (sym c.on_side.ensures ∙ c.if-on_side.true, c.if-order.false)

returns-3 : tie.Need-returns
returns-3 c = simp (sym c.on_side.ensures ∙ c.if-on_side.false)

pub order_after_spec : {M : Type 1} → statement M
order_after_spec = tie.close (tie.spec on-side-requires returns returns-2 returns-3)
