-- `roll::end_at` meets its contract: each `return` is one of the definition's cases.
-- Assumes nothing.
use borrow.Author.Tests.{lt-ltb, le-ltb}
use Rattle.roll.proofs.end_at.Statement.{statement}
use Rattle.roll.proofs.end_at.Tie as tie

returns : tie.Need-returns-then-start-end
returns c = simp (lt-ltb _ _ c.if-start-end.true)

returns-2 : tie.Need-returns-then-end-book
returns-2 c = simp (le-ltb _ _ c.if-start-end.false, lt-ltb _ _ c.if-end-book.true)

returns-3 : tie.Need-returns
returns-3 c = simp (le-ltb _ _ c.if-start-end.false, le-ltb _ _ c.if-end-book.false)

pub end_at_spec : {M : Type 1} → statement M
end_at_spec = tie.close (tie.spec returns returns-2 returns-3)
