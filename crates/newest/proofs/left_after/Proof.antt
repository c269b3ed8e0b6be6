-- `newest::left_after` meets its contract: by its two tests.
-- Assumes nothing.
use native.Mathlib.Omega.{arith}
use borrow.Author.Rules.{rules}
use borrow.Author.Tests.{eq-eqb, ne_eqb}
use Rattle.newest.proofs.left_after.Statement.{statement}
use Rattle.newest.proofs.left_after.Tie as tie

sub-result : tie.Need-overflow_sub-result
sub-result c = search rules

returns : tie.Need-returns-then-lots-left
returns c = let a = c.args in rw (eq-eqb a.stamp a.e (omega arith))

returns-2 : tie.Need-returns-else-lots-left
returns-2 c = let a = c.args in rw (eq-eqb a.stamp a.e (omega arith)) (omega arith)

returns-3 : tie.Need-returns
returns-3 c = let a = c.args in rw (ne_eqb a.stamp a.e (λ z. omega arith)) (omega arith)

pub left_after_spec : {M : Type 1} → statement M
left_after_spec = tie.close (tie.spec sub-result returns returns-2 returns-3)
