-- The code's tests are the definition's.
-- Assumes nothing.
use native.Mathlib.Nat.{sub-zero}
use borrow.Author.Rules.{rules}
use borrow.Author.Tests.{eq-eqb, ne_eqb}
use native.Mathlib.Omega.{arith}
use Rattle.cascade.proofs.weight_of.Statement.{statement}
use Rattle.cascade.proofs.weight_of.Tie as tie

returns : tie.Need-returns-then-standing-k
returns c = rw (ne_eqb _ _ c.if-standing-k.true)

sub-result : tie.Need-overflow_sub-result
sub-result c = c.requires.within (omega (arith, c.if-standing-k.false, c.if-k-eq0.true))

cast-result : tie.Need-overflow_cast-result
cast-result c = search rules

returns-2 : tie.Need-returns-then-k-eq0
returns-2 c = rw (eq-eqb _ _ c.if-standing-k.false, eq-eqb _ _ c.if-k-eq0.true)

returns-3 : tie.Need-returns
returns-3 c = rw (eq-eqb _ _ c.if-standing-k.false, ne_eqb _ _ c.if-k-eq0.false, sub-zero)

pub weight_of_spec : {M : Type 1} → statement M
weight_of_spec = tie.close (tie.spec returns sub-result cast-result returns-2 returns-3)
