-- The test of the code is the test of the definition, way by way.
-- Assumes nothing.
use Prim.Native.Nat.{◌+◌}
use native.Mathlib.Omega.{arith}
use borrow.Author.Tests.{lt-ltb, le-ltb, eq-eqb, ne_eqb}
use lib.Dec.{ltb}
use Rattle.laws.specs.Sums.{one_le}
use Rattle.division.proofs.Order.{counted}
use borrow.Author.Rules.{rules}
use Rattle.division.proofs.one_more.Statement.{statement}
use Rattle.division.proofs.one_more.Tie as tie

returns : tie.Need-returns-then-lack-edge
returns c = (simp (lt-ltb _ _ c.if-lack-edge.true), omega arith)

cast-result : tie.Need-overflow_cast-result
cast-result c = search rules

returns-2 : tie.Need-returns-then-lack-edge-2
returns-2 c =
    let a = c.args in
    let e = counted a.key a.most in
    (simp (le-ltb _ _ c.if-lack-edge.false, eq-eqb _ _ c.if-lack-edge-2.true) e, omega (arith, e, one_le (ltb a.key (a.most + 1))))

returns-3 : tie.Need-returns
returns-3 c = (simp (le-ltb _ _ c.if-lack-edge.false, ne_eqb _ _ c.if-lack-edge-2.false), omega arith)

pub one_more_spec : {M : Type 1} → statement M
one_more_spec = tie.close (tie.spec returns cast-result returns-2 returns-3)
