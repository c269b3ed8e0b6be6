-- `newest::kept_of` meets its contract: by its three tests.
-- Assumes nothing.
use native.Mathlib.Omega.{arith}
use borrow.Author.Rules.{rules}
use borrow.Author.Tests.{lt-ltb, le-ltb, eq-eqb, ne_eqb}
use Rattle.newest.proofs.kept_of.Statement.{statement}
use Rattle.newest.proofs.kept_of.Tie as tie

returns : tie.Need-returns-then-e-stamp
returns c = let a = c.args in (rw (lt-ltb a.e a.stamp (omega arith)), omega arith)

sub-result : tie.Need-overflow_sub-result
sub-result c = search rules

returns-2 : tie.Need-returns-then-left-lots
returns-2 c = let a = c.args in (rw (le-ltb a.e a.stamp (omega arith), eq-eqb a.stamp a.e (omega arith)), omega arith)

returns-3 : tie.Need-returns-else-left-lots
returns-3 c =
    let a = c.args in
    (rw (le-ltb a.e a.stamp (omega arith), eq-eqb a.stamp a.e (omega arith)) (omega arith), omega arith)

returns-4 : tie.Need-returns-else-stamp-e
returns-4 c = let a = c.args in (rw (le-ltb a.e a.stamp (omega arith), ne_eqb a.stamp a.e (λ z. omega arith)), omega arith)

pub kept_of_spec : {M : Type 1} → statement M
kept_of_spec = tie.close (tie.spec returns sub-result returns-2 returns-3 returns-4)
