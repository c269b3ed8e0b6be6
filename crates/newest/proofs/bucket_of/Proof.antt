-- `newest::bucket_of` meets its contract: by its tests.
-- Assumes nothing.
use native.Mathlib.Omega.{arith}
use borrow.Author.Rules.{rules}
use borrow.Author.Tests.{lt-ltb, le-ltb}
use Rattle.newest.proofs.bucket_of.Statement.{statement}
use Rattle.newest.proofs.bucket_of.Tie as tie

returns : tie.Need-returns-then-stamp-low
returns c = let a = c.args in (rw (lt-ltb a.stamp a.low (omega arith)), omega arith)

div-n : tie.Need-nonzero_div-n
div-n c = search rules

returns-2 : tie.Need-returns-then-n-lt72
returns-2 c = let a = c.args in (rw (le-ltb a.stamp a.low (omega arith)) (omega arith), omega arith)

returns-3 : tie.Need-returns-else-n-lt72
returns-3 c = let a = c.args in (rw (le-ltb a.stamp a.low (omega arith)) (omega arith), omega arith)

pub bucket_of_spec : {M : Type 1} → statement M
bucket_of_spec = tie.close (tie.spec returns div-n returns-2 returns-3)
