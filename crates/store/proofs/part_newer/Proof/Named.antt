-- The parts of the proof that are named after a test of the function: edits of must-fail/ respell them.
use native.Mathlib.Omega.{arith}
use borrow.Author.Tests.{le-leb, lt-leb}
use Prim.Native.Nat.{◌+◌}
use Rattle.store.proofs.part_newer.Tie as tie

pub returns : tie.Need-returns-then-than-stamp
returns c = let a = c.args in (rw (c.if-behind.true, le-leb a.than a.stamp (omega arith)), omega arith)

pub returns-2 : tie.Need-returns-else-than-stamp
returns-2 c = let a = c.args in (rw (c.if-behind.true, lt-leb a.than a.stamp (omega arith)), omega arith)

pub returns-3 : tie.Need-returns-then-than-stamp-2
returns-3 c = let a = c.args in (rw (c.if-behind.false, le-leb (a.than + 1) a.stamp (omega arith)), omega arith)

pub returns-4 : tie.Need-returns-else-than-stamp-2
returns-4 c = let a = c.args in (rw (c.if-behind.false, lt-leb (a.than + 1) a.stamp (omega arith)), omega arith)
