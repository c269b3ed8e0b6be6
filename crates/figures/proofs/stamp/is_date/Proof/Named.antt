-- The parts of the proof that are named after a test of the function: edits of must-fail/ respell them.
use Rattle.std.proofs.Common.{◌+◌, arith, le-leb}
use borrow.Author.Tests.{lt-leb}
use Rattle.figures.proofs.stamp.is_date.Tie as tie

pub returns : tie.Need-returns-then-y-gt99
returns c =
    let a = c.args in
    simp (le-leb 2_000 (2_000 + a.y) (omega arith), lt-leb (2_000 + a.y) 2_099 (omega arith))
