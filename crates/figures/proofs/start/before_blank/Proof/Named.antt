-- The parts of the proof that are named after a test of the function: edits of must-fail/ respell them.
use Rattle.std.proofs.Common.{sym}
use Rattle.figures.proofs.Fronts.{before_blank_lem, no_blank}
use Rattle.figures.proofs.start.before_blank.Tie as tie

pub returns-3 : tie.Need-returns-then-v-end-ne32
returns-3 c = sym (no_blank _ _ _ _ _ c.in-Ends.is c.if-v-end-ne32.true)

pub returns-4 : tie.Need-returns
returns-4 c = sym (before_blank_lem _ _ _ _ _ c.in-Ends.is c.if-v-end-ne32.false)
