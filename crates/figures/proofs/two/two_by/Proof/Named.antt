-- The parts of the proof that are named after a test of the function: edits of must-fail/ respell them.
use Rattle.std.proofs.Common.{rules}
use Rattle.figures.proofs.Twos.{no_ones, two_wrapped}
use Rattle.figures.proofs.two.two_by.Tie as tie

pub returns : tie.Need-returns-then-digit_of-gt9
returns c = no_ones _ _ (c.digit_of.ensures.none c.if-digit_of-gt9.true)

pub returns-2 : tie.Need-returns
returns-2 c =
    let e = c in
    two_wrapped _ _ _ (search rules) (e.digit_of.ensures.digit e.if-digit_of-gt9.false).0 (search rules) c.wrapping_sub_u64.ensures
