-- A number, the words of the step and a line feed.
-- Assumes nothing.
use Rattle.std.proofs.Common.{arith}
use Rattle.writing.specs.Written.{join}
use Rattle.intake.specs.Telling.{same_wrote}
use Rattle.ladder.proofs.Lines.{line_size, line_joined}
use Rattle.ladder.proofs.listing.put_day.Goals as goal

pub put_digits-words-requires : goal.put_digits-words-requires
put_digits-words-requires c = omega (arith, line_size c.args.day c.args.step)

pub put_step-end-requires : goal.put_step-end-requires
put_step-end-requires c = omega (arith, line_size c.args.day c.args.step, c.put_digits-words.ensures.next)

pub put_byte-requires : goal.put_byte-requires
put_byte-requires c = omega (arith, line_size c.args.day c.args.step, c.put_digits-words.ensures.next, c.put_step-end.ensures.next)

pub returns : goal.returns
returns c =
    same_wrote (line_joined c.args.day c.args.step)
    (join (join c.put_digits-words.ensures c.put_step-end.ensures (omega (arith, c.requires))) c.put_byte.ensures (omega (arith, c.requires)))
