-- Too few places, or the steps of the days.
-- Assumes nothing.
use Rattle.locks.proofs.Answers.{no_room, with_room}
use Rattle.locks.proofs.show.Goals as goal

pub returns-then-steps-count : goal.returns-then-steps-count
returns-then-steps-count c = rw (c.refused.ensures, c.number.ensures) (no_room _ c.args.list.count c.requires c.args.steps.now c.if-steps-count.true)

pub returns : goal.returns
returns c = rw c.accepted.ensures (with_room _ c.args.list.count c.requires c.args.steps.now c.if-steps-count.false c.fill.ensures)
