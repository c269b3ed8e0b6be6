-- Too few places, or the bytes of the days.
-- Assumes nothing.
use Rattle.watch.proofs.Answers.{no_room, with_room}
use Rattle.watch.proofs.show.Goals as goal

pub returns-then-spans-count : goal.returns-then-spans-count
returns-then-spans-count c =
    let a = c.args in
    rw (c.refused.ensures, c.number.ensures) (no_room a.list.metal _ a.list.count c.requires a.spans.now c.if-spans-count.true)

pub returns : goal.returns
returns c =
    let a = c.args in
    rw c.accepted.ensures (with_room a.list.metal _ a.list.count c.requires a.spans.now c.if-spans-count.false c.fill.ensures)
