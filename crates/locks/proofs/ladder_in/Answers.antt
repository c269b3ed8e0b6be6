-- A list that is accepted, or refused.
-- Assumes nothing.
use Rattle.locks.proofs.Answers.{countable, taken, refused}
use Rattle.locks.proofs.ladder_in.Goals as goal

pub show-requires : goal.show-requires
show-requires c = countable c.args.total c.args.s c.in-Ok.list c.requires c.in-Ok.ensures

pub returns-in-Ok : goal.returns-in-Ok
returns-in-Ok c = rw (taken c.args.total c.args.s c.in-Ok.list _ c.in-Ok.ensures) c.show.ensures

pub returns-in-Err : goal.returns-in-Err
returns-in-Err c = rw (c.refused.ensures, c.number.ensures) (refused c.args.total c.args.s c.in-Err.refusal _ _ c.in-Err.ensures)
