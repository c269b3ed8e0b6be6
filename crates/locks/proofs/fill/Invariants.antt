-- The days passed, what was read ahead and what is left, and the rungs put down.
-- Assumes nothing.
use Rattle.std.proofs.Common.{◌≡◌, None, []}
use Rattle.days.specs.Places.{days_left}
use Rattle.locks.specs.Climbing.{rungs_in, with_ahead, Climbed}
use Rattle.locks.proofs.fill.Given as goal

abbrev pub invariant-loop-i : goal.invariant-loop-i
invariant-loop-i l = record {
  climbed : Climbed l.initial.steps (rungs_in (days_left l.fn.list.days)) l.list.count l.before l.so_far (with_ahead l.ahead (days_left l.days)) l.i l.steps;
  none : l.ahead ≡ None → days_left l.days ≡ [];
}
