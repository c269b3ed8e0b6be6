-- The days passed, those that are left, and the bytes put down.
-- Assumes nothing.
use Rattle.days.specs.Places.{days_left}
use Rattle.watch.specs.Filling.{spans_in, Watched}
use Rattle.watch.proofs.fill.Given as goal

abbrev pub invariant-loop-i : goal.invariant-loop-i
invariant-loop-i l = record {
  can : (goal.iterator-loop-i).can_next l.i-iterator;
  finite : (goal.iterator-loop-i).is_finite l.i-iterator;
  watched : Watched l.list.metal l.initial.spans (spans_in l.list.metal (days_left l.fn.list.days)) (days_left l.i-iterator.iter) l.i-iterator.count l.window l.spans;
}
