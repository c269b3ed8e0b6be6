-- What was counted, with what is left to read, is what there is.
-- Assumes nothing.
use Rattle.std.proofs.Common.{◌≡◌, ◌+◌, ◌≤◌, length, drop}
use Rattle.days.specs.Lines.{lines_of}
use Rattle.days.specs.Listed.{days_from}
use Rattle.days.specs.Places.{count_of, days_left}
use Rattle.days.proofs.Counts.{counted}
use Rattle.days.proofs.count_days.Given as goal

abbrev pub invariant-loop-day : goal.invariant-loop-day
invariant-loop-day l = record {
  all : counted l.count (days_left l.day-iterator) ≡ count_of (days_from l.fn.long 1 (lines_of (drop l.fn.start l.s)));
  few : l.count + length (days_left l.day-iterator) ≤ length l.s;
}
