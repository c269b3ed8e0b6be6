-- The lines of i days stand behind the first line.
-- Assumes nothing.
use Rattle.std.proofs.Common.{◌≡◌, length}
use Rattle.intake.specs.Rolled.{Rolled}
use Rattle.ladder.proofs.Lines.{rung_line}
use Rattle.ladder.proofs.listing.put_days.Given as goal

abbrev pub invariant-loop-i : goal.invariant-loop-i
invariant-loop-i l = record {
  long : length l.out ≡ length l.initial.out;
  rolled : Rolled rung_line l.rungs l.initial.out l.out l.initial.at l.at l.i;
}
