-- The lines of i days stand behind the first line.
-- Assumes nothing.
use Rattle.std.proofs.Common.{◌≡◌, length}
use Rattle.watch.specs.Moves.{day_line}
use Rattle.intake.specs.Rolled.{Rolled}
use Rattle.moves.proofs.listing.put_days.Given as goal

abbrev pub invariant-loop-i : goal.invariant-loop-i
invariant-loop-i l = record {
  long : length l.out ≡ length l.initial.out;
  rolled : Rolled day_line l.bytes l.initial.out l.out l.initial.at l.at l.i;
}
