use Rattle.std.proofs.Common.{◌+◌, ◌-◌, ◌*◌, ◌≤◌, length, drop}
use Rattle.days.specs.Lines.{lines_of}
use Rattle.sheets.specs.Read.{lines_from}
use Rattle.sheets.proofs.Adding.{Added}
use Rattle.sheets.proofs.sizing.size_lines.Given as goal

abbrev pub invariant-loop-at : goal.invariant-loop-at
invariant-loop-at l = record {
  inside : l.at ≤ length l.sheet;
  lines : l.place ≤ l.at + 2;
  few : l.total ≤ 7 * l.at;
  added : Added (lines_from l.mark 2 (lines_of (drop l.start l.sheet))) (lines_from l.mark l.place (lines_of (drop l.at l.sheet))) l.total;
}

abbrev pub decreases-loop-at : goal.decreases-loop-at
decreases-loop-at l = length l.sheet - l.at
