use Rattle.std.proofs.Common.{◌-◌, length, drop}
use Rattle.days.specs.Lines.{lines_of}
use Rattle.sheets.specs.Read.{lines_from}
use Rattle.sheets.specs.Sizes.{book_of}
use Rattle.sheets.proofs.Left.{Left}
use Rattle.sheets.proofs.reading.put_lines.Given as goal

abbrev pub invariant-loop-at : goal.invariant-loop-at
invariant-loop-at l = Left l.mark l.sheet l.at l.place l.out l.initial.out (book_of (lines_from l.mark 2 (lines_of (drop l.start l.sheet))))

abbrev pub decreases-loop-at : goal.decreases-loop-at
decreases-loop-at l = length l.sheet - l.at
