-- The lots that are read, and those of the lines that are left, are those of the first four lines.
-- Assumes nothing.
use Rattle.cutback.specs.Lines.{lines_of}
use Rattle.cutting.proofs.Rows.{Taken}
use Rattle.cutting.proofs.read_lots.Given as goal

abbrev pub invariant-loop-k : goal.invariant-loop-k
invariant-loop-k l = Taken (lines_of l.lines) (lines_of l.rest) l.lots l.k
