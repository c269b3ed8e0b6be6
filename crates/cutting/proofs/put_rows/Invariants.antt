-- What is listed, and what stands behind the lines of that.
-- Assumes nothing.
use Rattle.cutting.proofs.Rows.{Put}
use Rattle.cutting.proofs.put_rows.Given as goal

abbrev pub invariant-loop-cut : goal.invariant-loop-cut
invariant-loop-cut l = Put l.fn.out l.lines l.cuts l.out l.rest l.here l.cut-index
