use Rattle.cutback.proofs.Lots.{Added}
use Rattle.cutback.proofs.seats.sum_lots.Given as goal

abbrev pub invariant-loop-held : goal.invariant-loop-held
invariant-loop-held l = Added l.lots l.held-index l.sum
