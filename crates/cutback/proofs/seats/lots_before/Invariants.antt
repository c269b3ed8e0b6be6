use Rattle.std.proofs.Common.{length}
use Rattle.cutback.proofs.Lots.{Gone}
use Rattle.cutback.proofs.seats.lots_before.Given as goal

abbrev pub invariant-loop-key : goal.invariant-loop-key
invariant-loop-key l = Gone l.keys l.lots l.i (length l.yielded) l.sum
