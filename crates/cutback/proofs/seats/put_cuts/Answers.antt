-- One cut more.
use Rattle.std.proofs.Common.{arith}
use Rattle.laws.specs.Filled.{done_more}
use Rattle.cutback.specs.Keyed.{cut_at}
use Rattle.cutback.proofs.seats.put_cuts.Goals as goal

pub loop-i-preserved : goal.loop-i-preserved
unfolding cut_at
loop-i-preserved c = done_more c.loop-i.invariant (omega arith) cc
