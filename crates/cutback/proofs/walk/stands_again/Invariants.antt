use Rattle.std.proofs.Common.{◌≡◌, length}
use Rattle.cutback.specs.Judge.{again}
use Rattle.cutback.proofs.walk.stands_again.Given as goal

abbrev pub invariant-loop-other : goal.invariant-loop-other
invariant-loop-other g l = again l.code (g.C.Codes.codes l.initial.others) ≡ again l.code (g.C.Codes.codes l.others)

abbrev pub decreases-loop-other : goal.decreases-loop-other
decreases-loop-other g l = length (g.C.Codes.codes l.others)
