use Rattle.std.proofs.Common.{length}
use Rattle.cutback.proofs.Codes.{Passed}
use Rattle.cutback.proofs.walk.read_codes.Given as goal

abbrev pub invariant-loop-code : goal.invariant-loop-code
invariant-loop-code g l = Passed (g.C.Codes.codes l.initial.codes) (g.C.Codes.codes l.codes) l.keys l.count

abbrev pub decreases-loop-code : goal.decreases-loop-code
decreases-loop-code g l = length (g.C.Codes.codes l.codes)
