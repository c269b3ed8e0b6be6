use Rattle.laws.specs.Filled.{Done}
use Rattle.cutback.specs.Keyed.{cut_at}
use Rattle.cutback.proofs.seats.put_cuts.Given as goal

abbrev pub invariant-loop-i : goal.invariant-loop-i
invariant-loop-i l = Done (cut_at l.keys l.lots l.over) l.i l.initial.cuts l.cuts
