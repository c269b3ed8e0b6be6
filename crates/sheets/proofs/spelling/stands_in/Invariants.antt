use Rattle.std.proofs.Common.{◌≡◌, ◌||◌, drop}
use Rattle.sheets.specs.Mark.{stands_in}
use Rattle.sheets.proofs.spelling.stands_in.Given as goal

abbrev pub invariant-loop-other : goal.invariant-loop-other
invariant-loop-other l = (l.found || stands_in l.byte (drop l.other-index l.s)) ≡ stands_in l.byte l.s
