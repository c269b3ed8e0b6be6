-- One byte after the other.
use Rattle.sheets.proofs.Carries.{stands_on, stands_all}
use Rattle.sheets.proofs.spelling.stands_in.Goals as goal

pub loop-other-preserved : goal.loop-other-preserved
loop-other-preserved c = stands_on c.args.byte c.loop-other.found c.args.s.now c.loop-other.other-index c.loop-other.invariant c.loop-other-test.true

pub returns : goal.returns
returns c = stands_all c.args.byte c.loop-other.found c.args.s.now c.loop-other.other-index c.loop-other.invariant c.loop-other-test.false
