-- The roll's refusal is the verdict's.
use Rattle.sheets.proofs.Rolled.{judged_good, judged_bad}
use Rattle.sheets.proofs.judging.judge.Goals as goal

pub returns-then-roll-eq-ACCEPTED : goal.returns-then-roll-eq-ACCEPTED
returns-then-roll-eq-ACCEPTED c = judged_good c.read_roll-roll.ensures c.if-roll-eq-ACCEPTED.true

pub returns-else-roll-eq-ACCEPTED : goal.returns-else-roll-eq-ACCEPTED
returns-else-roll-eq-ACCEPTED c = judged_bad c.read_roll-roll.ensures c.if-roll-eq-ACCEPTED.false
