-- 11 where the cuts do not fit.
use Rattle.cutback.proofs.Cutting.{no_room}
use Rattle.cutback.proofs.show.Goals as goal

pub returns-then-cuts-lots : goal.returns-then-cuts-lots
returns-then-cuts-lots c = rw (c.refused.ensures, c.number.ensures) (no_room _ _ _ _ c.if-cuts-lots.true)
