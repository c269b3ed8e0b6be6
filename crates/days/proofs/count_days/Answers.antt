-- Before the first day all are left.
-- Assumes nothing.
use Rattle.std.proofs.Common.{arith}
use Rattle.days.proofs.Counts.{counted_all, few_days}
use Rattle.days.proofs.count_days.Goals as goal

pub loop-day-init : goal.loop-day-init
loop-day-init c =
    let a = c.args in
    rw c.into_iter-day-iterator.ensures.into_iter_gives
    (record { all = counted_all a.long a.s.now a.start; few = omega (arith, few_days a.long a.s.now a.start) })
