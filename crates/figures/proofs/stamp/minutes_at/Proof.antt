-- `figures::stamp::minutes_at` meets its contract: what is added goes round the clock once at most.
-- Assumes nothing.
use Rattle.std.proofs.Common.{arith, rules}
use Rattle.figures.proofs.Dates.{clock}
use Rattle.figures.proofs.stamp.minutes_at.Statement.{statement}
use Rattle.figures.proofs.stamp.minutes_at.Tie as tie

mul-since : tie.Need-overflow_mul-since
mul-since c = search rules

add-since : tie.Need-overflow_add-since
add-since c = search rules

add-since-2 : tie.Need-overflow_add-since-2
add-since-2 c = search rules

returns : tie.Need-returns-then-since-lt1440
returns c = let s = c in omega (arith, clock s.args.hour s.args.minute (omega arith))

returns-2 : tie.Need-returns
returns-2 c = let s = c in omega (arith, clock s.args.hour s.args.minute (omega arith))

pub minutes_at_spec : {M : Type 1} → statement M
minutes_at_spec = tie.close (tie.spec mul-since add-since add-since-2 returns returns-2)
