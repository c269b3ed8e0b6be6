-- `figures::stamp::is_date` meets its contract: at each `return` the tests on the way say which case of `isDate` holds.
-- Assumes nothing.
mod Named
use Rattle.std.proofs.Common.{◌≡◌, ◌+◌, ◌≤◌, ◌&&◌, leb, sym, ◌∙◌, arith, rules, le-leb}
use borrow.Author.Tests.{lt-leb}
use Rattle.rules.specs.Stamp.{days_in, is_date}
use Rattle.figures.proofs.Dates.{days_least}
use Rattle.figures.proofs.stamp.is_date.Statement.{statement}
use Rattle.figures.proofs.stamp.is_date.Proof.Named.{returns}
use Rattle.figures.proofs.stamp.is_date.Tie as tie

-- a year and a month that are such: the day tells
before-day :
    (c : tie.Else-month-gt12) →
    let a = c.args in
    is_date (2_000 + a.y) a.month a.day ≡ (leb 1 a.day && leb a.day (days_in (2_000 + a.y) a.month))
before-day c =
    let a = c.args in
    simp
    (le-leb 2_000 (2_000 + a.y) (omega arith), le-leb (2_000 + a.y) 2_099 (omega arith), le-leb 1 a.month (omega arith), le-leb a.month 12 (omega arith))

returns-2 : tie.Need-returns-then-month-lt1
returns-2 c =
    let a = c.args in
    simp (le-leb 2_000 (2_000 + a.y) (omega arith), le-leb (2_000 + a.y) 2_099 (omega arith), lt-leb 1 a.month (omega arith))

returns-3 : tie.Need-returns-then-month-gt12
returns-3 c =
    let a = c.args in
    simp
    (le-leb 2_000 (2_000 + a.y) (omega arith), le-leb (2_000 + a.y) 2_099 (omega arith), le-leb 1 a.month (omega arith), lt-leb a.month 12 (omega arith))

returns-4 : tie.Need-returns-then-day-lt1
returns-4 c = sym (before-day c.before ∙ simp (lt-leb 1 c.args.day (omega arith)))

returns-5 : tie.Need-returns-then-day-le-SHORTEST
returns-5 c =
    let a = c.args in
    let few : a.day ≤ days_in (2_000 + a.y) a.month = omega (arith, c.if-day-le-SHORTEST.true, days_least (2_000 + a.y) a.month) in
    sym (before-day c.before.before ∙ simp (le-leb 1 a.day (omega arith), le-leb a.day (days_in (2_000 + a.y) a.month) few))

days-in-requires : tie.Need-days_in-requires
days-in-requires c κs = search rules

returns-6 : tie.Need-returns
returns-6 c = sym (before-day c.before.before.before ∙ simp (le-leb 1 c.args.day (omega arith), c.days_in.ensures))

pub is_date_spec : {M : Type 1} → statement M
is_date_spec = tie.close (tie.spec returns returns-2 returns-3 returns-4 returns-5 days-in-requires returns-6)
