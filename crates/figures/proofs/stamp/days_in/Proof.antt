-- `figures::stamp::days_in` meets its contract: the tests on the way are those of the definition.
-- Assumes nothing.
mod Named
use Rattle.std.proofs.Common.{◌≡◌, ℕ, ◌+◌, ◌%◌, ◌≤◌, Bool, true, false, cond, eqb, sym, ap, ◌∙◌, arith, eq-eqb, ne_eqb}
use Rattle.rules.specs.Stamp.{days_in}
use Rattle.figures.proofs.Dates.{leap_by}
use Rattle.figures.proofs.stamp.days_in.Statement.{statement}
use Rattle.figures.proofs.stamp.days_in.Proof.Named.{february, returns, returns-3, returns-7}
use Rattle.figures.proofs.stamp.days_in.Tie as tie

returns-2 : tie.Need-returns-then-month-eq2
returns-2 c =
    let s = c in
    sym (february s.args.y s.args.month false s.requires c.if-month-eq2.true (ne_eqb (s.args.y % 4) 0 (λ e. omega arith)))

returns-4 : tie.Need-returns-then-month-eq6
returns-4 c = sym (ap (days_in (2_000 + c.args.y)) c.if-month-eq6.true)

returns-5 : tie.Need-returns-then-month-eq9
returns-5 c = sym (ap (days_in (2_000 + c.args.y)) c.if-month-eq9.true)

returns-6 : tie.Need-returns-then-month-eq11
returns-6 c = sym (ap (days_in (2_000 + c.args.y)) c.if-month-eq11.true)

pub days_in_spec : {M : Type 1} → statement M
days_in_spec = tie.close (tie.spec returns returns-2 returns-3 returns-4 returns-5 returns-6 returns-7)
