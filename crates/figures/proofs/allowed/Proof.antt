-- `figures::allowed` meets its contract: at each `return` the tests on the way say what `asked` answers.
-- Assumes nothing.
use Rattle.std.proofs.Common.{eq-eqb, ne_eqb, le-leb}
use borrow.Author.Tests.{lt-leb}
use Rattle.figures.proofs.allowed.Statement.{statement}
use Rattle.figures.proofs.allowed.Tie as tie

returns : tie.Need-returns-then-decimals-form
returns c = simp (ne_eqb _ _ c.if-decimals-form.true)

returns-2 : tie.Need-returns-then-number-form
returns-2 c = simp (eq-eqb _ _ c.if-decimals-form.false, lt-leb _ _ c.if-number-form.true)

returns-3 : tie.Need-returns-then-form-number
returns-3 c = simp (eq-eqb _ _ c.if-decimals-form.false, le-leb _ _ c.if-number-form.false, lt-leb _ _ c.if-form-number.true)

returns-4 : tie.Need-returns
returns-4 c = simp (eq-eqb _ _ c.if-decimals-form.false, le-leb _ _ c.if-number-form.false, le-leb _ _ c.if-form-number.false)

pub allowed_spec : {M : Type 1} → statement M
allowed_spec = tie.close (tie.spec returns returns-2 returns-3 returns-4)
