-- `figures::number::may_be_whole` meets its contract: at each `return` the tests on the way say which case of `mayBeWhole` holds.
-- Assumes nothing.
mod Named
use Rattle.std.proofs.Common.{◌≡◌, not, ◌||◌, eqb, length, get_or, sym, ◌∙◌, arith, rules, eq-eqb, ne_eqb, le-leb}
use borrow.Author.Tests.{lt-leb}
use Rattle.rules.specs.Text.{is}
use Rattle.figures.specs.Numbers.{may_be_whole}
use Rattle.figures.proofs.number.may_be_whole.Statement.{statement}
use Rattle.figures.proofs.number.may_be_whole.Proof.Named.{sized, returns-3, returns-4}
use Rattle.figures.proofs.number.may_be_whole.Tie as tie

returns : tie.Need-returns-then-size-eq0
returns c = simp (lt-leb 1 (length c.args.v.now) (omega arith))

returns-2 : tie.Need-returns-then-size-gt-MOST_DIGITS
returns-2 c =
    let v = c.args.v.now in
    simp (le-leb 1 (length v) (omega arith), lt-leb (length v) 7 c.if-size-gt-MOST_DIGITS.true)

shared-slice-read-if3 : tie.Need-bounds-v-0
shared-slice-read-if3 c = search rules

returns-5 : tie.Need-returns-else-v-eq48
returns-5 c = sym (sized c.before.before ∙ simp (ne_eqb _ _ c.if-v-eq48.false))

pub may_be_whole_spec : {M : Type 1} → statement M
may_be_whole_spec =
    tie.close (tie.spec returns returns-2 shared-slice-read-if3 returns-3 returns-4 returns-5)
