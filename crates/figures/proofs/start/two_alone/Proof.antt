-- `figures::start::two_alone` meets its contract, by the tests of `twoAlone`.
-- Assumes nothing.
mod Named
use Rattle.std.proofs.Common.{◌≡◌, cond, length, sym, ap, ◌∙◌, rules, eq-eqb, ne_eqb, le-leb}
use borrow.Author.Tests.{lt-leb}
use Rattle.rules.specs.Figures.{all_digits_of}
use Rattle.figures.specs.declared.number.Digits.TheVariants.{Number, Other}
use Rattle.figures.specs.Two.{bytes_at, two_at}
use Rattle.figures.specs.Starts.{two_alone}
use Rattle.figures.proofs.start.two_alone.Statement.{statement}
use Rattle.figures.proofs.start.two_alone.Proof.Named.{returns-4, returns-5}
use Rattle.figures.proofs.start.two_alone.Tie as tie

returns : tie.Need-returns-then-v-lt4
returns c = simp (lt-leb 4 (length c.args.v.now) c.if-v-lt4.true)

shared-slice-read-if2 : tie.Need-bounds-v-3
shared-slice-read-if2 c = search rules

returns-2 : tie.Need-returns-then-v-ne32
returns-2 c =
    let v = c.args.v.now in
    simp (le-leb 4 (length v) c.if-v-lt4.false, ne_eqb _ _ c.if-v-ne32.true)

shared-slice-read-if3 : tie.Need-bounds-v-0
shared-slice-read-if3 c = search rules

returns-3 : tie.Need-returns-then-v-ne46
returns-3 c =
    let v = c.args.v.now in
    simp (le-leb 4 (length v) c.if-v-lt4.false, eq-eqb _ _ c.if-v-ne32.false, ne_eqb _ _ c.if-v-ne46.true)

two-at-requires : tie.Need-two_at-two-requires
two-at-requires c κs = search rules

pub two_alone_spec : {M : Type 1} → statement M
two_alone_spec =
    tie.close
    (tie.spec
    returns
    shared-slice-read-if2
    returns-2
    shared-slice-read-if3
    returns-3
    two-at-requires
    returns-4
    returns-5)
