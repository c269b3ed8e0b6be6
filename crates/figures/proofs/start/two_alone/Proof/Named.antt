-- The parts of the proof that are named after a test of the function: edits of must-fail/ respell them.
use Rattle.std.proofs.Common.{◌≡◌, cond, length, sym, ap, ◌∙◌, eq-eqb, le-leb}
use Rattle.rules.specs.Figures.{all_digits_of}
use Rattle.figures.specs.declared.number.Digits.TheVariants.{Number, Other}
use Rattle.figures.specs.Two.{bytes_at, two_at}
use Rattle.figures.specs.Starts.{two_alone}
use Rattle.figures.proofs.start.two_alone.Tie as tie

-- what is told behind the tests of the point and the blank
pub told :
    (c : tie.After-two_at-two) →
    let v = c.args.v.now in
    two_alone v ≡ cond (all_digits_of (bytes_at v 1)) (Number (two_at v 1)) Other
told c =
    let k = c in
    let v = k.args.v.now in
    simp (le-leb 4 (length v) k.if-v-lt4.false, eq-eqb _ _ k.if-v-ne32.false, eq-eqb _ _ k.if-v-ne46.false)

pub returns-4 : tie.Need-returns-then-two-gt99
returns-4 c = sym (told c.before ∙ simp (c.two_at-two.ensures.none c.if-two-gt99.true))

pub returns-5 : tie.Need-returns
returns-5 c =
    let two = c.two_at-two.ensures.digits c.if-two-gt99.false in
    sym (told c.before ∙ simp two.0 (ap Number (sym two.1)))
