-- The parts of the proof that are named after a test of the function: edits of must-fail/ respell them.
use Rattle.std.proofs.Common.{◌≡◌, not, ◌||◌, eqb, length, get_or, sym, ◌∙◌, arith, eq-eqb, ne_eqb, le-leb}
use Rattle.rules.specs.Text.{is}
use Rattle.figures.specs.Numbers.{may_be_whole}
use Rattle.figures.proofs.number.may_be_whole.Tie as tie

-- as many bytes as there may be
pub sized :
    (c : tie.Else-size-gt-MOST_DIGITS) →
    let s = c in
    may_be_whole s.args.v.now
    ≡ (not (is "0" (get_or s.args.v.now 0 0)) || eqb (length s.args.v.now) 1)
sized c =
    let v = c.args.v.now in
    simp (le-leb 1 (length v) (omega arith), le-leb (length v) 7 c.if-size-gt-MOST_DIGITS.false)

pub returns-3 : tie.Need-returns-then-size-gt1
returns-3 c =
    let v = c.args.v.now in
    sym (sized c.before.before.before ∙ simp (eq-eqb _ _ c.if-v-eq48.true, ne_eqb (length v) 1 (λ e. omega arith)))

pub returns-4 : tie.Need-returns-else-size-gt1
returns-4 c =
    let v = c.args.v.now in
    sym (sized c.before.before.before ∙ simp (eq-eqb _ _ c.if-v-eq48.true, eq-eqb (length v) 1 (omega arith)))
