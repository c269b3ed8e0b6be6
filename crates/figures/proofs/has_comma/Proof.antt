-- `figures::has_comma` meets its contract. The loop's invariant: what is left of the list has a comma just where the whole has.
-- Assumes nothing.
use Rattle.std.proofs.Common.{◌≡◌, ◌-◌, ◌≤◌, length, drop, refl, drop_of_length-le, rules, eq-eqb, ne_eqb}
use Rattle.rules.specs.Figures.{has}
use Rattle.figures.proofs.Lists.{drop_step}
use Rattle.figures.proofs.has_comma.Statement.{statement}
use Rattle.figures.proofs.has_comma.Tie as tie

abbrev invariant-loop-i : tie.invariant-loop-i
invariant-loop-i v i₀ i = (i ≤ length v) × (has "," v ≡ has "," (drop i v))

abbrev decreases-loop-i : tie.decreases-loop-i
decreases-loop-i v i₀ i = length v - i

loop-holds : tie.Need-loop-i-init invariant-loop-i decreases-loop-i
loop-holds c = (search rules, refl)

shared-slice-read-if1 : tie.Need-bounds-v-i invariant-loop-i decreases-loop-i
shared-slice-read-if1 c = search rules

returns : tie.Need-returns-then-v-i-eq44 invariant-loop-i decreases-loop-i
returns c =
    let p = c in
    simp (p.loop-i.invariant.1, drop_step p.args.v.now _ c.loop-i-test.true, eq-eqb _ _ c.if-v-i-eq44.true)

add-i : tie.Need-overflow_add-i invariant-loop-i decreases-loop-i
add-i c = search rules

loop-less : tie.Need-loop-i-smaller invariant-loop-i decreases-loop-i
loop-less c = search rules

loop-again : tie.Need-loop-i-preserved invariant-loop-i decreases-loop-i
loop-again c =
    let p = c in
    (search rules, simp (p.loop-i.invariant.1, drop_step p.args.v.now _ c.loop-i-test.true, ne_eqb _ _ c.if-v-i-eq44.false))

returns-2 : tie.Need-returns invariant-loop-i decreases-loop-i
returns-2 c = simp (c.loop-i.invariant.1, drop_of_length-le c.args.v.now c.loop-i-test.false)

pub has_comma_spec : {M : Type 1} → statement M
has_comma_spec =
    tie.close
    (tie.spec
    invariant-loop-i
    decreases-loop-i
    loop-holds
    shared-slice-read-if1
    returns
    add-i
    loop-less
    loop-again
    returns-2)
