-- `figures::number::read_run` meets its contract. The loop's invariant: what was passed is the start of the run, the number so far stands
-- for it, and has room for as many digits as are left.
-- Assumes nothing.
use Rattle.std.proofs.Common.{◌≡◌, ◌+◌, ◌-◌, ◌^◌, ◌<◌, ◌≤◌, length, drop, refl, add-zero, arith, drop_of_length-le, rules}
use Rattle.figures.specs.Numbers.{run, run_number}
use Rattle.figures.proofs.Lists.{drop_step}
use Rattle.figures.proofs.Sizes.{ten, at_most}
use Rattle.figures.proofs.number.read_run.Statement.{statement}
use Rattle.figures.proofs.number.read_run.Tie as tie

abbrev invariant-loop-i : tie.invariant-loop-i
invariant-loop-i v n number₀ i₀ number i =
    (i ≤ length v)
    × (number < 10 ^ (19 - length v + i))
    × (run v ≡ i + run (drop i v))
    × (run_number n v ≡ run_number number (drop i v))

abbrev decreases-loop-i : tie.decreases-loop-i
decreases-loop-i v n number₀ i₀ number i = length v - i

-- the number so far has at most 18 digits
room : (c : tie.In-loop-i invariant-loop-i decreases-loop-i) → c.loop-i.number < 10 ^ 18
room c =
    let v = c.args.v.now in
    omega (arith, at_most 18 (19 - length v + c.loop-i.i) (omega arith))

loop-holds : tie.Need-loop-i-init invariant-loop-i decreases-loop-i
loop-holds c = (search rules, rw add-zero (search rules), omega arith, refl)

shared-slice-read-digit-of : tie.Need-bounds-v-i invariant-loop-i decreases-loop-i
shared-slice-read-digit-of c = search rules

digit-of-requires : tie.Need-digit_of-digit-requires invariant-loop-i decreases-loop-i
digit-of-requires c κs = search rules

returns : tie.Need-returns-then-digit-gt9 invariant-loop-i decreases-loop-i
returns c =
    let q = c in
    let v = q.args.v.now in
    let e = drop_step v _ q.loop-i-test.true in
    let d = c.digit_of-digit.ensures.none c.if-digit-gt9.true in
    (simp (q.loop-i.invariant.2, e, d) (omega arith), simp (q.loop-i.invariant.3, e, d))

mul-number : tie.Need-overflow_mul-number invariant-loop-i decreases-loop-i
mul-number c = omega (arith, room c.before.before.before)

add-number : tie.Need-overflow_add-number invariant-loop-i decreases-loop-i
add-number c = omega (arith, room c.before.before.before)

add-i : tie.Need-overflow_add-i invariant-loop-i decreases-loop-i
add-i c = search rules

loop-less : tie.Need-loop-i-smaller invariant-loop-i decreases-loop-i
loop-less c = search rules

loop-again : tie.Need-loop-i-preserved invariant-loop-i decreases-loop-i
loop-again c =
    let q = c in
    let v = q.args.v.now in
    let e = drop_step v _ q.loop-i-test.true in
    let d = c.digit_of-digit.ensures.digit c.if-digit-gt9.false in (
      search rules,
      omega (arith, ten (19 - length v) q.loop-i.i),
      simp (q.loop-i.invariant.2, e, d.0) (omega arith),
      simp (q.loop-i.invariant.3, e, d.0, d.1),
    )

returns-2 : tie.Need-returns invariant-loop-i decreases-loop-i
returns-2 c =
    let v = c.args.v.now in
    let e = drop_of_length-le v c.loop-i-test.false in
    (simp (c.loop-i.invariant.2, e) (omega arith), simp (c.loop-i.invariant.3, e))

pub read_run_spec : {M : Type 1} → statement M
read_run_spec =
    tie.close
    (tie.spec
    invariant-loop-i
    decreases-loop-i
    loop-holds
    shared-slice-read-digit-of
    digit-of-requires
    returns
    mul-number
    add-number
    add-i
    loop-less
    loop-again
    returns-2)
