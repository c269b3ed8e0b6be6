-- `figures::number::read_inside` meets its contract, as `read_run`; what was passed is no more than the run, which ends before the bytes do.
-- Assumes nothing.
use Rattle.std.proofs.Common.{◌≡◌, ◌+◌, ◌-◌, ◌^◌, ◌<◌, length, drop, refl, add-zero, arith, rules}
use Rattle.figures.specs.Numbers.{run, run_number}
use Rattle.figures.proofs.Lists.{drop_step}
use Rattle.figures.proofs.Sizes.{ten, at_most}
use Rattle.figures.proofs.number.read_inside.Statement.{statement}
use Rattle.figures.proofs.number.read_inside.Tie as tie

abbrev invariant-loop-n : tie.invariant-loop-n
invariant-loop-n v n number₀ i₀ number i =
    (number < 10 ^ (19 - run v + i))
    × (run v ≡ i + run (drop i v))
    × (run_number n v ≡ run_number number (drop i v))

abbrev decreases-loop-n : tie.decreases-loop-n
decreases-loop-n v n number₀ i₀ number i = length v - i

-- the digits end before the bytes do
inside : (c : tie.After-shared_slice_known-in-loop-n-1 invariant-loop-n decreases-loop-n) → c.loop-n.i < length c.args.v.now
inside c = omega (arith, c.loop-n.invariant.1, c.requires.0)

-- a digit more is one of the run, so that the number before it has at most 18
room : (c : tie.Else-digit-gt9 invariant-loop-n decreases-loop-n) → (c.loop-n.number < 10 ^ 18) × (c.loop-n.i < run c.args.v.now)
room c =
    let q = c in
    let s = q in
    let v = s.args.v.now in
    let e = drop_step v _ (inside c.before.before) in
    let d = c.digit_of-digit.ensures.digit c.if-digit-gt9.false in
    let more : q.loop-n.i < run v = simp (q.loop-n.invariant.1, e, d.0) (omega arith) in
    (omega (arith, q.loop-n.invariant.0, at_most 18 (19 - run v + q.loop-n.i) (omega (arith, more, s.requires.1))), more)

loop-holds : tie.Need-loop-n-init invariant-loop-n decreases-loop-n
loop-holds c = (rw add-zero c.requires.2, omega arith, refl)

shared-slice-read-digit-of : tie.Need-bounds-v-i invariant-loop-n decreases-loop-n
shared-slice-read-digit-of c = inside c

digit-of-requires : tie.Need-digit_of-digit-requires invariant-loop-n decreases-loop-n
digit-of-requires c κs = search rules

returns : tie.Need-returns-then-digit-gt9 invariant-loop-n decreases-loop-n
returns c =
    let q = c in
    let e = drop_step q.args.v.now _ (inside c.before.before) in
    let d = c.digit_of-digit.ensures.none c.if-digit-gt9.true in
    (simp (q.loop-n.invariant.1, e, d) (omega arith), simp (q.loop-n.invariant.2, e, d))

mul-number : tie.Need-overflow_mul-number invariant-loop-n decreases-loop-n
mul-number c = omega (arith, (room c).0)

add-number : tie.Need-overflow_add-number invariant-loop-n decreases-loop-n
add-number c = omega (arith, (room c).0)

add-i : tie.Need-overflow_add-i invariant-loop-n decreases-loop-n
add-i c = omega (arith, inside c.before.before)

loop-less : tie.Need-loop-n-smaller invariant-loop-n decreases-loop-n
loop-less c = omega (arith, inside c.before.before)

loop-again : tie.Need-loop-n-preserved invariant-loop-n decreases-loop-n
loop-again c =
    let q = c in
    let v = q.args.v.now in
    let e = drop_step v _ (inside c.before.before) in
    let d = c.digit_of-digit.ensures.digit c.if-digit-gt9.false in (
      omega (arith, ten (19 - run v) q.loop-n.i, q.loop-n.invariant.0),
      simp (q.loop-n.invariant.1, e, d.0) (omega arith),
      simp (q.loop-n.invariant.2, e, d.0, d.1),
    )

pub read_inside_spec : {M : Type 1} → statement M
read_inside_spec =
    tie.close
    (tie.spec
    invariant-loop-n
    decreases-loop-n
    loop-holds
    shared-slice-read-digit-of
    digit-of-requires
    returns
    mul-number
    add-number
    add-i
    loop-less
    loop-again)
