-- The offsets before i are done and the others are as they were.
-- Assumes nothing.
use Prim.Native.Nat.{◌-◌, ◌≤◌}
use mathlib.Core.Path.{◌≡◌, refl}
use native.Mathlib.Omega.{arith}
use borrow.Author.Rules.{rules}
use lib.ListN.{length, length-set}
use Rattle.laws.specs.Filled.{filled, filled_more, filled_next}
use Rattle.division.specs.Shares.{at}
use Rattle.cascade.specs.State.{added_at}
use Rattle.cascade.proofs.add.Statement.{statement}
use Rattle.cascade.proofs.add.Tie as tie

abbrev invariant-loop-i : tie.invariant-loop-i
invariant-loop-i offset₀ lots count i₀ offset i = (i ≤ count) × (length offset ≡ length offset₀) × (offset ≡ filled (added_at offset₀ lots) i offset₀)

abbrev decreases-loop-i : tie.decreases-loop-i
decreases-loop-i offset₀ lots count i₀ offset i = count - i

-- what stands at i is still as it was
same_at : (b : tie.At-loop-i invariant-loop-i decreases-loop-i) → at b.loop-i.offset b.loop-i.i ≡ at b.args.offset.now b.loop-i.i
same_at b = rw b.loop-i.invariant.2 (filled_next _ b.loop-i.i b.args.offset.now 0)

loop-holds : tie.Need-loop-i-init invariant-loop-i decreases-loop-i
loop-holds c = (search rules, refl, refl)

mul-offset : tie.Need-offset_bounds-offset-i invariant-loop-i decreases-loop-i
mul-offset c = search rules

slice-read-offset : tie.Need-bounds-offset-i invariant-loop-i decreases-loop-i
slice-read-offset c = search rules

mul-offset-2 : tie.Need-offset_bounds-lots-i invariant-loop-i decreases-loop-i
mul-offset-2 c = search rules

shared-slice-read-offset : tie.Need-bounds-lots-i invariant-loop-i decreases-loop-i
shared-slice-read-offset c = search rules

cast-offset : tie.Need-overflow_cast-offset invariant-loop-i decreases-loop-i
cast-offset c = let b = c in omega (arith, b.requires.fits b.loop-i.i (omega arith))

add-offset : tie.Need-overflow_add-offset invariant-loop-i decreases-loop-i
add-offset c = let b = c in omega (arith, same_at c.before.before.before, b.requires.fits b.loop-i.i (omega arith))

mul-offset-3 : tie.Need-offset_bounds-offset-i-in-loop-i invariant-loop-i decreases-loop-i
mul-offset-3 c = search rules

slice-write-offset : tie.Need-bounds-offset-i-in-loop-i invariant-loop-i decreases-loop-i
slice-write-offset c = search rules

add-i : tie.Need-overflow_add-i invariant-loop-i decreases-loop-i
add-i c = search rules

loop-less : tie.Need-loop-i-smaller invariant-loop-i decreases-loop-i
loop-less c = search rules

loop-again : tie.Need-loop-i-preserved invariant-loop-i decreases-loop-i
loop-again c =
    let b = c in
    let a = b.args in
    let f = added_at a.offset.now a.lots.now in
    (search rules, simp length-set b.loop-i.invariant.1, rw (same_at c.before.before.before, b.loop-i.invariant.2) (filled_more f b.loop-i.i a.offset.now 0 (omega arith)))

same_length : tie.Need-shape_of-offset invariant-loop-i decreases-loop-i
same_length c = omega arith

returns : tie.Need-returns invariant-loop-i decreases-loop-i
returns c = let e : c.loop-i.i ≡ c.args.count = omega arith in rw e at c.loop-i.invariant.2

pub add_spec : {M : Type 1} → statement M
add_spec =
    tie.close
    (tie.spec
    invariant-loop-i
    decreases-loop-i
    loop-holds
    mul-offset
    slice-read-offset
    mul-offset-2
    shared-slice-read-offset
    cast-offset
    add-offset
    mul-offset-3
    slice-write-offset
    add-i
    loop-less
    loop-again
    same_length
    returns)
