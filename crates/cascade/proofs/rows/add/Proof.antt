-- The rows before i have their lots, and the others are as they were.
-- Assumes nothing.
use Prim.Native.Nat.{◌+◌, ◌-◌, ◌≤◌}
use mathlib.Core.Path.{◌≡◌, refl, ap, ◌∙◌}
use mathlib.Core.List.{map}
use native.Mathlib.Omega.{arith}
use borrow.Author.Rules.{rules}
use lib.ListN.{get_or, length-map}
use Rattle.laws.specs.Filled.{filled_next, Done, done_none, done_more, done_all}
use Rattle.division.specs.Shares.{at}
use Rattle.cascade.proofs.Reading.{value_is}
use Rattle.cascade.specs.Rows.{offset_in, no_row, with_offset}
use Rattle.cascade.specs.State.{added_at}
use Rattle.cascade.proofs.rows.add.Statement.{statement}
use Rattle.cascade.proofs.rows.add.Tie as tie

abbrev invariant-loop-i : tie.invariant-loop-i
invariant-loop-i lots count after₀ i₀ after i =
    (i ≤ count) × Done (with_offset after₀ (added_at (map offset_in after₀) lots)) i after₀ after

abbrev decreases-loop-i : tie.decreases-loop-i
decreases-loop-i lots count after₀ i₀ after i = count - i

-- the row at i is still as it was
same_row : (b : tie.At-loop-i invariant-loop-i decreases-loop-i) → get_or b.loop-i.after b.loop-i.i no_row ≡ get_or b.args.rows b.loop-i.i no_row
same_row b = rw b.loop-i.invariant.1.whole (filled_next _ b.loop-i.i b.args.rows no_row)

loop-holds : tie.Need-loop-i-init invariant-loop-i decreases-loop-i
loop-holds c = (search rules, done_none _)

mul-row : tie.Need-offset_bounds-after-i invariant-loop-i decreases-loop-i
mul-row c = search rules

array-copy-out-row : tie.Need-bounds-after-i invariant-loop-i decreases-loop-i
array-copy-out-row c = search rules

mul-t8 : tie.Need-offset_bounds-lots-i invariant-loop-i decreases-loop-i
mul-t8 c = search rules

shared-slice-read-t13 : tie.Need-bounds-lots-i invariant-loop-i decreases-loop-i
shared-slice-read-t13 c = search rules

cast-t14 : tie.Need-overflow_cast-after invariant-loop-i decreases-loop-i
cast-t14 c = let b = c in omega (arith, b.requires.1.fits b.loop-i.i (omega arith))

add-t15 : tie.Need-overflow_add-after invariant-loop-i decreases-loop-i
add-t15 c =
    let b = c in
    omega (arith, ap offset_in (same_row c.before.before.before.before), value_is b.args.rows b.loop-i.i offset_in refl, b.requires.1.fits b.loop-i.i (omega arith))

mul-after : tie.Need-offset_bounds-after-i-in-loop-i invariant-loop-i decreases-loop-i
mul-after c = search rules

array-set-from-after : tie.Need-bounds-after-i-in-loop-i invariant-loop-i decreases-loop-i
array-set-from-after c = search rules

add-i : tie.Need-overflow_add-i invariant-loop-i decreases-loop-i
add-i c = search rules

loop-less : tie.Need-loop-i-smaller invariant-loop-i decreases-loop-i
loop-less c = search rules

loop-again : tie.Need-loop-i-preserved invariant-loop-i decreases-loop-i
loop-again c =
    let b = c in
    let rows = b.args.rows in
    let e = same_row c.before.before.before.before in
    let o = ap offset_in e ∙ value_is rows b.loop-i.i offset_in refl in
    let lots = at b.args.lots.now b.loop-i.i in (
      search rules,
      done_more b.loop-i.invariant.1 (omega (arith, b.requires.1.offsets, length-map rows offset_in)) (λ j. record { key = (e j).key; standing = (e j).standing; stake = (e j).stake; offset = o j + lots }),
    )

returns : tie.Need-returns invariant-loop-i decreases-loop-i
returns c =
    let b = c in
    let e : b.loop-i.i ≡ b.args.count = omega arith in
    done_all b.loop-i.invariant.1 e

pub add_spec : {M : Type 1} → statement M
add_spec =
    tie.close
    (tie.spec
    invariant-loop-i
    decreases-loop-i
    loop-holds
    mul-row
    array-copy-out-row
    mul-t8
    shared-slice-read-t13
    cast-t14
    add-t15
    mul-after
    array-set-from-after
    add-i
    loop-less
    loop-again
    returns)
