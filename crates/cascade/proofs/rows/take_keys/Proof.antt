-- The first i places are the customers' keys.
-- Assumes nothing.
use Prim.Native.Nat.{◌-◌, ◌≤◌}
use mathlib.Core.Path.{◌≡◌, refl}
use mathlib.Core.List.{map}
use native.Mathlib.Omega.{arith}
use borrow.Author.Rules.{rules}
use Rattle.laws.specs.Filled.{Done, done_none, done_more, done_all}
use Rattle.division.specs.Shares.{at}
use Rattle.cascade.proofs.Reading.{value_is}
use Rattle.cascade.specs.Rows.{key_in}
use Rattle.cascade.proofs.rows.take_keys.Statement.{statement}
use Rattle.cascade.proofs.rows.take_keys.Tie as tie

abbrev invariant-loop-i : tie.invariant-loop-i
invariant-loop-i count keys₀ rows i₀ keys i =
    (i ≤ count) × Done (at (map key_in rows)) i keys₀ keys

abbrev decreases-loop-i : tie.decreases-loop-i
decreases-loop-i count keys₀ rows i₀ keys i = count - i

loop-holds : tie.Need-loop-i-init invariant-loop-i decreases-loop-i
loop-holds c = (search rules, done_none _)

mul-row : tie.Need-offset_bounds-rows-i invariant-loop-i decreases-loop-i
mul-row c = search rules

array-copy-out-row : tie.Need-bounds-rows-i invariant-loop-i decreases-loop-i
array-copy-out-row c = search rules

mul-keys : tie.Need-offset_bounds-keys-i invariant-loop-i decreases-loop-i
mul-keys c = search rules

slice-write-keys : tie.Need-bounds-keys-i invariant-loop-i decreases-loop-i
slice-write-keys c = search rules

add-i : tie.Need-overflow_add-i invariant-loop-i decreases-loop-i
add-i c = search rules

loop-less : tie.Need-loop-i-smaller invariant-loop-i decreases-loop-i
loop-less c = search rules

loop-again : tie.Need-loop-i-preserved invariant-loop-i decreases-loop-i
loop-again c =
    let b = c in
    let rows = b.args.rows in
    (search rules, done_more b.loop-i.invariant.1 (omega (arith, b.requires.1)) (value_is rows b.loop-i.i key_in refl))

same_length : tie.Need-shape_of-keys invariant-loop-i decreases-loop-i
same_length c = search rules

returns : tie.Need-returns invariant-loop-i decreases-loop-i
returns c =
    let b = c in
    let e : b.loop-i.i ≡ b.args.count = omega arith in
    done_all b.loop-i.invariant.1 e

pub take_keys_spec : {M : Type 1} → statement M
take_keys_spec =
    tie.close
    (tie.spec
    invariant-loop-i
    decreases-loop-i
    loop-holds
    mul-row
    array-copy-out-row
    mul-keys
    slice-write-keys
    add-i
    loop-less
    loop-again
    same_length
    returns)
