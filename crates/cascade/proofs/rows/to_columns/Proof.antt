-- The first i places of each column are the rows' customers.
-- Assumes nothing.
use Prim.Native.Nat.{◌-◌, ◌≤◌}
use mathlib.Core.Path.{◌≡◌, refl}
use mathlib.Core.List.{map}
use native.Mathlib.Omega.{arith}
use borrow.Author.Rules.{rules}
use Rattle.laws.specs.Filled.{Done, done_none, done_more, done_all}
use Rattle.division.specs.Shares.{at}
use Rattle.cascade.proofs.Reading.{value_is}
use Rattle.cascade.specs.Rows.{key_in, standing_in, stake_in, offset_in}
use Rattle.cascade.proofs.rows.to_columns.Statement.{statement}
use Rattle.cascade.proofs.rows.to_columns.Tie as tie

abbrev invariant-loop-i : tie.invariant-loop-i
invariant-loop-i count keys₀ standings₀ stakes₀ offset₀ rows i₀ keys standings stakes offset i =
    (i ≤ count)
    × Done (at (map key_in rows)) i keys₀ keys
    × Done (at (map standing_in rows)) i standings₀ standings
    × Done (at (map stake_in rows)) i stakes₀ stakes
    × Done (at (map offset_in rows)) i offset₀ offset

abbrev decreases-loop-i : tie.decreases-loop-i
decreases-loop-i count keys₀ standings₀ stakes₀ offset₀ rows i₀ keys standings stakes offset i = count - i

loop-holds : tie.Need-loop-i-init invariant-loop-i decreases-loop-i
loop-holds c = (search rules, done_none _, done_none _, done_none _, done_none _)

mul-row : tie.Need-offset_bounds-rows-i invariant-loop-i decreases-loop-i
mul-row c = search rules

array-copy-out-row : tie.Need-bounds-rows-i invariant-loop-i decreases-loop-i
array-copy-out-row c = search rules

mul-keys : tie.Need-offset_bounds-keys-i invariant-loop-i decreases-loop-i
mul-keys c = search rules

slice-write-keys : tie.Need-bounds-keys-i invariant-loop-i decreases-loop-i
slice-write-keys c = search rules

slice-write-standings : tie.Need-bounds-standings-i invariant-loop-i decreases-loop-i
slice-write-standings c = search rules

mul-stakes : tie.Need-offset_bounds-stakes-i invariant-loop-i decreases-loop-i
mul-stakes c = search rules

slice-write-stakes : tie.Need-bounds-stakes-i invariant-loop-i decreases-loop-i
slice-write-stakes c = search rules

mul-offset : tie.Need-offset_bounds-offset-i invariant-loop-i decreases-loop-i
mul-offset c = search rules

slice-write-offset : tie.Need-bounds-offset-i invariant-loop-i decreases-loop-i
slice-write-offset c = search rules

add-i : tie.Need-overflow_add-i invariant-loop-i decreases-loop-i
add-i c = search rules

loop-less : tie.Need-loop-i-smaller invariant-loop-i decreases-loop-i
loop-less c = search rules

loop-again : tie.Need-loop-i-preserved invariant-loop-i decreases-loop-i
loop-again c =
    let b = c in
    let v = b.loop-i.invariant in
    let p = b.requires in
    let rows = b.args.rows in (
      search rules,
      done_more v.1 (omega (arith, p.keyed)) (value_is rows b.loop-i.i key_in refl),
      done_more v.2 (omega (arith, p.stood)) (value_is rows b.loop-i.i standing_in refl),
      done_more v.3 (omega (arith, p.staked)) (value_is rows b.loop-i.i stake_in refl),
      done_more v.4 (omega (arith, p.wide)) (value_is rows b.loop-i.i offset_in refl),
    )

same_length : tie.Need-shape_of-keys invariant-loop-i decreases-loop-i
same_length c = search rules

same-length-2 : tie.Need-shape_of-standings invariant-loop-i decreases-loop-i
same-length-2 c = search rules

same-length-3 : tie.Need-shape_of-stakes invariant-loop-i decreases-loop-i
same-length-3 c = search rules

same-length-4 : tie.Need-shape_of-offset invariant-loop-i decreases-loop-i
same-length-4 c = search rules

returns : tie.Need-returns invariant-loop-i decreases-loop-i
returns c =
    let b = c in
    let v = b.loop-i.invariant in
    let e : b.loop-i.i ≡ b.args.count = omega arith in
    record { keyed = done_all v.1 e; stood = done_all v.2 e; staked = done_all v.3 e; wide = done_all v.4 e }

pub to_columns_spec : {M : Type 1} → statement M
to_columns_spec =
    tie.close
    (tie.spec
    invariant-loop-i
    decreases-loop-i
    loop-holds
    mul-row
    array-copy-out-row
    mul-keys
    slice-write-keys
    slice-write-standings
    mul-stakes
    slice-write-stakes
    mul-offset
    slice-write-offset
    add-i
    loop-less
    loop-again
    same_length
    same-length-2
    same-length-3
    same-length-4
    returns)
