-- The first i rows are the columns' customers.
-- Assumes nothing.
use Prim.Native.Nat.{◌-◌, ◌≤◌}
use mathlib.Core.Path.{◌≡◌, refl}
use native.Mathlib.Omega.{arith}
use borrow.Author.Rules.{rules}
use Rattle.laws.specs.Filled.{Done, done_none, done_more, done_all}
use Rattle.cascade.specs.Rows.{row_at}
use Rattle.cascade.proofs.rows.to_rows.Statement.{statement}
use Rattle.cascade.proofs.rows.to_rows.Tie as tie

abbrev invariant-loop-i : tie.invariant-loop-i
invariant-loop-i keys standings stakes offset count rows₀ i₀ rows i =
    (i ≤ count) × Done (row_at keys standings stakes offset) i rows₀ rows

abbrev decreases-loop-i : tie.decreases-loop-i
decreases-loop-i keys standings stakes offset count rows₀ i₀ rows i = count - i

loop-holds : tie.Need-loop-i-init invariant-loop-i decreases-loop-i
loop-holds c = (search rules, done_none _)

mul-t10 : tie.Need-offset_bounds-keys-i invariant-loop-i decreases-loop-i
mul-t10 c = search rules

shared-slice-read-t12 : tie.Need-bounds-keys-i invariant-loop-i decreases-loop-i
shared-slice-read-t12 c = search rules

shared-slice-read-t14 : tie.Need-bounds-standings-i invariant-loop-i decreases-loop-i
shared-slice-read-t14 c = search rules

mul-t15 : tie.Need-offset_bounds-stakes-i invariant-loop-i decreases-loop-i
mul-t15 c = search rules

shared-slice-read-t17 : tie.Need-bounds-stakes-i invariant-loop-i decreases-loop-i
shared-slice-read-t17 c = search rules

mul-t18 : tie.Need-offset_bounds-offset-i invariant-loop-i decreases-loop-i
mul-t18 c = search rules

shared-slice-read-t20 : tie.Need-bounds-offset-i invariant-loop-i decreases-loop-i
shared-slice-read-t20 c = search rules

mul-rows : tie.Need-offset_bounds-rows-i invariant-loop-i decreases-loop-i
mul-rows c = search rules

array-set-from-rows : tie.Need-bounds-rows-i invariant-loop-i decreases-loop-i
array-set-from-rows c = search rules

add-i : tie.Need-overflow_add-i invariant-loop-i decreases-loop-i
add-i c = search rules

loop-less : tie.Need-loop-i-smaller invariant-loop-i decreases-loop-i
loop-less c = search rules

loop-again : tie.Need-loop-i-preserved invariant-loop-i decreases-loop-i
loop-again c =
    let b = c in
    (search rules, done_more b.loop-i.invariant.1 (omega (arith, b.requires.few)) refl)

returns : tie.Need-returns invariant-loop-i decreases-loop-i
returns c =
    let b = c in
    let e : b.loop-i.i ≡ b.args.count = omega arith in
    done_all b.loop-i.invariant.1 e

pub to_rows_spec : {M : Type 1} → statement M
to_rows_spec =
    tie.close
    (tie.spec
    invariant-loop-i
    decreases-loop-i
    loop-holds
    mul-t10
    shared-slice-read-t12
    shared-slice-read-t14
    mul-t15
    shared-slice-read-t17
    mul-t18
    shared-slice-read-t20
    mul-rows
    array-set-from-rows
    add-i
    loop-less
    loop-again
    returns)
