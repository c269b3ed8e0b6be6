-- The columns are turned into rows, worked tier by tier, and turned back.
-- Assumes nothing.
use Prim.Native.Nat.{◌+◌, ◌-◌, ◌≤◌}
use mathlib.Core.Path.{◌≡◌, refl, sym, ap, ap₂, ◌∙◌}
use native.Mathlib.Omega.{arith}
use borrow.Author.Rules.{rules}
use Rattle.cascade.specs.declared.Cascade.{Cascade}
use Rattle.cascade.specs.Columns.{Columns}
use Rattle.cascade.specs.State.{after_tier, Steady}
use Rattle.cascade.specs.After.{steady_wider}
use Rattle.cascade.specs.Rows.{columns_of, state_of}
use Rattle.cascade.proofs.Tiers.{tiers, tiers_next, steady}
use Rattle.cascade.proofs.Turned.{turned_steady, turned_back}
use Rattle.cascade.proofs.rows.run.Statement.{statement}
use Rattle.cascade.proofs.rows.run.Tie as tie

abbrev invariant-loop-k : tie.invariant-loop-k
invariant-loop-k keys standings stakes count offset state₀ k₀ state k =
    (k ≤ 3) × (columns_of state.rows count ≡ columns_of state₀.rows count) × (state_of state ≡ tiers k (columns_of state₀.rows count) (state_of state₀))

abbrev decreases-loop-k : tie.decreases-loop-k
decreases-loop-k keys standings stakes count offset state₀ k₀ state k = 3 - k

abbrev begin : tie.After-to_rows-rows invariant-loop-k decreases-loop-k → tie.Start invariant-loop-k decreases-loop-k
begin t = t.before.before.before.before.before.before

-- the columns in the rows, and the state there
abbrev cols : tie.After-to_rows-rows invariant-loop-k decreases-loop-k → Columns
cols t = columns_of t.to_rows-rows.result (begin t).args.count

abbrev first : tie.After-to_rows-rows invariant-loop-k decreases-loop-k → Cascade
first t = state_of (record { rows = t.to_rows-rows.result; total = (begin t).args.start.total })

steady-first : (t : tie.After-to_rows-rows invariant-loop-k decreases-loop-k) → Steady 0 (cols t) (first t)
steady-first t = let a = (begin t).args in turned_steady a.keys.now a.standings.now a.stakes.now a.count a.start (begin t).requires t.to_rows-rows.result t.to_rows-rows.ensures

slice-aggregate-to-rows : tie.Need-slice_bounds-to_rows-end invariant-loop-k decreases-loop-k
slice-aggregate-to-rows c = search rules

to-rows-requires : tie.Need-to_rows-rows-requires invariant-loop-k decreases-loop-k
to-rows-requires c κs = let s = c.requires in record { few = s.few; keyed = s.keyed; stood = s.stood; staked = s.staked; wide = s.wide }

loop-holds : tie.Need-loop-k-init invariant-loop-k decreases-loop-k
loop-holds c = (search rules, refl, refl)

add-k : tie.Need-overflow_add-k invariant-loop-k decreases-loop-k
add-k c = search rules

tier-requires : tie.Need-tier-state-requires invariant-loop-k decreases-loop-k
tier-requires c κs =
    let b = c in
    let t = b in
    (rw (b.loop-k.invariant.1, b.loop-k.invariant.2) (steady_wider (omega arith) (steady b.loop-k.k (cols c.before.before) (first c.before.before) (steady-first c.before.before))), (omega arith, omega arith))

loop-less : tie.Need-loop-k-smaller invariant-loop-k decreases-loop-k
loop-less c = search rules

loop-again : tie.Need-loop-k-preserved invariant-loop-k decreases-loop-k
loop-again c =
    let b = c in
    let t = b in
    let e = c.tier-state.ensures in (
      search rules,
      e.0 ∙ b.loop-k.invariant.1,
      e.1 ∙ ap₂ (after_tier (b.loop-k.k + 1)) b.loop-k.invariant.1 b.loop-k.invariant.2 ∙ sym (tiers_next b.loop-k.k (cols c.before.before.before) (first c.before.before.before)),
    )

slice-aggregate-to-columns : tie.Need-slice_bounds-to_columns-end invariant-loop-k decreases-loop-k
slice-aggregate-to-columns c = search rules

slice-aggregate-to-columns-2 : tie.Need-slice_bounds-to_columns-end-2 invariant-loop-k decreases-loop-k
slice-aggregate-to-columns-2 c = search rules

slice-aggregate-to-columns-3 : tie.Need-slice_bounds-to_columns-end-3 invariant-loop-k decreases-loop-k
slice-aggregate-to-columns-3 c = search rules

slice-aggregate-to-columns-4 : tie.Need-slice_bounds-to_columns-end-4 invariant-loop-k decreases-loop-k
slice-aggregate-to-columns-4 c = search rules

to-columns-requires : tie.Need-to_columns-requires invariant-loop-k decreases-loop-k
to-columns-requires c κs =
    let s = (begin c.before.before.before.before.before.before.before).requires in
    record { few = s.few; keyed = omega (arith, s.few); stood = omega (arith, s.few); staked = omega (arith, s.few); wide = s.wide }

returns : tie.Need-returns invariant-loop-k decreases-loop-k
returns c =
    let y = c in
    let b = y in
    let t = b in
    let a = (begin c.before.before.before.before.before.before.before.before.before.before.before.before).args in
    let last : b.loop-k.k ≡ 3 = omega arith in
    let e = b.loop-k.invariant.2 ∙ ap (λ k. tiers k (cols c.before.before.before.before.before.before.before.before.before.before.before.before) (first c.before.before.before.before.before.before.before.before.before.before.before.before)) last in
    let total = b.loop-k.state.total in
    (λ j. record { offset = y.to_columns.ensures.wide j; total = total })
    ∙ turned_back a.keys.now a.standings.now a.stakes.now a.count a.start (begin c.before.before.before.before.before.before.before.before.before.before.before.before).requires t.to_rows-rows.result t.to_rows-rows.ensures (state_of b.loop-k.state) e

pub run_spec : {M : Type 1} → statement M
run_spec =
    tie.close
    (tie.spec
    invariant-loop-k
    decreases-loop-k
    slice-aggregate-to-rows
    to-rows-requires
    loop-holds
    add-k
    tier-requires
    loop-less
    loop-again
    slice-aggregate-to-columns
    slice-aggregate-to-columns-2
    slice-aggregate-to-columns-3
    slice-aggregate-to-columns-4
    to-columns-requires
    returns)
