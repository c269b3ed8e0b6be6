-- Each customer's weight stands in the array up to i, and is summed up to i.
-- Assumes nothing.
use Prim.Native.Nat.{ℕ, ◌+◌, ◌-◌, ◌≤◌, ◌<◌}
use mathlib.Core.Path.{◌≡◌, refl, ◌∙◌}
use mathlib.Core.List.{map}
use native.Mathlib.Omega.{arith}
use borrow.Author.Rules.{rules}
use lib.ListN.{length, length-set}
use Rattle.laws.specs.Indices.{sum_more, sum_bound}
use Rattle.laws.specs.Filled.{filled_more}
use Rattle.division.specs.Shares.{at}
use Rattle.cascade.proofs.Weights.{weight_le}
use Rattle.cascade.proofs.Reading.{row_within, row_weight}
use Rattle.cascade.specs.Rows.{standing_in, stake_in, offset_in}
use Rattle.cascade.specs.State.{weight_at, Weighed}
use Rattle.cascade.proofs.rows.weigh.Statement.{statement}
use Rattle.cascade.proofs.rows.weigh.Tie as tie

abbrev invariant-loop-i : tie.invariant-loop-i
invariant-loop-i count k lots₀ rows sum₀ i₀ lots sum i =
    (i ≤ count) × (length lots ≡ length lots₀) × Weighed (weight_at k (map standing_in rows) (map stake_in rows) (map offset_in rows)) i lots₀ lots sum

abbrev decreases-loop-i : tie.decreases-loop-i
decreases-loop-i count k lots₀ rows sum₀ i₀ lots sum i = count - i

abbrev weight : tie.Start invariant-loop-i decreases-loop-i → ℕ → ℕ
weight s = let rows = s.args.rows in weight_at s.args.k (map standing_in rows) (map stake_in rows) (map offset_in rows)

-- what is weighed of the row at i
weighed : (c : tie.After-weight_of-w invariant-loop-i decreases-loop-i) → let b = c in c.weight_of-w.result ≡ weight c.before.before.before.before.before b.loop-i.i
weighed c = let b = c in let s = b in c.weight_of-w.ensures ∙ row_weight s.args.rows b.loop-i.i s.args.k

loop-holds : tie.Need-loop-i-init invariant-loop-i decreases-loop-i
loop-holds c = (search rules, refl, record { weights = refl; sum = refl })

mul-row : tie.Need-offset_bounds-rows-i invariant-loop-i decreases-loop-i
mul-row c = search rules

array-copy-out-row : tie.Need-bounds-rows-i invariant-loop-i decreases-loop-i
array-copy-out-row c = search rules

weight-of-requires : tie.Need-weight_of-w-requires invariant-loop-i decreases-loop-i
weight-of-requires c κs = let b = c in let s = b in row_within s.args.rows b.loop-i.i (s.requires.0.each b.loop-i.i (omega arith))

mul-lots : tie.Need-offset_bounds-lots-i invariant-loop-i decreases-loop-i
mul-lots c = search rules

slice-write-lots : tie.Need-bounds-lots-i invariant-loop-i decreases-loop-i
slice-write-lots c = search rules

add-sum : tie.Need-overflow_add-sum invariant-loop-i decreases-loop-i
add-sum c =
    let b = c in
    let s = b in
    let rows = s.args.rows in
    let small : (j : ℕ) → j < b.loop-i.i + 1 → weight c.before.before.before.before.before j ≤ 4_000_000 = λ j h. omega (arith, weight_le s.args.k (at (map standing_in rows) j) (at (map stake_in rows) j) (at (map offset_in rows) j), s.requires.0.stood.small j (omega arith)) in
    omega (arith, weighed c, b.loop-i.invariant.2.sum, sum_bound (weight c.before.before.before.before.before) 4_000_000 b.loop-i.i (λ j h. small j (omega arith)), small b.loop-i.i (omega arith), s.requires.0.stood.few)

add-i : tie.Need-overflow_add-i invariant-loop-i decreases-loop-i
add-i c = search rules

loop-less : tie.Need-loop-i-smaller invariant-loop-i decreases-loop-i
loop-less c = search rules

loop-again : tie.Need-loop-i-preserved invariant-loop-i decreases-loop-i
loop-again c =
    let b = c in
    let s = b in (
      search rules,
      simp length-set b.loop-i.invariant.1,
      record {
        weights = rw (b.loop-i.invariant.2.weights, weighed c) (filled_more (weight c.before.before.before.before.before) b.loop-i.i s.args.lots.now 0 (omega arith));
        sum = rw sum_more (omega (arith, weighed c, b.loop-i.invariant.2.sum));
      },
    )

same_length : tie.Need-shape_of-lots invariant-loop-i decreases-loop-i
same_length c = search rules

returns : tie.Need-returns invariant-loop-i decreases-loop-i
returns c = let b = c in let e : b.loop-i.i ≡ b.args.count = omega arith in rw e at b.loop-i.invariant.2

pub weigh_spec : {M : Type 1} → statement M
weigh_spec =
    tie.close
    (tie.spec
    invariant-loop-i
    decreases-loop-i
    loop-holds
    mul-row
    array-copy-out-row
    weight-of-requires
    mul-lots
    slice-write-lots
    add-sum
    add-i
    loop-less
    loop-again
    same_length
    returns)
