-- Each customer's weight stands in the array up to i, and is summed up to i.
-- Assumes nothing.
use Prim.Native.Nat.{ℕ, ◌+◌, ◌-◌, ◌≤◌, ◌<◌}
use mathlib.Core.Path.{◌≡◌, refl}
use native.Mathlib.Omega.{arith}
use borrow.Author.Rules.{rules}
use lib.ListN.{length, length-set}
use Rattle.laws.specs.Indices.{sum_more, sum_bound}
use Rattle.laws.specs.Filled.{filled_more}
use Rattle.division.specs.Shares.{at}
use Rattle.cascade.proofs.Weights.{weight_le}
use Rattle.cascade.specs.State.{weight_at, Weighed}
use Rattle.cascade.proofs.weigh.Statement.{statement}
use Rattle.cascade.proofs.weigh.Tie as tie

abbrev invariant-loop-i : tie.invariant-loop-i
invariant-loop-i standings stakes offset count k lots₀ sum₀ i₀ lots sum i =
    (i ≤ count) × (length lots ≡ length lots₀) × Weighed (weight_at k standings stakes offset) i lots₀ lots sum

abbrev decreases-loop-i : tie.decreases-loop-i
decreases-loop-i standings stakes offset count k lots₀ sum₀ i₀ lots sum i = count - i

abbrev start : tie.At-loop-i invariant-loop-i decreases-loop-i → tie.Start invariant-loop-i decreases-loop-i
start b = b.before.before.before.before.before

loop-holds : tie.Need-loop-i-init invariant-loop-i decreases-loop-i
loop-holds c = (search rules, refl, record { weights = refl; sum = refl })

shared-slice-read-weight-of : tie.Need-bounds-standings-i invariant-loop-i decreases-loop-i
shared-slice-read-weight-of c = search rules

mul-weight-of : tie.Need-offset_bounds-stakes-i invariant-loop-i decreases-loop-i
mul-weight-of c = search rules

shared-slice-read-weight-of-2 : tie.Need-bounds-stakes-i invariant-loop-i decreases-loop-i
shared-slice-read-weight-of-2 c = search rules

mul-weight-of-2 : tie.Need-offset_bounds-offset-i invariant-loop-i decreases-loop-i
mul-weight-of-2 c = search rules

shared-slice-read-weight-of-3 : tie.Need-bounds-offset-i invariant-loop-i decreases-loop-i
shared-slice-read-weight-of-3 c = search rules

weight-of-requires : tie.Need-weight_of-w-requires invariant-loop-i decreases-loop-i
weight-of-requires c κs = let b = c in (start c.before.before.before.before).requires.0.each b.loop-i.i (omega arith)

mul-lots : tie.Need-offset_bounds-lots-i invariant-loop-i decreases-loop-i
mul-lots c = search rules

slice-write-lots : tie.Need-bounds-lots-i invariant-loop-i decreases-loop-i
slice-write-lots c = search rules

add-sum : tie.Need-overflow_add-sum invariant-loop-i decreases-loop-i
add-sum c =
    let b = c in
    let a = (start c.before.before.before.before.before).args in
    let w = weight_at a.k a.standings.now a.stakes.now a.offset.now in
    let small : (j : ℕ) → j < b.loop-i.i + 1 → w j ≤ 4_000_000 = λ j h. omega (arith, weight_le a.k (at a.standings.now j) (at a.stakes.now j) (at a.offset.now j), (start c.before.before.before.before.before).requires.0.stood.small j (omega arith)) in
    omega (arith, c.weight_of-w.ensures, b.loop-i.invariant.2.sum, sum_bound w 4_000_000 b.loop-i.i (λ j h. small j (omega arith)), small b.loop-i.i (omega arith), (start c.before.before.before.before.before).requires.0.stood.few)

add-i : tie.Need-overflow_add-i invariant-loop-i decreases-loop-i
add-i c = search rules

loop-less : tie.Need-loop-i-smaller invariant-loop-i decreases-loop-i
loop-less c = search rules

loop-again : tie.Need-loop-i-preserved invariant-loop-i decreases-loop-i
loop-again c =
    let b = c in
    let a = (start c.before.before.before.before.before).args in
    let w = weight_at a.k a.standings.now a.stakes.now a.offset.now in (
      search rules,
      simp length-set b.loop-i.invariant.1,
      record {
        weights = rw (b.loop-i.invariant.2.weights, c.weight_of-w.ensures) (filled_more w b.loop-i.i a.lots.now 0 (omega arith));
        sum = rw sum_more (omega (arith, c.weight_of-w.ensures, b.loop-i.invariant.2.sum));
      },
    )

same_length : tie.Need-shape_of-lots invariant-loop-i decreases-loop-i
same_length c = omega arith

returns : tie.Need-returns invariant-loop-i decreases-loop-i
returns c = let e : c.loop-i.i ≡ (start c.before).args.count = omega arith in rw e at c.loop-i.invariant.2

pub weigh_spec : {M : Type 1} → statement M
weigh_spec =
    tie.close
    (tie.spec
    invariant-loop-i
    decreases-loop-i
    loop-holds
    shared-slice-read-weight-of
    mul-weight-of
    shared-slice-read-weight-of-2
    mul-weight-of-2
    shared-slice-read-weight-of-3
    weight-of-requires
    mul-lots
    slice-write-lots
    add-sum
    add-i
    loop-less
    loop-again
    same_length
    returns)
