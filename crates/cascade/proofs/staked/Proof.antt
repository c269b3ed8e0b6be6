-- The stakes of customers with one standing are summed up to i; each is at most 4,000,000, so the sum fits.
-- Assumes nothing.
use Prim.Native.Nat.{ℕ, ◌+◌, ◌-◌, ◌≤◌, ◌<◌}
use mathlib.Core.Path.{◌≡◌, refl, sym, ◌∙◌}
use mathlib.Core.Bool.{Bool, true, false, cond}
use native.Mathlib.Nat.{sub-zero}
use native.Mathlib.Omega.{arith}
use borrow.Author.Rules.{rules}
use lib.Dec.{eqb}
use Rattle.rules.specs.Division.{sum_of}
use Rattle.laws.specs.Sums.{up_to}
use Rattle.laws.specs.Indices.{sum_more, sum_bound}
use Rattle.division.specs.Shares.{at}
use Rattle.cascade.proofs.Weights.{weight_le}
use Rattle.cascade.specs.State.{weight_in, stake_at}
use Rattle.cascade.proofs.staked.Statement.{statement}
use Rattle.cascade.proofs.staked.Tie as tie

abbrev invariant-loop-i : tie.invariant-loop-i
invariant-loop-i standings stakes count k sum₀ i₀ sum i = (i ≤ count) × (sum ≡ sum_of (stake_at k standings stakes) (up_to i))

abbrev decreases-loop-i : tie.decreases-loop-i
decreases-loop-i standings stakes count k sum₀ i₀ sum i = count - i

abbrev start : tie.At-loop-i invariant-loop-i decreases-loop-i → tie.Start invariant-loop-i decreases-loop-i
start b = b.before.before.before

-- nothing of a stake is offset
none : (b : Bool) → ◌≡◌ {A = ℕ} (cond b 0 0) 0
none true = refl
none false = refl

whole : (k standing stake : ℕ) → weight_in k standing stake 0 ≡ cond (eqb standing k) stake 0
whole k standing stake = rw (none (eqb k 0)) (rw sub-zero)

added : (c : tie.After-weight_of-sum invariant-loop-i decreases-loop-i) →
    let b = c in
    c.weight_of-sum.result ≡ stake_at (start c.before.before.before.before).args.k (start c.before.before.before.before).args.standings.now (start c.before.before.before.before).args.stakes.now b.loop-i.i
added c =
    let b = c in
    c.weight_of-sum.ensures ∙ whole (start c.before.before.before.before).args.k (at (start c.before.before.before.before).args.standings.now b.loop-i.i) (at (start c.before.before.before.before).args.stakes.now b.loop-i.i)

loop-holds : tie.Need-loop-i-init invariant-loop-i decreases-loop-i
loop-holds c = (search rules, refl)

shared-slice-read-weight-of : tie.Need-bounds-standings-i invariant-loop-i decreases-loop-i
shared-slice-read-weight-of c = search rules

mul-weight-of : tie.Need-offset_bounds-stakes-i invariant-loop-i decreases-loop-i
mul-weight-of c = search rules

shared-slice-read-weight-of-2 : tie.Need-bounds-stakes-i invariant-loop-i decreases-loop-i
shared-slice-read-weight-of-2 c = search rules

weight-of-requires : tie.Need-weight_of-sum-requires invariant-loop-i decreases-loop-i
weight-of-requires c κs =
    let b = c in
    record { within = λ z. omega arith; small = (start c.before.before.before).requires.small b.loop-i.i (omega arith) }

add-sum : tie.Need-overflow_add-sum invariant-loop-i decreases-loop-i
add-sum c =
    let b = c in
    let a = (start c.before.before.before.before).args in
    let w = stake_at a.k a.standings.now a.stakes.now in
    let small : (j : ℕ) → j < b.loop-i.i + 1 → w j ≤ 4_000_000 = λ j h. rw (sym (whole a.k (at a.standings.now j) (at a.stakes.now j))) (omega (arith, weight_le a.k (at a.standings.now j) (at a.stakes.now j) 0, (start c.before.before.before.before).requires.small j (omega arith))) in
    omega (arith, added c, b.loop-i.invariant.1, sum_bound w 4_000_000 b.loop-i.i (λ j h. small j (omega arith)), small b.loop-i.i (omega arith), (start c.before.before.before.before).requires.few)

add-i : tie.Need-overflow_add-i invariant-loop-i decreases-loop-i
add-i c = search rules

loop-less : tie.Need-loop-i-smaller invariant-loop-i decreases-loop-i
loop-less c = search rules

loop-again : tie.Need-loop-i-preserved invariant-loop-i decreases-loop-i
loop-again c = (search rules, rw sum_more (omega (arith, added c, c.loop-i.invariant.1)))

returns : tie.Need-returns invariant-loop-i decreases-loop-i
returns c = let e : c.loop-i.i ≡ (start c.before).args.count = omega arith in rw e at c.loop-i.invariant.1

pub staked_spec : {M : Type 1} → statement M
staked_spec =
    tie.close
    (tie.spec
    invariant-loop-i
    decreases-loop-i
    loop-holds
    shared-slice-read-weight-of
    mul-weight-of
    shared-slice-read-weight-of-2
    weight-of-requires
    add-sum
    add-i
    loop-less
    loop-again
    returns)
