-- `newest::find_bucket` meets its contract: from the start of bucket i on there are `left` lots, which are enough.
-- Assumes nothing.
use Prim.Native.Nat.{ℕ, ◌+◌, ◌-◌, ◌*◌, ◌≤◌, ◌<◌}
use mathlib.Core.Path.{◌≡◌, sym, ◌∙◌}
use native.Mathlib.Omega.{arith}
use borrow.Author.Rules.{rules}
use lib.Dec.{eqb}
use borrow.Author.Tests.{eqb-true, eqb-false}
use Rattle.laws.specs.ByTest.{by_test}
use Rattle.newest.proofs.Counting.{at_last}
use Rattle.newest.specs.Search.{at, from_in, Counted}
use Rattle.newest.proofs.find_bucket.Statement.{statement}
use Rattle.newest.proofs.find_bucket.Tie as tie

abbrev invariant-loop-left : tie.invariant-loop-left
invariant-loop-left book long first low width need have b i₀ left₀ i left =
    (i < 72) × (left ≡ from_in long book first (low + i * width)) × (need ≤ left) × Counted (from_in long book first) low width b

abbrev decreases-loop-left : tie.decreases-loop-left
decreases-loop-left book long first low width need have b i₀ left₀ i left = 72 - i

count-requires : tie.Need-count-requires invariant-loop-left decreases-loop-left
count-requires c κs = search rules

-- the bucket at the loop's test
module _ (c : tie.At-loop-left invariant-loop-left decreases-loop-left) where
  abbrev start : tie.Start invariant-loop-left decreases-loop-left
  start = c.before.before.before.before

  abbrev fromHere : ℕ → ℕ
  fromHere j = from_in start.args.long start.args.book.now start.args.first (start.args.low + j * start.args.width)

  bucket : at c.count.result.lots c.loop-left.i + fromHere (c.loop-left.i + 1) ≡ c.loop-left.left
  bucket = c.loop-left.invariant.3.parts c.loop-left.i c.loop-left.invariant.0 ∙ sym c.loop-left.invariant.1

  -- the last bucket has too few after it
  last : c.loop-left.i ≡ 71 → fromHere (c.loop-left.i + 1) < start.args.need
  last e = at_last fromHere c.loop-left.i start.args.need start.requires.1.1.0.over e

loop-holds : tie.Need-loop-left-init invariant-loop-left decreases-loop-left
loop-holds c =
    let s = c in
    let a = s.args in
    let e : a.low + 0 * a.width ≡ a.low = omega arith in
    (omega arith, rw e s.requires.1.1.0.has, s.requires.1.1.0.enough, c.count.ensures)

mul-loop : tie.Need-offset_bounds-b-i invariant-loop-left decreases-loop-left
mul-loop c = search rules

array-read-loop : tie.Need-bounds-b-i invariant-loop-left decreases-loop-left
array-read-loop c = search rules

sub-loop : tie.Need-overflow_sub-left invariant-loop-left decreases-loop-left
sub-loop c = omega (arith, bucket c)

mul_left : tie.Need-offset_bounds-b-i-in-loop-left invariant-loop-left decreases-loop-left
mul_left c = search rules

array-read-left : tie.Need-bounds-b-i-in-loop-left invariant-loop-left decreases-loop-left
array-read-left c = search rules

sub-left : tie.Need-overflow_sub-left-in-loop-left invariant-loop-left decreases-loop-left
sub-left c = omega (arith, bucket c.before)

add-i : tie.Need-overflow_add-i invariant-loop-left decreases-loop-left
add-i c = search rules

loop-less : tie.Need-loop-left-smaller invariant-loop-left decreases-loop-left
loop-less c = search rules

loop-again : tie.Need-loop-left-preserved invariant-loop-left decreases-loop-left
loop-again c =
    let b = bucket c.before in
    let inside : c.loop-left.i + 1 < 72 =
    by_test (eqb c.loop-left.i 71)
    (λ e. absurd (omega (arith, b, last c.before (eqb-true c.loop-left.i 71 e))))
    (λ e. omega (arith, eqb-false c.loop-left.i 71 e, c.loop-left.invariant.0)) in
    (inside, omega (arith, b), omega arith, c.loop-left.invariant.3)

returns : tie.Need-returns invariant-loop-left decreases-loop-left
returns c =
    let l = c.loop-left in
    let a = (start c.before).args in
    let e : a.low + l.i * a.width + a.width ≡ a.low + (l.i + 1) * a.width = omega arith in
    record { has = l.invariant.1; enough = l.invariant.2; over = rw e (omega (arith, bucket c.before)) }

pub find_bucket_spec : {M : Type 1} → statement M
find_bucket_spec =
    tie.close
    (tie.spec
    invariant-loop-left
    decreases-loop-left
    count-requires
    loop-holds
    mul-loop
    array-read-loop
    sub-loop
    mul_left
    array-read-left
    sub-left
    add-i
    loop-less
    loop-again
    returns)
