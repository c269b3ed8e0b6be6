-- Those that count are summed up to i; their number is at most i, so it fits.
-- Assumes nothing.
use Prim.Native.Nat.{◌+◌, ◌-◌, ◌≤◌}
use mathlib.Core.Path.{◌≡◌}
use native.Mathlib.Omega.{arith}
use Rattle.laws.specs.Indices.{sum_more}
use Rattle.division.specs.Parts.{count_of}
use borrow.Author.Rules.{rules}
use Rattle.division.proofs.reached.Statement.{statement}
use Rattle.division.proofs.reached.Tie as tie

abbrev invariant-loop-i : tie.invariant-loop-i
invariant-loop-i lots keys count edge most n₀ i₀ n i = (i ≤ count) × ((n ≤ i) × (n ≡ count_of lots keys edge i (most + 1)))

abbrev decreases-loop-i : tie.decreases-loop-i
decreases-loop-i lots keys count edge most n₀ i₀ n i = count - i

loop-holds : tie.Need-loop-i-init invariant-loop-i decreases-loop-i
loop-holds c = search rules

mul-counted : tie.Need-offset_bounds-lots-i invariant-loop-i decreases-loop-i
mul-counted c = search rules

shared-slice-read-counted : tie.Need-bounds-lots-i invariant-loop-i decreases-loop-i
shared-slice-read-counted c = search rules

mul-counted-2 : tie.Need-offset_bounds-keys-i invariant-loop-i decreases-loop-i
mul-counted-2 c = search rules

shared-slice-read-counted-2 : tie.Need-bounds-keys-i invariant-loop-i decreases-loop-i
shared-slice-read-counted-2 c = search rules

counted-requires : tie.Need-counted-n-requires invariant-loop-i decreases-loop-i
counted-requires c κs = search rules

add-n : tie.Need-overflow_add-n invariant-loop-i decreases-loop-i
add-n c = omega (arith, c.counted-n.ensures.1)

add-i : tie.Need-overflow_add-i invariant-loop-i decreases-loop-i
add-i c = search rules

loop-less : tie.Need-loop-i-smaller invariant-loop-i decreases-loop-i
loop-less c = search rules

loop-again : tie.Need-loop-i-preserved invariant-loop-i decreases-loop-i
loop-again c = (search rules, (omega (arith, c.counted-n.ensures.1), rw sum_more (omega (arith, c.counted-n.ensures.0))))

returns : tie.Need-returns invariant-loop-i decreases-loop-i
returns c = let e : c.loop-i.i ≡ c.args.count = omega arith in cc

pub reached_spec : {M : Type 1} → statement M
reached_spec =
    tie.close
    (tie.spec
    invariant-loop-i
    decreases-loop-i
    loop-holds
    mul-counted
    shared-slice-read-counted
    mul-counted-2
    shared-slice-read-counted-2
    counted-requires
    add-n
    add-i
    loop-less
    loop-again
    returns)
