-- The edge lies from `low` to `high`: fewer than `need` are below `low`, and `need` are up to `high`.
-- Assumes nothing.
use Prim.Native.Nat.{◌+◌, ◌-◌, ◌<◌, ◌≤◌}
use mathlib.Core.Path.{◌≡◌}
use native.Mathlib.Omega.{arith}
use borrow.Author.Rules.{rules}
use Rattle.division.specs.Parts.{count_of}
use Rattle.division.proofs.find_edge.Statement.{statement}
use Rattle.division.proofs.find_edge.Tie as tie

abbrev invariant-loop-low : tie.invariant-loop-low
invariant-loop-low lots keys count edge need least most low₀ high₀ low high =
    (least ≤ low) × ((low ≤ high) × ((high ≤ most) × ((count_of lots keys edge count low < need) × (need ≤ count_of lots keys edge count (high + 1)))))

abbrev decreases-loop-low : tie.decreases-loop-low
decreases-loop-low lots keys count edge need least most low₀ high₀ low high = high - low

loop-holds : tie.Need-loop-low-init invariant-loop-low decreases-loop-low
loop-holds c = omega arith

sub-middle : tie.Need-overflow_sub-middle invariant-loop-low decreases-loop-low
sub-middle c = search rules

add-middle : tie.Need-overflow_add-middle invariant-loop-low decreases-loop-low
add-middle c = search rules

reached-requires : tie.Need-reached-n-requires invariant-loop-low decreases-loop-low
reached-requires c κs = search rules

returns : tie.Need-returns-then-n-need invariant-loop-low decreases-loop-low
returns c = record { above = omega arith; edge = record { enough = omega arith; least = λ e. omega arith } }

add_low : tie.Need-overflow_add-low invariant-loop-low decreases-loop-low
add_low c = search rules

loop-less : tie.Need-loop-low-smaller-then-n-need-2 invariant-loop-low decreases-loop-low
loop-less c = omega arith

loop-again : tie.Need-loop-low-preserved-then-n-need-2 invariant-loop-low decreases-loop-low
loop-again c = omega arith

loop-less-2 : tie.Need-loop-low-smaller invariant-loop-low decreases-loop-low
loop-less-2 c = omega arith

loop-again-2 : tie.Need-loop-low-preserved invariant-loop-low decreases-loop-low
loop-again-2 c = omega arith

returns-2 : tie.Need-returns invariant-loop-low decreases-loop-low
returns-2 c =
    let e : c.loop-low.low ≡ c.loop-low.high = omega arith in
    let i = c.loop-low.invariant in
    record { above = i.0; edge = record { enough = rw e i.1.1.1.1; least = λ _. i.1.1.1.0 } }

pub find_edge_spec : {M : Type 1} → statement M
find_edge_spec =
    tie.close
    (tie.spec
    invariant-loop-low
    decreases-loop-low
    loop-holds
    sub-middle
    add-middle
    reached-requires
    returns
    add_low
    loop-less
    loop-again
    loop-less-2
    loop-again-2
    returns-2)
