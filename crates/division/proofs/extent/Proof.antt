-- The keys of those of the first i that lack the edge lie between the two.
-- Assumes nothing.
use Prim.Native.Nat.{◌-◌, ◌≤◌}
use mathlib.Core.Path.{◌≡◌}
use native.Mathlib.Omega.{arith}
use Rattle.division.proofs.Between.{Between, one_between, passed_between, spanned}
use borrow.Author.Rules.{rules}
use Rattle.division.proofs.extent.Statement.{statement}
use Rattle.division.proofs.extent.Lts.{then-lots-i, else-lots-i}
use Rattle.division.proofs.extent.Tie as tie

abbrev invariant-loop-i : tie.invariant-loop-i
invariant-loop-i lots keys count edge least₀ most₀ i₀ least most i = (i ≤ count) × Between lots keys i edge least most

abbrev decreases-loop-i : tie.decreases-loop-i
decreases-loop-i lots keys count edge least₀ most₀ i₀ least most i = count - i

loop-holds : tie.Need-loop-i-init invariant-loop-i decreases-loop-i
loop-holds c = (omega arith, record { above = λ i h e. absurd (omega arith); under = λ i h e. absurd (omega arith) })

mul-if1 : tie.Need-offset_bounds-lots-i invariant-loop-i decreases-loop-i
mul-if1 c = search rules

shared-slice-read-if1 : tie.Need-bounds-lots-i invariant-loop-i decreases-loop-i
shared-slice-read-if1 c = search rules

mul-lesser : tie.Need-offset_bounds-keys-i invariant-loop-i decreases-loop-i
mul-lesser c = search rules

shared-slice-read-lesser : tie.Need-bounds-keys-i invariant-loop-i decreases-loop-i
shared-slice-read-lesser c = search rules

lesser-requires : tie.Need-lesser-least-requires invariant-loop-i decreases-loop-i
lesser-requires c κs = search rules

mul-greater : tie.Need-offset_bounds-keys-i-then-lots-i invariant-loop-i decreases-loop-i
mul-greater c = search rules

shared-slice-read-greater : tie.Need-bounds-keys-i-then-lots-i invariant-loop-i decreases-loop-i
shared-slice-read-greater c = search rules

greater-requires : tie.Need-greater-most-requires invariant-loop-i decreases-loop-i
greater-requires c κs = search rules

add-i : tie.Need-overflow_add-i invariant-loop-i decreases-loop-i
add-i c = search rules

loop-less : tie.Need-loop-i-smaller invariant-loop-i decreases-loop-i
loop-less c = search rules

loop-again : tie.Need-loop-i-preserved invariant-loop-i decreases-loop-i
loop-again c =
    let v = c.loop-i.invariant in
    elim c.if-lots-i.branch [
      | then-lots-i w ↦ rw (w.least-is, w.most-is, w.lesser-least.ensures, w.greater-most.ensures) (omega arith, one_between v.1)
      | else-lots-i w ↦ rw (w.least-is, w.most-is) (omega arith, passed_between v.1 w.if-lots-i.false)
    ]

lesser-requires-2 : tie.Need-lesser-requires invariant-loop-i decreases-loop-i
lesser-requires-2 c κs = search rules

returns : tie.Need-returns invariant-loop-i decreases-loop-i
returns c =
    let e : c.loop-i.i ≡ c.args.count = omega arith in
    rw c.lesser.ensures (rw e at (spanned c.loop-i.invariant.1))

pub extent_spec : {M : Type 1} → statement M
extent_spec =
    tie.close
    (tie.spec
    invariant-loop-i
    decreases-loop-i
    loop-holds
    mul-if1
    shared-slice-read-if1
    mul-lesser
    shared-slice-read-lesser
    lesser-requires
    mul-greater
    shared-slice-read-greater
    greater-requires
    add-i
    loop-less
    loop-again
    lesser-requires-2
    returns)
