-- The seats before the place have their keys and weights in the arrays, and their weights are summed.
-- Assumes nothing.
use Prim.Native.Nat.{◌-◌, ◌≤◌}
use mathlib.Core.Path.{sym, ◌∙◌}
use native.Mathlib.Omega.{arith}
use borrow.Author.Rules.{rules}
use Rattle.seats.specs.Places.{seat_in}
use Rattle.seats.specs.Walk.{sane_next, Next, next, last, full}
use Rattle.seats.proofs.Weighing.{weight_le, Weighing, none_yet, one_more, weighed, sum_le}
use Rattle.seats.proofs.weigh.Statement.{statement}
use Rattle.seats.proofs.weigh.Tie as tie

abbrev invariant-loop-count : tie.invariant-loop-count
invariant-loop-count book at standing long keys₀ lots₀ place₀ count₀ sum₀ keys lots place count sum =
    (count ≤ 4) × Weighing book at standing long keys₀ keys lots₀ lots place count sum

abbrev decreases-loop-count : tie.decreases-loop-count
decreases-loop-count book at standing long keys₀ lots₀ place₀ count₀ sum₀ keys lots place count sum = 4 - count

abbrev start : tie.At-loop-count invariant-loop-count decreases-loop-count → tie.Start invariant-loop-count decreases-loop-count
start b = b.before.before.before.before

abbrev turn : tie.In-Found invariant-loop-count decreases-loop-count → tie.At-loop-count invariant-loop-count decreases-loop-count
turn k = k.before.before.before

-- the seat that was found is the next of them
sits : (k : tie.In-Found invariant-loop-count decreases-loop-count) → let a = (start (turn k)).args in Next a.book.now a.at (turn k).loop-count.count k.in-Found.seat
sits k = next _ _ (turn k).loop-count.invariant.1.behind (omega arith) (sym k.next_seat.ensures ∙ k.in-Found.is)

loop-holds : tie.Need-loop-count-init invariant-loop-count decreases-loop-count
loop-holds c = (search rules, none_yet _ _ _ _ _ _)

next-seat-requires : tie.Need-next_seat-requires invariant-loop-count decreases-loop-count
next-seat-requires c κs = search rules

enum-known-seat : tie.Need-enum_known-seat invariant-loop-count decreases-loop-count
enum-known-seat c = search rules

enum_told : tie.Need-enum_told-1 invariant-loop-count decreases-loop-count
enum_told c = search rules

same_length : tie.Need-shape_of-keys-in_default invariant-loop-count decreases-loop-count
same_length c = search rules

same-length-2 : tie.Need-shape_of-lots-in_default invariant-loop-count decreases-loop-count
same-length-2 c = search rules

returns : tie.Need-returns-in_default invariant-loop-count decreases-loop-count
returns c =
    let b = c in
    weighed _ _ _ _ b.loop-count.invariant.1 (last _ _ b.loop-count.invariant.1.behind (omega arith) (sym c.next_seat.ensures ∙ c.in_default.is))

weight-of-requires : tie.Need-weight_of-weight-requires invariant-loop-count decreases-loop-count
weight-of-requires c κs =
    (sits c).ordered

key-of-requires : tie.Need-key_of-requires invariant-loop-count decreases-loop-count
key-of-requires c κs =
    let k = c in
    let n = sits c.before in
    ((n.ordered.code, omega (arith, n.ordered)), (sane_next _ _ (start (turn c.before)).requires.0 n).code)

mul-keys : tie.Need-offset_bounds-keys-count invariant-loop-count decreases-loop-count
mul-keys c = search rules

slice-write-keys : tie.Need-bounds-keys-count invariant-loop-count decreases-loop-count
slice-write-keys c = search rules

mul-lots : tie.Need-offset_bounds-lots-count invariant-loop-count decreases-loop-count
mul-lots c = search rules

slice-write-lots : tie.Need-bounds-lots-count invariant-loop-count decreases-loop-count
slice-write-lots c = search rules

add-sum : tie.Need-overflow_add-sum invariant-loop-count decreases-loop-count
add-sum c =
    let k = c in
    let b = turn c.before.before in
    let a = (start b).args in
    omega (arith, sum_le _ _ _ _ b.loop-count.invariant.1 (start b).requires.0 (omega (arith, (sits c.before.before).below)), weight_le a.standing a.long (seat_in a.book.now k.in-Found.seat) (sane_next a.book.now a.at (start b).requires.0 (sits c.before.before)), c.weight_of-weight.ensures)

add-count : tie.Need-overflow_add-count invariant-loop-count decreases-loop-count
add-count c = search rules

loop-less : tie.Need-loop-count-smaller invariant-loop-count decreases-loop-count
loop-less c = search rules

loop-again : tie.Need-loop-count-preserved invariant-loop-count decreases-loop-count
loop-again c =
    let k = c in
    let b = turn c.before.before in
    (omega arith, one_more _ _ _ _ b.loop-count.invariant.1 (sits c.before.before) c.key_of.ensures c.weight_of-weight.ensures (omega arith) (omega arith))

same-length-3 : tie.Need-shape_of-keys invariant-loop-count decreases-loop-count
same-length-3 c = search rules

same-length-4 : tie.Need-shape_of-lots invariant-loop-count decreases-loop-count
same-length-4 c = search rules

returns-2 : tie.Need-returns invariant-loop-count decreases-loop-count
returns-2 c =
    let b = c in weighed _ _ _ _ b.loop-count.invariant.1 (full _ _ b.loop-count.invariant.1.behind (omega arith))

pub weigh_spec : {M : Type 1} → statement M
weigh_spec =
    tie.close
    (tie.spec
    invariant-loop-count
    decreases-loop-count
    loop-holds
    next-seat-requires
    enum-known-seat
    enum_told
    same_length
    same-length-2
    returns
    weight-of-requires
    key-of-requires
    mul-keys
    slice-write-keys
    mul-lots
    slice-write-lots
    add-sum
    add-count
    loop-less
    loop-again
    same-length-3
    same-length-4
    returns-2)
