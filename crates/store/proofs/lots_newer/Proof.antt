-- `store::lots_newer` meets its contract: the lots of the places passed and those of the rest make the whole.
-- Assumes nothing.
use Prim.Native.Nat.{◌+◌, ◌-◌, ◌*◌, ◌≤◌, min}
use mathlib.Core.Path.{◌≡◌}
use native.Mathlib.Omega.{arith}
use borrow.Author.Rules.{rules}
use Rattle.store.specs.Held.{since, newer_lots}
use Rattle.store.proofs.Places.{lots_next, lots_none}
use Rattle.store.proofs.lots_newer.Statement.{statement}
use Rattle.store.proofs.lots_newer.Tie as tie

abbrev invariant-loop-i : tie.invariant-loop-i
invariant-loop-i stamps lots start end than behind sum₀ i₀ sum i =
    (sum ≤ 1_000_000 * min i end) × (sum + newer_lots stamps lots i end (since than behind) ≡ newer_lots stamps lots start end (since than behind))

abbrev decreases-loop-i : tie.decreases-loop-i
decreases-loop-i stamps lots start end than behind sum₀ i₀ sum i = end - i

-- a turn, once the part of its place is known
module _ (c : tie.After-part_newer-sum invariant-loop-i decreases-loop-i) where
  abbrev at-loop : tie.At-loop-i invariant-loop-i decreases-loop-i
  at-loop = c.before.before.before.before.before.before

  most : c.part_newer-sum.result ≤ 1_000_000
  most = let s = at-loop.before in omega (arith, c.part_newer-sum.ensures.1, s.requires.most at-loop.loop-i.i (omega arith))

  small : at-loop.loop-i.sum + c.part_newer-sum.result ≤ 128_000_000
  small = omega (arith, most, at-loop.requires.few, at-loop.loop-i.invariant.0)

loop-holds : tie.Need-loop-i-init invariant-loop-i decreases-loop-i
loop-holds c = omega arith

mul-part-newer : tie.Need-offset_bounds-stamps-i invariant-loop-i decreases-loop-i
mul-part-newer c = search rules

element-copy-out-part-newer : tie.Need-bounds-stamps-i invariant-loop-i decreases-loop-i
element-copy-out-part-newer c = search rules

mul-part-newer-2 : tie.Need-offset_bounds-lots-i invariant-loop-i decreases-loop-i
mul-part-newer-2 c = search rules

element-copy-out-part-newer-2 : tie.Need-bounds-lots-i invariant-loop-i decreases-loop-i
element-copy-out-part-newer-2 c = search rules

part-newer-requires : tie.Need-part_newer-sum-requires invariant-loop-i decreases-loop-i
part-newer-requires c κs = search rules

add-sum : tie.Need-overflow_add-sum invariant-loop-i decreases-loop-i
add-sum c = omega (arith, small c)

add-i : tie.Need-overflow_add-i invariant-loop-i decreases-loop-i
add-i c = search rules

loop-less : tie.Need-loop-i-smaller invariant-loop-i decreases-loop-i
loop-less c = search rules

loop-again : tie.Need-loop-i-preserved invariant-loop-i decreases-loop-i
loop-again c =
    let l = (at-loop c).loop-i in
    let a = (at-loop c).args in
    let next = lots_next a.stamps.now a.lots.now l.i a.end (since a.than a.behind) (omega arith) in
    (omega (arith, most c, l.invariant.0), omega (arith, next, c.part_newer-sum.ensures.0, l.invariant.1))

returns : tie.Need-returns invariant-loop-i decreases-loop-i
returns c =
    let l = c.loop-i in
    let s = c in
    let a = s.args in
    let none = lots_none a.stamps.now a.lots.now l.i a.end (since a.than a.behind) (omega arith) in
    (omega (arith, none, l.invariant.1), omega (arith, l.invariant.0, s.requires.few))

pub lots_newer_spec : {M : Type 1} → statement M
lots_newer_spec =
    tie.close
    (tie.spec
    invariant-loop-i
    decreases-loop-i
    loop-holds
    mul-part-newer
    element-copy-out-part-newer
    mul-part-newer-2
    element-copy-out-part-newer-2
    part-newer-requires
    add-sum
    add-i
    loop-less
    loop-again
    returns)
