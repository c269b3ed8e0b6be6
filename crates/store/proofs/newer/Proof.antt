-- `store::newer` meets its contract: those before the place, and those behind it.
-- Assumes nothing.
use Prim.Native.Nat.{◌+◌}
use mathlib.Core.Path.{◌≡◌, ap₂}
use native.Mathlib.Omega.{arith}
use borrow.Author.Rules.{rules}
use Rattle.store.specs.Held.{at, newer_lots}
use Rattle.store.proofs.newer.Statement.{statement}
use Rattle.store.proofs.newer.Tie as tie

mul-lots-newer : tie.Need-offset_bounds-stamps-i
mul-lots-newer c = search rules

element-copy-out-lots-newer : tie.Need-bounds-stamps-i
element-copy-out-lots-newer c = search rules

lots-newer-requires : tie.Need-lots_newer-before-requires
lots-newer-requires c κs =
    let h = c.requires.0 in
    record { few = omega (arith, h.few); most = λ j b. h.most j (omega arith) }

add-lots-newer : tie.Need-overflow_add-i
add-lots-newer c = search rules

mul-lots-newer-2 : tie.Need-offset_bounds-stamps-i-2
mul-lots-newer-2 c = search rules

element-copy-out-lots-newer-2 : tie.Need-bounds-stamps-i-2
element-copy-out-lots-newer-2 c = search rules

lots-newer-requires-2 : tie.Need-lots_newer-requires
lots-newer-requires-2 c κs = search rules

add-result : tie.Need-overflow_add-result
add-result c = search rules

returns : tie.Need-returns
returns c =
    let first = c in
    let a = first.args in
    let stamp = at a.stamps.now a.i in
    let before : first.lots_newer-before.result ≡ newer_lots a.stamps.now a.lots.now 0 a.i (stamp + 1) = first.lots_newer-before.ensures.0 in
    let behind : c.lots_newer.result ≡ newer_lots a.stamps.now a.lots.now (a.i + 1) a.count stamp = c.lots_newer.ensures.0 in
    ap₂ ◌+◌ before behind

pub newer_spec : {M : Type 1} → statement M
newer_spec =
    tie.close
    (tie.spec
    mul-lots-newer
    element-copy-out-lots-newer
    lots-newer-requires
    add-lots-newer
    mul-lots-newer-2
    element-copy-out-lots-newer-2
    lots-newer-requires-2
    add-result
    returns)
