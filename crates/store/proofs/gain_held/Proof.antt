-- `store::gain_held` meets its contract: the gain of the places passed and that of the rest make the whole.
-- Assumes nothing.
use Prim.Native.Nat.{ℕ, ◌+◌, ◌-◌, ◌*◌, ◌≤◌, ◌<◌, min}
use mathlib.Core.Path.{◌≡◌, sym, ap, ◌∙◌}
use native.Mathlib.Omega.{arith}
use borrow.Author.Rules.{rules}
use lib.IntN.{ℤ, nat_abs, ◌+ℤ◌, +ℤ_assoc, +ℤ_idl, +ℤ_idr}
use mir.Syntax.{w64}
use mir.Val.{to_z}
use Rattle.trades.proofs.Sizes.{sum_fits, sum_is, sum_size}
use Rattle.store.specs.Held.{at, newer_at, gain_at, gain_held}
use Rattle.store.proofs.ByPlace.{gain_from_place, from_first, from_next, from_end}
use Rattle.store.proofs.gain_held.Statement.{statement}
use Rattle.store.proofs.gain_held.Tie as tie

abbrev invariant-loop-i : tie.invariant-loop-i
invariant-loop-i stamps lots prices count settlement long need gain₀ i₀ gain i =
    (i ≤ count) × (nat_abs (to_z w64 gain) ≤ 9999999 * (1_000_000 * i))
    × (gain_held long settlement need stamps lots prices count ≡ to_z w64 gain +ℤ gain_from_place long settlement need stamps lots prices count i)

abbrev decreases-loop-i : tie.decreases-loop-i
decreases-loop-i stamps lots prices count settlement long need gain₀ i₀ gain i = count - i

-- a turn, once what counts at its place is known
module _ (c : tie.After-counted-n invariant-loop-i decreases-loop-i) where
  abbrev at-loop : tie.At-loop-i invariant-loop-i decreases-loop-i
  at-loop = c.before.before.before.before.before

  place : at-loop.loop-i.i < at-loop.args.count
  place = omega arith

  few : c.counted-n.result ≤ 1_000_000
  few = omega (arith, c.counted-n.ensures, at-loop.requires.held.most at-loop.loop-i.i place)

  bounded : 1_000_000 * at-loop.loop-i.i + c.counted-n.result ≤ 68719476736
  bounded = omega (arith, few, place, at-loop.requires.held.few)

  counts : c.counted-n.result ≡ min (at at-loop.args.lots.now at-loop.loop-i.i) (at-loop.args.need - newer_at at-loop.args.stamps.now at-loop.args.lots.now at-loop.args.count at-loop.loop-i.i)
  counts =
      let a = at-loop.args in
      c.counted-n.ensures ∙ ap (λ (n : ℕ). min (at a.lots.now at-loop.loop-i.i) (a.need - n)) c.newer.ensures

loop-holds : tie.Need-loop-i-init invariant-loop-i decreases-loop-i
loop-holds c =
    let a = c.args in
    (omega arith, omega arith, from_first a.long a.settlement a.need a.stamps.now a.lots.now a.prices.now a.count ∙ sym (+ℤ_idl _))

mul-counted : tie.Need-offset_bounds-lots-i invariant-loop-i decreases-loop-i
mul-counted c = search rules

element-copy-out-counted : tie.Need-bounds-lots-i invariant-loop-i decreases-loop-i
element-copy-out-counted c = search rules

newer-requires : tie.Need-newer-requires invariant-loop-i decreases-loop-i
newer-requires c κs = (c.requires.held, omega arith)

counted-requires : tie.Need-counted-n-requires invariant-loop-i decreases-loop-i
counted-requires c κs = search rules

mul-t12 : tie.Need-offset_bounds-prices-i invariant-loop-i decreases-loop-i
mul-t12 c = search rules

element-copy-out-t20 : tie.Need-bounds-prices-i invariant-loop-i decreases-loop-i
element-copy-out-t20 c = search rules

cast-t16 : tie.Need-overflow_cast-prices invariant-loop-i decreases-loop-i
cast-t16 c = let k = c in omega (arith, (at-loop c.before.before).requires.priced (at-loop c.before.before).loop-i.i (place c.before.before))

gain-of-requires : tie.Need-gain_of-gain-requires invariant-loop-i decreases-loop-i
gain-of-requires c κs =
    let k = c in
    let s = (at-loop c.before.before).before in
    record { settlement = s.requires.settlement; price = s.requires.priced (at-loop c.before.before).loop-i.i (place c.before.before); lots = omega (arith, few c.before.before) }

add-gain : tie.Need-overflow_add-gain invariant-loop-i decreases-loop-i
add-gain c =
    let k = c in
    let l = (at-loop c.before.before.before).loop-i in
    sum_fits l.gain-bits c.gain_of-gain.result (1_000_000 * l.i) k.counted-n.result l.invariant.1 c.gain_of-gain.ensures.size (bounded c.before.before.before)

add-i : tie.Need-overflow_add-i invariant-loop-i decreases-loop-i
add-i c = search rules

loop-less : tie.Need-loop-i-smaller invariant-loop-i decreases-loop-i
loop-less c = search rules

loop-again : tie.Need-loop-i-preserved invariant-loop-i decreases-loop-i
loop-again c =
    let k = c in
    let l = (at-loop c.before.before.before).loop-i in
    let a = (at-loop c.before.before.before).args in
    let n = k.counted-n.result in
    let size = sum_size l.gain-bits c.gain_of-gain.result (1_000_000 * l.i) n l.invariant.1 c.gain_of-gain.ensures.size (bounded c.before.before.before) in
    let is = sum_is l.gain-bits c.gain_of-gain.result (1_000_000 * l.i) n l.invariant.1 c.gain_of-gain.ensures.size (bounded c.before.before.before) in
    let next = from_next a.long a.settlement a.need a.stamps.now a.lots.now a.prices.now a.count l.i (place c.before.before.before) in
    let here : c.gain_of-gain.result ≡ gain_at a.long a.settlement a.prices.now l.i (min (at a.lots.now l.i) (a.need - newer_at a.stamps.now a.lots.now a.count l.i)) =
    c.gain_of-gain.ensures.exact ∙ ap (gain_at a.long a.settlement a.prices.now l.i) (counts c.before.before.before) in
    let rest = gain_from_place a.long a.settlement a.need a.stamps.now a.lots.now a.prices.now a.count (l.i + 1) in (
      omega (arith, place c.before.before.before),
      omega (arith, size, few c.before.before.before),
      l.invariant.2 ∙ ap (λ (z : ℤ). to_z w64 l.gain-bits +ℤ z) (next ∙ ap (λ (z : ℤ). z +ℤ rest) (sym here))
          ∙ sym (+ℤ_assoc (to_z w64 l.gain-bits) c.gain_of-gain.result rest) ∙ ap (λ (z : ℤ). z +ℤ rest) (sym is),
    )

returns : tie.Need-returns invariant-loop-i decreases-loop-i
returns c =
    let l = c.loop-i in
    let s = c in
    let a = s.args in
    let none = from_end a.long a.settlement a.need a.stamps.now a.lots.now a.prices.now a.count l.i (omega arith) in
    record {
      exact = sym (l.invariant.2 ∙ ap (λ (z : ℤ). to_z w64 l.gain-bits +ℤ z) none ∙ +ℤ_idr (to_z w64 l.gain-bits));
      size = omega (arith, l.invariant.0, l.invariant.1, s.requires.held.few);
    }

pub gain_held_spec : {M : Type 1} → statement M
gain_held_spec =
    tie.close
    (tie.spec
    invariant-loop-i
    decreases-loop-i
    loop-holds
    mul-counted
    element-copy-out-counted
    newer-requires
    counted-requires
    mul-t12
    element-copy-out-t20
    cast-t16
    gain-of-requires
    add-gain
    add-i
    loop-less
    loop-again
    returns)
