-- `newest::kept_gain` meets its contract: the gain so far, and that of what counts from the place on, make the whole.
-- Assumes nothing.
use Prim.Native.Nat.{ℕ, ◌+◌, ◌-◌, ◌*◌, ◌≤◌}
use mathlib.Core.Path.{◌≡◌, sym, ap, ap₂, ◌∙◌}
use mathlib.Core.List.{[]}
use mathlib.Core.Bool.{cond}
use native.Mathlib.Omega.{arith}
use borrow.Author.Rules.{rules}
use lib.ListN.{length}
use lib.Dec.{ltb, eqb}
use lib.IntN.{ℤ, nat_abs, ◌+ℤ◌, +ℤ_assoc, +ℤ_idr, +ℤ_idl}
use mir.Syntax.{w64}
use mir.Val.{to_z}
use Rattle.rules.specs.declared.Trade.{Trade}
use Rattle.rules.specs.Standing.{gain_of}
use Rattle.laws.specs.Gains.{lots_on}
use Rattle.order.specs.Order.{kept_of}
use Rattle.trades.proofs.Sizes.{lots_on_most, sum_fits, sum_is, sum_size}
use Rattle.order.specs.Trades.{when}
use Rattle.order.specs.Onward.{kept_onward}
use Rattle.order.specs.Gains.{gain_in}
use Rattle.trades.specs.declared.Next.TheVariants.{At, End}
use Rattle.trades.specs.Walk.{trades_at, Readable, Read}
use Rattle.trades.proofs.Onward.{next_tells}
use Rattle.newest.specs.Search.{kept_in}
use Rattle.newest.proofs.kept_gain.Statement.{statement}
use Rattle.newest.proofs.kept_gain.Tie as tie

abbrev invariant-loop-trade : tie.invariant-loop-trade
invariant-loop-trade book settlement long first e skip at₀ left₀ gain₀ at left gain =
    (first ≤ at) × (at - first ≤ 60000) × Readable book at × (nat_abs (to_z w64 gain) ≤ 9999999 * ((at - first) * 1000000))
    × (kept_in long settlement e skip book first ≡ to_z w64 gain +ℤ kept_in long settlement e left book at)

abbrev decreases-loop-trade : tie.decreases-loop-trade
decreases-loop-trade book settlement long first e skip at₀ left₀ gain₀ at left gain = length book - at

-- the trade of a turn
module _ (k : tie.In-At invariant-loop-trade decreases-loop-trade) where
  abbrev at-loop : tie.At-loop-trade invariant-loop-trade decreases-loop-trade
  at-loop = k.before.before

  abbrev start : tie.Start invariant-loop-trade decreases-loop-trade
  start = at-loop.before.before

  abbrev trade : Trade
  trade = k.in-At.trade

  abbrev end : ℕ
  end = k.in-At.end

  tells : Read start.args.book.now at-loop.loop-trade.at trade end
  tells = next_tells start.args.book.now at-loop.loop-trade.at (At trade end) (sym k.in-At.is ∙ k.next_trade.ensures)

-- its lots that count
module _ (c : tie.After-kept_of-n invariant-loop-trade decreases-loop-trade) where
  abbrev told : tie.In-At invariant-loop-trade decreases-loop-trade
  told = c.before.before

  abbrev lots : ℕ
  lots = lots_on (start told).args.long (trade told)

  counts : c.kept_of-n.result ≡ kept_of when (lots_on (start told).args.long) (start told).args.e (at-loop told).loop-trade.left (trade told)
  counts =
      let e = (start told).args.e in
      c.kept_of-n.ensures.0
      ∙ ap (λ (n : ℕ). cond (ltb e (when (trade told))) n (cond (eqb (when (trade told)) e) (n - (at-loop told).loop-trade.left) 0)) c.lots_on-lots.ensures

  few : c.kept_of-n.result ≤ 1000000
  few = omega (arith, c.kept_of-n.ensures.1, c.lots_on-lots.ensures, lots_on_most (start told).args.long (trade told), (tells told).lots_most)

  bounded : ((at-loop told).loop-trade.at - (start told).args.first) * 1000000 + c.kept_of-n.result ≤ 68719476736
  bounded = omega (arith, few, (at-loop told).loop-trade.invariant.1)

loop-holds : tie.Need-loop-trade-init invariant-loop-trade decreases-loop-trade
loop-holds c = let a = c.args in (omega arith, omega arith, c.requires.1.1, omega arith, sym (+ℤ_idl (kept_in a.long a.settlement a.e a.skip a.book.now a.first)))

next-trade-requires : tie.Need-next_trade-requires invariant-loop-trade decreases-loop-trade
next-trade-requires c κs = c.loop-trade.invariant.2

enum-known-trade : tie.Need-enum_known-trade invariant-loop-trade decreases-loop-trade
enum-known-trade c = search rules

enum_told : tie.Need-enum_told-1 invariant-loop-trade decreases-loop-trade
enum_told c = search rules

returns : tie.Need-returns-in_default invariant-loop-trade decreases-loop-trade
returns c =
    let n = c in
    let l = n.loop-trade in
    let a = n.args in
    let none : trades_at a.book.now l.at ≡ [] = next_tells a.book.now l.at End (sym c.in_default.is ∙ n.next_trade.ensures) in
    record { exact = sym (l.invariant.4 ∙ rw none (+ℤ_idr (to_z w64 l.gain-bits))); size = omega (arith, l.invariant.1, l.invariant.3) }

lots-on-requires : tie.Need-lots_on-lots-requires invariant-loop-trade decreases-loop-trade
lots-on-requires c κs = search rules

kept-of-requires : tie.Need-kept_of-n-requires invariant-loop-trade decreases-loop-trade
kept-of-requires c κs = search rules

gain-of-requires : tie.Need-gain_of-gain-requires invariant-loop-trade decreases-loop-trade
gain-of-requires c κs = record { settlement = (start (told c.before)).requires.1.0; price = (tells (told c.before)).price_most; lots = omega (arith, few c.before) }

add-gain : tie.Need-overflow_add-gain invariant-loop-trade decreases-loop-trade
add-gain c =
    let k = c in
    let l = (at-loop (told c.before.before)).loop-trade in
    sum_fits l.gain-bits c.gain_of-gain.result ((l.at - (start (told c.before.before)).args.first) * 1000000) k.kept_of-n.result l.invariant.3 c.gain_of-gain.ensures.size (bounded c.before.before)

left-after-requires : tie.Need-left_after-left-requires invariant-loop-trade decreases-loop-trade
left-after-requires c κs = search rules

loop-less : tie.Need-loop-trade-smaller invariant-loop-trade decreases-loop-trade
loop-less c = let t = told c.before.before.before in omega (arith, (tells t).on, (tells t).inside)

loop-again : tie.Need-loop-trade-preserved invariant-loop-trade decreases-loop-trade
loop-again c =
    let g = c in
    let k = g in
    let t = told c.before.before.before in
    let l = (at-loop t).loop-trade in
    let a = (start t).args in
    let n = k.kept_of-n.result in
    let size = sum_size l.gain-bits g.gain_of-gain.result ((l.at - a.first) * 1000000) n l.invariant.3 g.gain_of-gain.ensures.size (bounded c.before.before.before) in
    let e = sum_is l.gain-bits g.gain_of-gain.result ((l.at - a.first) * 1000000) n l.invariant.3 g.gain_of-gain.ensures.size (bounded c.before.before.before) in
    let left : c.left_after-left.result ≡ l.left - cond (eqb (when (trade t)) a.e) (lots c.before.before.before) 0 =
    c.left_after-left.ensures ∙ ap (λ (n : ℕ). l.left - cond (eqb (when (trade t)) a.e) n 0) k.lots_on-lots.ensures in
    let rest = trades_at a.book.now (end t) in (
      omega (arith, (tells t).on, l.invariant.0),
      omega (arith, (tells t).inside, (start t).requires.0),
      (tells t).readable l.invariant.2,
      omega (arith, size, few c.before.before.before, (tells t).on, l.invariant.0),
      l.invariant.4 ∙ rw (tells t).list
          (sym (+ℤ_assoc (to_z w64 l.gain-bits) _ _)
          ∙ ap₂ (λ (z : ℤ) (x : ℕ). z +ℤ kept_onward when (lots_on a.long) (gain_in a.long a.settlement) a.e x rest)
          (sym (e ∙ ap (λ (z : ℤ). to_z w64 l.gain-bits +ℤ z) (g.gain_of-gain.ensures.exact ∙ ap (gain_of a.long a.settlement (trade t).price) (counts c.before.before.before))))
          (sym left)),
    )

pub kept_gain_spec : {M : Type 1} → statement M
kept_gain_spec =
    tie.close
    (tie.spec
    invariant-loop-trade
    decreases-loop-trade
    loop-holds
    next-trade-requires
    enum-known-trade
    enum_told
    returns
    lots-on-requires
    kept-of-requires
    gain-of-requires
    add-gain
    left-after-requires
    loop-less
    loop-again)
