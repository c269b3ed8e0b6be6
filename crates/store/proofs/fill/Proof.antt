-- `store::fill` meets its contract: the store holds the trades passed, and those from the place on are the rest.
-- Assumes nothing.
use Prim.Native.Nat.{ℕ, ◌-◌, ◌≤◌, ◌<◌}
use mathlib.Core.Path.{◌≡◌, sym, ap, ◌∙◌}
use mathlib.Core.List.{[], ◌∷◌}
use native.Mathlib.Omega.{arith}
use borrow.Author.Rules.{rules}
use lib.ListN.{length}
use Rattle.rules.specs.declared.Trade.{Trade}
use Rattle.laws.specs.Gains.{lots_on}
use Rattle.order.specs.Some.{with_lots}
use Rattle.trades.proofs.Sizes.{lots_on_most}
use Rattle.trades.specs.declared.Next.TheVariants.{At, End}
use Rattle.trades.specs.Walk.{trades_at, Readable, Read}
use Rattle.trades.proofs.Onward.{next_tells}
use Rattle.store.specs.Held.{on_side_in}
use Rattle.store.proofs.Filling.{Filling, side_next, side_none, filling_none, filling_same, filling_more, filled, too_many}
use Rattle.store.proofs.fill.Statement.{statement}
use Rattle.store.proofs.fill.Tie as tie

abbrev invariant-loop-trade : tie.invariant-loop-trade
invariant-loop-trade book long first stamps₀ lots₀ prices₀ count₀ at₀ stamps lots prices count at = Readable book at × Filling long book first at count stamps lots prices

abbrev decreases-loop-trade : tie.decreases-loop-trade
decreases-loop-trade book long first stamps₀ lots₀ prices₀ count₀ at₀ stamps lots prices count at = length book - at

-- the trade of a turn
module _ (k : tie.After-lots_on-n invariant-loop-trade decreases-loop-trade) where
  abbrev at-loop : tie.At-loop-trade invariant-loop-trade decreases-loop-trade
  at-loop = k.before.before.before

  abbrev start : tie.Start invariant-loop-trade decreases-loop-trade
  start = at-loop.before.before

  abbrev trade : Trade
  trade = k.in-At.trade

  abbrev end : ℕ
  end = k.in-At.end

  tells : Read start.args.book.now at-loop.loop-trade.at trade end
  tells = next_tells start.args.book.now at-loop.loop-trade.at (At trade end) (sym k.in-At.is ∙ k.next_trade.ensures)

  few : k.lots_on-n.result ≤ 1_000_000
  few = omega (arith, k.lots_on-n.ensures, lots_on_most start.args.long trade, tells.lots_most)

-- it has lots on the side
module _ (c : tie.Then-n-gt0 invariant-loop-trade decreases-loop-trade) where
  abbrev turn : tie.After-lots_on-n invariant-loop-trade decreases-loop-trade
  turn = c.before

  side : on_side_in (start turn).args.long (start turn).args.book.now (at-loop turn).loop-trade.at ≡ trade turn ∷ on_side_in (start turn).args.long (start turn).args.book.now (end turn)
  side = side_next (start turn).args.long (start turn).args.book.now (at-loop turn).loop-trade.at (end turn) (trade turn) (tells turn).list (omega (arith, turn.lots_on-n.ensures))

-- and there is room
inside : (c : tie.Else-count-eq-ROOM invariant-loop-trade decreases-loop-trade) → (at-loop (turn c.before)).loop-trade.count < 128
inside c = omega (arith, (at-loop (turn c.before)).loop-trade.invariant.1.few.few)

loop-holds : tie.Need-loop-trade-init invariant-loop-trade decreases-loop-trade
loop-holds c =
    let s = c in
    let a = s.args in
    (s.requires.0, filling_none a.long a.book.now a.first a.stamps.now a.lots.now a.prices.now s.requires.1)

next-trade-requires : tie.Need-next_trade-requires invariant-loop-trade decreases-loop-trade
next-trade-requires c κs = c.loop-trade.invariant.0

enum-known-trade : tie.Need-enum_known-trade invariant-loop-trade decreases-loop-trade
enum-known-trade c = search rules

enum_told : tie.Need-enum_told-1 invariant-loop-trade decreases-loop-trade
enum_told c = search rules

returns : tie.Need-returns-in_default invariant-loop-trade decreases-loop-trade
returns c =
    let n = c in
    let l = n.loop-trade in
    let a = n.args in
    let none : trades_at a.book.now l.at ≡ [] = next_tells a.book.now l.at End (sym c.in_default.is ∙ n.next_trade.ensures) in
    filled a.long a.book.now a.first l.at l.count l.stamps l.lots l.prices l.invariant.1 (ap (with_lots (lots_on a.long)) none)

lots-on-requires : tie.Need-lots_on-n-requires invariant-loop-trade decreases-loop-trade
lots-on-requires c κs = search rules

add-result : tie.Need-overflow_add-result invariant-loop-trade decreases-loop-trade
add-result c = search rules

returns-2 : tie.Need-returns-then-count-eq-ROOM invariant-loop-trade decreases-loop-trade
returns-2 c =
    let t = turn c.before in
    let l = (at-loop t).loop-trade in
    let a = (start t).args in
    too_many a.long a.book.now a.first l.at l.count l.stamps l.lots l.prices l.invariant.1 (end t) (trade t) (side c.before) (omega arith)

mul-stamps : tie.Need-offset_bounds-stamps-count invariant-loop-trade decreases-loop-trade
mul-stamps c = search rules

element-write-stamps : tie.Need-bounds-stamps-count invariant-loop-trade decreases-loop-trade
element-write-stamps c = inside c.before

mul-lots : tie.Need-offset_bounds-lots-count invariant-loop-trade decreases-loop-trade
mul-lots c = search rules

element-write-lots : tie.Need-bounds-lots-count invariant-loop-trade decreases-loop-trade
element-write-lots c = inside c.before.before

-- a price fits 32 bits
cast-prices : tie.Need-overflow_cast-prices invariant-loop-trade decreases-loop-trade
cast-prices c = omega (arith, (tells (turn c.before.before.before.before)).price_most)

mul-prices : tie.Need-offset_bounds-prices-count invariant-loop-trade decreases-loop-trade
mul-prices c = search rules

element-write-prices : tie.Need-bounds-prices-count invariant-loop-trade decreases-loop-trade
element-write-prices c = inside c.before.before.before.before

add-count : tie.Need-overflow_add-count invariant-loop-trade decreases-loop-trade
add-count c = search rules

loop-less : tie.Need-loop-trade-smaller-else-count-eq-ROOM invariant-loop-trade decreases-loop-trade
loop-less c = let t = turn c.before.before.before.before.before in omega (arith, (tells t).on, (tells t).inside)

loop-again : tie.Need-loop-trade-preserved-else-count-eq-ROOM invariant-loop-trade decreases-loop-trade
loop-again c =
    let t = turn c.before.before.before.before.before in
    let l = (at-loop t).loop-trade in
    let a = (start t).args in (
      (tells t).readable l.invariant.0,
      filling_more a.long a.book.now a.first l.at l.count l.stamps l.lots l.prices l.invariant.1 (end t) t.lots_on-n.result (trade t)
          (side c.before.before.before.before.before) t.lots_on-n.ensures (omega arith) (few t) (tells t).price_most (inside c.before.before.before.before),
    )

loop-less-2 : tie.Need-loop-trade-smaller invariant-loop-trade decreases-loop-trade
loop-less-2 c = let t = c in omega (arith, (tells c.before).on, (tells c.before).inside)

loop-again-2 : tie.Need-loop-trade-preserved invariant-loop-trade decreases-loop-trade
loop-again-2 c =
    let t = c in
    let l = (at-loop c.before).loop-trade in
    let a = (start c.before).args in
    let none = side_none a.long a.book.now l.at (end c.before) (trade c.before) (tells c.before).list (omega (arith, t.lots_on-n.ensures)) in
    ((tells c.before).readable l.invariant.0, filling_same a.long a.book.now a.first l.at l.count l.stamps l.lots l.prices l.invariant.1 (end c.before) none)

pub fill_spec : {M : Type 1} → statement M
fill_spec =
    tie.close
    (tie.spec
    invariant-loop-trade
    decreases-loop-trade
    loop-holds
    next-trade-requires
    enum-known-trade
    enum_told
    returns
    lots-on-requires
    add-result
    returns-2
    mul-stamps
    element-write-stamps
    mul-lots
    element-write-lots
    cast-prices
    mul-prices
    element-write-prices
    add-count
    loop-less
    loop-again
    loop-less-2
    loop-again-2)
