-- What counts by the edge, from the oldest place on, is the gain of the newest lots.
-- Assumes nothing.
use Prim.Native.Nat.{ℕ, ◌+◌, ◌-◌}
use mathlib.Core.Path.{◌≡◌, sym, ap, ◌∙◌}
use mathlib.Core.List.{List, []}
use mathlib.Core.Bool.{Bool, cond}
use native.Mathlib.Omega.{arith}
use lib.Dec.{leb}
use lib.IntN.{+ℤ_idl}
use Rattle.rules.specs.declared.Fen.{Fen}
use Rattle.rules.specs.declared.Trade.{Trade}
use Rattle.laws.specs.Gains.{lots_on}
use Rattle.order.specs.Order.{in_front, lots_from, kept_gain}
use Rattle.order.specs.Sums.{sum_front}
use Rattle.order.specs.Onward.{kept_front}
use Rattle.order.specs.Trades.{when}
use Rattle.order.specs.Gains.{gain_in, gain_by_edge}
use Rattle.trades.specs.Walk.{trades_at}
use Rattle.newest.specs.Search.{from_in, Range, kept_in}
use Rattle.trades.specs.Walk.{newest_in}

module _ (long : Bool) (s : Fen) (need : ℕ) (book : List ℕ) (first e have : ℕ) (r : Range (from_in long book first) need e 1 have) where
  held : List Trade
  held = in_front (trades_at book first) []

  from_held : (d : ℕ) → lots_from when (lots_on long) d held ≡ from_in long book first d
  unfolding from_in held
  from_held d = omega (arith, sum_front (λ t. cond (leb d (when t)) (lots_on long t) 0) (trades_at book first) [])

  pub joined : kept_in long s e (have - need) book first ≡ newest_in long s need book first
  unfolding kept_gain held
  joined =
      let skip : lots_from when (lots_on long) e held - need - 0 ≡ have - need = omega (arith, from_held e, r.has) in
      sym (gain_by_edge long s e need held (omega (arith, from_held (e + 1), r.over)) (omega (arith, from_held e, r.has, r.enough))
      ∙ kept_front when (lots_on long) (gain_in long s) e (lots_from when (lots_on long) e held - need) (trades_at book first) []
      ∙ +ℤ_idl (kept_in long s e (lots_from when (lots_on long) e held - need - 0) book first)
      ∙ ap (λ (n : ℕ). kept_in long s e n book first) skip)
