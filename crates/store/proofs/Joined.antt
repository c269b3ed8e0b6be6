-- The sum by place over a store that holds the trades on the side is the gain of the newest lots.
-- Assumes nothing.
use Prim.Native.Nat.{ℕ}
use mathlib.Core.Path.{◌≡◌, refl, sym, ap, ◌∙◌}
use mathlib.Core.Bool.{Bool, true, false}
use mathlib.Core.List.{List}
use Rattle.rules.specs.declared.Fen.{Fen}
use Rattle.laws.specs.Gains.{lots_on}
use Rattle.laws.specs.Sums.{up_to}
use Rattle.order.specs.Newer.{by_place_of}
use Rattle.order.specs.Some.{by_place_map, gain_by_place}
use Rattle.order.specs.Trades.{when}
use Rattle.order.specs.Gains.{gain_in}
use Rattle.trades.specs.Walk.{trades_at}
use Rattle.store.specs.Held.{at, gain_at, gain_held, held_at, on_side_in, Holds}
use Rattle.trades.specs.Walk.{newest_in}
use Rattle.store.proofs.Places.{places_up}

lots_held : (long : Bool) (stamps lots prices : List ℕ) → at lots ≡ (λ i. lots_on long (held_at long stamps lots prices i))
lots_held true stamps lots prices = refl
lots_held false stamps lots prices = refl

pub joined : (long : Bool) (s : Fen) (need : ℕ) (book : List ℕ) (first count : ℕ) (stamps lots prices : List ℕ) →
    Holds long (on_side_in long book first) count stamps lots prices → gain_held long s need stamps lots prices count ≡ newest_in long s need book first
joined long s need book first count stamps lots prices h =
    ap (by_place_of (at stamps) (at lots) (gain_at long s prices) need (λ e. 0)) (places_up count)
    ∙ ap (λ (f : ℕ → ℕ). by_place_of (at stamps) f (gain_at long s prices) need (λ e. 0) (up_to count)) (lots_held long stamps lots prices)
    ∙ by_place_map (held_at long stamps lots prices) when (lots_on long) (gain_in long s) need (λ e. 0) (up_to count)
    ∙ ap (by_place_of when (lots_on long) (gain_in long s) need (λ e. 0)) h.same
    ∙ sym (gain_by_place long s need (trades_at book first))
