-- The oldest lots, by going forward over the trades as they stand and by going back to the first of them: their gain is the same.
-- Assumes nothing.
use Prim.Native.Nat.{ℕ, ◌+◌, ◌-◌, min}
use native.Mathlib.Omega.{arith}
use mathlib.Core.Path.{◌≡◌, refl, sym, ap, ◌∙◌}
use mathlib.Core.List.{List, [], ◌∷◌}
use mathlib.Core.Bool.{Bool}
use lib.IntN.{pos, ◌+ℤ◌, +ℤ_assoc, +ℤ_idr, +ℤ_idl}
use Rattle.rules.specs.declared.Fen.{Fen}
use Rattle.rules.specs.declared.Trade.{Trade}
use Rattle.rules.specs.Book.{opened}
use Rattle.rules.specs.Standing.{gain_of}
use Rattle.laws.specs.Gains.{lots_on, oldest_gain, gain_none}
use Rattle.order.specs.Order.{in_front}
use Rattle.trades.specs.Walk.{oldest_of}

module _ (long : Bool) (s : Fen) where
  -- nothing is left to skip
  pub oldest_zero : (ts : List Trade) → oldest_of long s 0 ts ≡ pos 0
  oldest_zero [] = refl
  oldest_zero (t ∷ ts) = let n : min (lots_on long t) 0 ≡ 0 = omega arith in rw (n, gain_none long s t.price) (+ℤ_idl (oldest_of long s 0 ts) ∙ oldest_zero ts)

  -- the trades xs after ts
  pub oldest_front : (xs ts : List Trade) (skip : ℕ) →
      oldest_gain long s skip (in_front xs ts) ≡ oldest_gain long s skip ts +ℤ oldest_of long s (skip - opened long ts) xs
  unfolding oldest_gain
  oldest_front [] ts skip = sym (+ℤ_idr (oldest_gain long s skip ts))
  oldest_front (x ∷ xs) ts skip =
      let n = min (lots_on long x) (skip - opened long ts) in
      let m : skip - (lots_on long x + opened long ts) ≡ (skip - opened long ts) - n = omega arith in
      oldest_front xs (x ∷ ts) skip
      ∙ ap (λ (k : ℕ). oldest_gain long s skip (x ∷ ts) +ℤ oldest_of long s k xs) m
      ∙ +ℤ_assoc (oldest_gain long s skip ts) (gain_of long s x.price n) (oldest_of long s ((skip - opened long ts) - n) xs)
