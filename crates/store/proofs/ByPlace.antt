-- The sum by place over the store, as a loop goes over it: the rest from a place on.
-- Assumes nothing.
use Prim.Native.Nat.{ℕ, ◌+◌, ◌-◌, ◌≤◌, ◌<◌, min}
use mathlib.Core.Path.{◌≡◌, ap, ◌∙◌}
use mathlib.Core.Bool.{Bool}
use mathlib.Core.List.{List}
use native.Mathlib.Omega.{arith}
use lib.IntN.{ℤ, pos, ◌+ℤ◌}
use Rattle.rules.specs.declared.Fen.{Fen}
use Rattle.order.specs.Newer.{by_place_of}
use Rattle.store.specs.Held.{at, places, newer_lots, newer_at, gain_at, gain_held}
use Rattle.store.proofs.Places.{places_next, places_none, lots_last}

module _ (long : Bool) (s : Fen) (need : ℕ) (stamps lots prices : List ℕ) (count : ℕ) where
  abbrev over : (ℕ → ℕ) → List ℕ → ℤ
  over before l = by_place_of (at stamps) (at lots) (gain_at long s prices) need before l

  unfoldable pub gain_from_place : ℕ → ℤ
  gain_from_place i = over (newer_lots stamps lots 0 i) (places i (count - i))

  pub from_first : gain_held long s need stamps lots prices count ≡ gain_from_place 0
  unfolding gain_from_place newer_lots
  from_first = let all : count ≡ count - 0 = omega arith in ap (λ (n : ℕ). over (λ e. 0) (places 0 n)) all

  pub from_next : (i : ℕ) → i < count →
      gain_from_place i ≡ gain_at long s prices i (min (at lots i) (need - newer_at stamps lots count i)) +ℤ gain_from_place (i + 1)
  unfolding gain_from_place newer_lots by_place_of
  from_next i h =
      ap (over (newer_lots stamps lots 0 i)) (places_next i count h)
      ∙ ap (λ (f : ℕ → ℕ). gain_at long s prices i (min (at lots i) (need - newer_at stamps lots count i)) +ℤ over f (places (i + 1) (count - (i + 1))))
      (λ k e. lots_last stamps lots i e k)

  pub from_end : (i : ℕ) → count ≤ i → gain_from_place i ≡ pos 0
  unfolding gain_from_place by_place_of
  from_end i h = ap (over (newer_lots stamps lots 0 i)) (places_none i count h)
