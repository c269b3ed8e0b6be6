-- What counts by an edge, from the oldest place on, as a reader meets the trades.
-- Assumes nothing.
use Rattle.std.specs.Prelude.{ℕ, ◌+◌, ◌-◌, ◌≡◌, eqb, ℤ, pos, ◌+ℤ◌}
use Rattle.std.proofs.Math.Path.{sym, ap}
use Rattle.std.proofs.Common.{◌∙◌}
use mathlib.Core.List.{List, [], ◌∷◌}
use Rattle.std.proofs.Math.Bool.{cond}
use native.Mathlib.Omega.{arith}
use Rattle.std.proofs.Math.IntN.{+ℤ_assoc, +ℤ_idr}
use Rattle.order.specs.Order.{in_front, lots_at, kept_of, kept_gain}

module _ {A : Type 0} (stamp lots : A → ℕ) (gain : A → ℕ → ℤ) (e : ℕ) where
  abbrev pub kept_onward : ℕ → List A → ℤ
  kept_onward left [] = pos 0
  kept_onward left (t ∷ ts) = gain t (kept_of stamp lots e left t) +ℤ kept_onward (left - cond (eqb (stamp t) e) (lots t) 0) ts

  pub kept_front : (skip : ℕ) (ts before : List A) →
      kept_gain stamp lots gain e skip (in_front ts before) ≡ kept_gain stamp lots gain e skip before +ℤ kept_onward (skip - lots_at stamp lots e before) ts
  unfolding kept_gain
  kept_front skip [] before = sym (+ℤ_idr (kept_gain stamp lots gain e skip before))
  kept_front skip (t ∷ ts) before =
      let o = lots_at stamp lots e before in
      let x = cond (eqb (stamp t) e) (lots t) 0 in
      let m : skip - (x + o) ≡ skip - o - x = omega arith in
      kept_front skip ts (t ∷ before) ∙ +ℤ_assoc (kept_gain stamp lots gain e skip before) (gain t (kept_of stamp lots e (skip - o) t)) (kept_onward (skip - (x + o)) ts)
      ∙ ap (λ (n : ℕ). kept_gain stamp lots gain e skip before +ℤ (gain t (kept_of stamp lots e (skip - o) t) +ℤ kept_onward n ts)) m
