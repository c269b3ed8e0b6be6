-- The sum by place sees of a trade its stamp, its lots and its gain: trades without lots may be left out, and others may be held in another form.
-- Assumes nothing.
use Prim.Native.Nat.{ℕ, ◌+◌}
use Rattle.std.specs.Prelude.{◌≡◌, Bool, false, cond, ltb, leb, ℤ, ◌+ℤ◌}
use Rattle.std.proofs.Math.Path.{refl, ap, ap₂}
use Rattle.std.proofs.Common.{◌∙◌, arith}
use mathlib.Core.List.{List, [], ◌∷◌, map}
use Rattle.std.proofs.Math.IntN.{pos, +ℤ_idl}
use borrow.Author.Tests.{ltb-false}
use Rattle.rules.specs.declared.Fen.{Fen}
use Rattle.rules.specs.declared.Trade.{Trade}
use Rattle.rules.specs.Standing.{gain_from}
use Rattle.laws.specs.ByTest.{by_test}
use Rattle.laws.specs.Gains.{lots_on, gain_none}
use Rattle.order.specs.Order.{in_front, arranged, lots_from}
use Rattle.order.specs.Newer.{gain_after, with, by_place_of, newest_by_place}
use Rattle.order.specs.Trades.{when}
use Rattle.order.specs.Gains.{gain_in, gain_newest}

-- those that have lots
abbrev pub with_lots : {A : Type 0} → (A → ℕ) → List A → List A
with_lots lots [] = []
with_lots lots (t ∷ ts) = cond (ltb 0 (lots t)) (t ∷ with_lots lots ts) (with_lots lots ts)

module _ {A : Type 0} (stamp lots : A → ℕ) where
  from_some : (e : ℕ) (ts : List A) → lots_from stamp lots e ts ≡ lots_from stamp lots e (with_lots lots ts)
  from_some e [] = refl
  from_some e (t ∷ ts) =
      by_test (ltb 0 (lots t))
      (λ h. rw (h, from_some e ts))
      (λ h. rw h (omega (arith, from_some e ts, none h)))
    where
      none : ltb 0 (lots t) ≡ false → cond (leb e (stamp t)) (lots t) 0 ≡ 0
      none h = let z : lots t ≡ 0 = omega (arith, ltb-false 0 (lots t) h) in by_test (leb e (stamp t)) (λ g. rw g z) (λ g. rw g)

  module _ (gain : A → ℕ → ℤ) (need : ℕ) (nothing : (t : A) → gain t 0 ≡ pos 0) where
    some_by_place : (before : ℕ → ℕ) (ts : List A) → by_place_of stamp lots gain need before ts ≡ by_place_of stamp lots gain need before (with_lots lots ts)
    unfolding by_place_of
    some_by_place before [] = refl
    some_by_place before (t ∷ ts) =
        by_test (ltb 0 (lots t))
        (λ h. rw (h, from_some (stamp t) ts, some_by_place (with stamp lots t before) ts))
        (λ h.
        let z : lots t ≡ 0 = omega (arith, ltb-false 0 (lots t) h) in
        let none : (n : ℕ) → gain_after stamp lots gain need t n ≡ pos 0 = λ n. ap (gain t) (omega arith) ∙ nothing t in
        let same : (e : ℕ) → with stamp lots t before e ≡ before e = λ e. rw z (by_test (leb e (stamp t)) (λ g. rw g (omega arith)) (λ g. rw g (omega arith))) in
        rw (h, none (before (stamp t + 1) + lots_from stamp lots (stamp t) ts))
        (+ℤ_idl (by_place_of stamp lots gain need (with stamp lots t before) ts)
        ∙ ap (λ (b : ℕ → ℕ). by_place_of stamp lots gain need b ts) (λ i e. same e i)
        ∙ some_by_place before ts))

-- ---- in another form
module _ {A B : Type 0} (f : A → B) (stamp lots : B → ℕ) where
  from_map : (e : ℕ) (ts : List A) → lots_from (λ a. stamp (f a)) (λ a. lots (f a)) e ts ≡ lots_from stamp lots e (map f ts)
  from_map e [] = refl
  from_map e (t ∷ ts) = ap (λ (n : ℕ). cond (leb e (stamp (f t))) (lots (f t)) 0 + n) (from_map e ts)

  pub by_place_map : (gain : B → ℕ → ℤ) (need : ℕ) (before : ℕ → ℕ) (ts : List A) →
      by_place_of (λ a. stamp (f a)) (λ a. lots (f a)) (λ a. gain (f a)) need before ts ≡ by_place_of stamp lots gain need before (map f ts)
  unfolding by_place_of
  by_place_map gain need before [] = refl
  by_place_map gain need before (t ∷ ts) =
      ap₂ (λ (n : ℕ) (z : ℤ). gain_after stamp lots gain need (f t) (before (stamp (f t) + 1) + n) +ℤ z)
      (from_map (stamp (f t)) ts) (by_place_map gain need (with stamp lots (f t) before) ts)

-- the gain of the newest lots on a side, in any order of the trades
pub gain_by_place : (long : Bool) (s : Fen) (need : ℕ) (ts : List Trade) →
    gain_from long s need (arranged when (in_front ts [])) ≡ by_place_of when (lots_on long) (gain_in long s) need (λ e. 0) (with_lots (lots_on long) ts)
gain_by_place long s need ts =
    gain_newest long s need (arranged when (in_front ts []))
    ∙ newest_by_place when (lots_on long) (gain_in long s) need ts
    ∙ some_by_place when (lots_on long) (gain_in long s) need (λ t. gain_none long s t.price) (λ e. 0) ts
