-- The gain by an edge does not see the order of the trades: two of different stamps may change places.
-- Assumes nothing.
use Rattle.std.specs.Prelude.{ℕ, ◌+◌, ◌-◌, ◌≤◌, ◌≡◌, ltb, eqb, ℤ, ◌+ℤ◌}
use Rattle.std.proofs.Math.Path.{refl, ap₂}
use Rattle.std.proofs.Common.{sym, ap, ◌∙◌, arith}
use mathlib.Core.List.{List, [], ◌∷◌}
use Rattle.std.proofs.Math.Bool.{cond}
use Rattle.std.proofs.Math.IntN.{+ℤ_assoc, +ℤ_comm}
use borrow.Author.Tests.{ltb-true, eqb-true, ne_eqb}
use Rattle.laws.specs.ByTest.{by_test}
use Rattle.order.specs.Order.{placed, arranged, lots_at, kept_of, kept_gain}
use Rattle.order.specs.Sums.{sum_placed, sum_arranged}

swap : (a b c : ℤ) → (a +ℤ b) +ℤ c ≡ (a +ℤ c) +ℤ b
swap a b c = +ℤ_assoc a b c ∙ ap (λ (z : ℤ). a +ℤ z) (+ℤ_comm b c) ∙ sym (+ℤ_assoc a c b)

module _ {A : Type 0} (stamp lots : A → ℕ) where
  -- what one counts, another of a different stamp does not see
  kept_apart : (e skip o : ℕ) (t u : A) → (stamp t ≡ stamp u → ⊥) →
      kept_of stamp lots e (skip - (cond (eqb (stamp t) e) (lots t) 0 + o)) u ≡ kept_of stamp lots e (skip - o) u
  kept_apart e skip o t u ne =
      by_test (eqb (stamp t) e)
      (λ h. rw (ne_eqb (stamp u) e (λ z. ne (eqb-true (stamp t) e h ∙ sym z))))
      (λ h. rw h (ap (λ (n : ℕ). kept_of stamp lots e (skip - n) u) (omega arith)))

  module _ (gain : A → ℕ → ℤ) where
    kept_placed : (e skip : ℕ) (t : A) (us : List A) →
        kept_gain stamp lots gain e skip (placed stamp t us) ≡ kept_gain stamp lots gain e skip (t ∷ us)
    unfolding kept_gain
    kept_placed e skip t [] = refl
    kept_placed e skip t (u ∷ us) =
        by_test (ltb (stamp t) (stamp u))
        (λ h.
        let ne : stamp t ≡ stamp u → ⊥ = λ z. omega (arith, ltb-true (stamp t) (stamp u) h) in
        let o = lots_at stamp lots e us in
        rw (
          h,
          sum_placed stamp (λ x. cond (eqb (stamp x) e) (lots x) 0) t us,
          kept_placed e skip t us,
          kept_apart e skip o t u ne,
          kept_apart e skip o u t (λ z. ne (sym z)),
        )
        (swap (kept_gain stamp lots gain e skip us) (gain t (kept_of stamp lots e (skip - o) t)) (gain u (kept_of stamp lots e (skip - o) u))))
        (λ h. rw h)

    pub kept_arranged : (e skip : ℕ) (ts : List A) → kept_gain stamp lots gain e skip (arranged stamp ts) ≡ kept_gain stamp lots gain e skip ts
    unfolding arranged kept_gain
    kept_arranged e skip [] = refl
    kept_arranged e skip (t ∷ ts) =
        kept_placed e skip t (arranged stamp ts)
        ∙ rw (kept_arranged e skip ts, sum_arranged stamp (λ x. cond (eqb (stamp x) e) (lots x) 0) ts)

    -- once all of stamp e are passed over, to pass over more changes nothing
    pub kept_capped : (e a b : ℕ) (ts : List A) → lots_at stamp lots e ts ≤ a → lots_at stamp lots e ts ≤ b →
        kept_gain stamp lots gain e a ts ≡ kept_gain stamp lots gain e b ts
    unfolding kept_gain
    kept_capped e a b [] h k = refl
    kept_capped e a b (t ∷ ts) h k =
        ap₂ (λ (z : ℤ) (n : ℕ). z +ℤ gain t n) (kept_capped e a b ts (omega arith) (omega arith))
        (by_test (eqb (stamp t) e)
        (λ g. rw g (ap (cond (ltb e (stamp t)) (lots t)) (omega (arith, rw g at h, rw g at k))))
        (λ g. rw g))
