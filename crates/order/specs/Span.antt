-- Where a search for the edge may begin and end: fewer lots are from a later stamp on, all are from a stamp on that none is before, and none from
-- one on that all are before.
-- Assumes nothing.
use Rattle.std.specs.Prelude.{ℕ, ◌≤◌, ◌<◌, ◌≡◌, refl, List, [], ◌∷◌, leb}
use Rattle.std.proofs.Common.{arith, leb-true, le-leb}
use Rattle.std.proofs.lemmas.Bool.{lt-leb}
use Rattle.rules.specs.Division.{sum_of}
use Rattle.laws.specs.ByTest.{by_test}
use Rattle.order.specs.Order.{lots_from}

module _ {A : Type 0} (stamp lots : A → ℕ) where
  pub from_mono : (d e : ℕ) (ts : List A) → d ≤ e → lots_from stamp lots e ts ≤ lots_from stamp lots d ts
  from_mono d e [] h = omega arith
  from_mono d e (t ∷ ts) h =
      by_test (leb e (stamp t))
      (λ g. let l = leb-true e (stamp t) g in rw (g, le-leb d (stamp t) (omega arith)) (omega (arith, from_mono d e ts h)))
      (λ g. rw g (omega (arith, from_mono d e ts h)))

  -- all stamps are from `low` on and before `end`
  abbrev pub AllWithin : ℕ → ℕ → List A → Type 0
  AllWithin low end [] = Unit
  AllWithin low end (t ∷ ts) = (low ≤ stamp t) × (stamp t < end) × AllWithin low end ts

  module _ (low end : ℕ) where
    pub from_low : (ts : List A) → AllWithin low end ts → lots_from stamp lots low ts ≡ sum_of lots ts
    from_low [] h = refl
    from_low (t ∷ ts) h = rw (le-leb low (stamp t) h.0, from_low ts h.2)

    pub from_end : (ts : List A) → AllWithin low end ts → lots_from stamp lots end ts ≡ 0
    from_end [] h = refl
    from_end (t ∷ ts) h = rw (lt-leb end (stamp t) h.1) (omega (arith, from_end ts h.2))
