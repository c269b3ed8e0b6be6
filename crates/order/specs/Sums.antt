-- Lots from a stamp on, as sums that do not see the order of the trades.
-- Assumes nothing.
use Rattle.std.specs.Prelude.{ℕ, ◌+◌, ◌<◌, ◌≡◌, cond, ltb, leb, eqb}
use Rattle.std.proofs.Math.Path.{refl}
use mathlib.Core.List.{List, [], ◌∷◌}
use Rattle.std.proofs.Common.{arith, leb-true, leb-false, le-leb, eqb-true, ne_eqb}
use Rattle.std.proofs.lemmas.Bool.{lt-leb, eqb-false}
use Rattle.rules.specs.Division.{sum_of}
use Rattle.laws.specs.ByTest.{by_test}
use Rattle.order.specs.Order.{in_front, placed, arranged, NoneNewer, lots_from, lots_at}

pub sum_front : {A : Type 0} (f : A → ℕ) (ts before : List A) → sum_of f (in_front ts before) ≡ sum_of f ts + sum_of f before
sum_front f [] before = omega arith
sum_front f (t ∷ ts) before = omega (arith, sum_front f ts (t ∷ before))

module _ {A : Type 0} (stamp : A → ℕ) where
  -- a sum does not see the order
  pub sum_placed : (f : A → ℕ) (t : A) (us : List A) → sum_of f (placed stamp t us) ≡ sum_of f (t ∷ us)
  sum_placed f t [] = refl
  sum_placed f t (u ∷ us) = by_test (ltb (stamp t) (stamp u)) (λ h. rw h (omega (arith, sum_placed f t us))) (λ h. rw h)

  pub sum_arranged : (f : A → ℕ) (ts : List A) → sum_of f (arranged stamp ts) ≡ sum_of f ts
  unfolding arranged
  sum_arranged f [] = refl
  sum_arranged f (t ∷ ts) = omega (arith, sum_placed f t (arranged stamp ts), sum_arranged f ts)

  module _ (lots : A → ℕ) where
    -- where none is newer than d, no lots are later than e
    pub none_from : (d e : ℕ) (ts : List A) → d < e → NoneNewer stamp d ts → lots_from stamp lots e ts ≡ 0
    none_from d e [] h n = refl
    none_from d e (t ∷ ts) h n = rw (lt-leb e (stamp t) (omega arith)) (omega (arith, none_from d e ts h n.1))

    -- lots of e or later are those later and those of e
    pub from_split : (e : ℕ) (ts : List A) → lots_from stamp lots e ts ≡ lots_at stamp lots e ts + lots_from stamp lots (e + 1) ts
    from_split e [] = refl
    from_split e (t ∷ ts) = omega (arith, from_split e ts, one)
      where
        one : cond (leb e (stamp t)) (lots t) 0 ≡ cond (eqb (stamp t) e) (lots t) 0 + cond (leb (e + 1) (stamp t)) (lots t) 0
        one =
            by_test (leb (e + 1) (stamp t))
            (λ h. let l = leb-true (e + 1) (stamp t) h in rw (h, le-leb e (stamp t) (omega arith), ne_eqb (stamp t) e (λ z. omega arith)) (omega arith))
            (λ h. let l = leb-false (e + 1) (stamp t) h in
            by_test (eqb (stamp t) e)
            (λ g. rw (h, g, le-leb e (stamp t) (omega (arith, eqb-true (stamp t) e g))) (omega arith))
            (λ g. rw (h, g, lt-leb e (stamp t) (omega (arith, eqb-false (stamp t) e g)))))
