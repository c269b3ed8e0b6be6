-- The gain of the newest lots without a list in order. Where the lots later than e are at most those needed, and those of e or later are
-- enough, all lots later than e count, and of stamp e all but the first: as many as there are too many. That is a sum by place.
-- Assumes nothing.
use Prim.Native.Nat.{ℕ, ◌+◌, ◌-◌, ◌≤◌, min}
use Rattle.std.specs.Prelude.{◌≡◌, cond, ltb, leb, eqb, ℤ, ◌+ℤ◌}
use Rattle.std.proofs.Math.Path.{refl, ap, ap₂}
use Rattle.std.proofs.Common.{◌∙◌, arith}
use mathlib.Core.List.{List, [], ◌∷◌}
use Rattle.std.proofs.Math.IntN.{+ℤ_comm}
use borrow.Author.Tests.{ltb-true, ltb-false, leb-true, leb-false, le-leb, lt-leb, eqb-true, eqb-false}
use Rattle.laws.specs.ByTest.{by_test}
use Rattle.order.specs.Order.{arranged, NoneNewer, InOrder, lots_from, lots_at, newest, kept_gain}
use Rattle.order.specs.Sorted.{order_arranged}
use Rattle.order.specs.Sums.{sum_arranged, none_from, from_split}
use Rattle.order.specs.Kept.{kept_arranged, kept_capped}

module _ {A : Type 0} (stamp lots : A → ℕ) (gain : A → ℕ → ℤ) where
  -- a list in order that begins with t, which is later than e, of stamp e, or earlier
  module _ (e need : ℕ) (t : A) (ts : List A) where
    abbrev from : ℕ → ℕ
    from d = lots_from stamp lots d ts

    abbrev left : ℕ
    left = need - min (lots t) need

    turn : NoneNewer stamp (stamp t) ts → lots_from stamp lots (e + 1) (t ∷ ts) ≤ need → need ≤ lots_from stamp lots e (t ∷ ts) →
        (from (e + 1) ≤ left → left ≤ from e → newest lots gain left ts ≡ kept_gain stamp lots gain e (from e - left) ts) →
        newest lots gain need (t ∷ ts) ≡ kept_gain stamp lots gain e (lots_from stamp lots e (t ∷ ts) - need) (t ∷ ts)
    unfolding newest kept_gain
    turn n h k ih =
        by_test (ltb e (stamp t))
        (λ later.
        let l = ltb-true e (stamp t) later in
        let a = le-leb e (stamp t) (omega arith) in
        let b = le-leb (e + 1) (stamp t) (omega arith) in
        let h' : lots t + from (e + 1) ≤ need = rw b at h in
        let k' : need ≤ lots t + from e = rw a at k in
        let all : lots_from stamp lots e (t ∷ ts) ≡ lots t + from e = rw a refl in
        rw (all, later) (joined (ih (omega arith) (omega arith) ∙ ap (λ (m : ℕ). kept_gain stamp lots gain e m ts) (omega arith)) (omega arith)))
        (λ not-later. by_test (eqb (stamp t) e)
        (λ same.
        let l = eqb-true (stamp t) e same in
        let a = le-leb e (stamp t) (omega arith) in
        let none = none_from stamp lots (stamp t) (e + 1) ts (omega arith) n in
        let k' : need ≤ lots t + from e = rw a at k in
        let all : lots_from stamp lots e (t ∷ ts) ≡ lots t + from e = rw a refl in
        let split = from_split stamp lots e ts in
        rw (all, not-later, same) (joined
        (ih (omega arith) (omega arith) ∙ capped (omega arith) ∙ ap (λ (m : ℕ). kept_gain stamp lots gain e m ts) (omega arith))
        (omega arith)))
        (λ apart.
        let l = ltb-false e (stamp t) not-later in
        let m = eqb-false (stamp t) e apart in
        let a = lt-leb e (stamp t) (omega arith) in
        let none = none_from stamp lots (stamp t) e ts (omega arith) n in
        let later = none_from stamp lots (stamp t) (e + 1) ts (omega arith) n in
        let k' : need ≤ 0 + from e = rw a at k in
        let all : lots_from stamp lots e (t ∷ ts) ≡ 0 + from e = rw a refl in
        rw (all, not-later, apart) (joined (ih (omega arith) (omega arith) ∙ ap (λ (m : ℕ). kept_gain stamp lots gain e m ts) (omega arith)) (omega arith))))
      where
        joined : {z w : ℤ} {a b : ℕ} → z ≡ w → a ≡ b → gain t a +ℤ z ≡ w +ℤ gain t b
        joined {z} {w} {a} {b} p q = +ℤ_comm (gain t a) z ∙ ap₂ (λ (x : ℤ) (y : ℕ). x +ℤ gain t y) p q

        capped : from e ≡ lots_at stamp lots e ts → kept_gain stamp lots gain e (from e - left) ts ≡ kept_gain stamp lots gain e (lots t + from e - need) ts
        capped q =
            by_test (leb (lots t) need)
            (λ f. let g = leb-true (lots t) need f in ap (λ (m : ℕ). kept_gain stamp lots gain e m ts) (omega arith))
            (λ f. let g = leb-false (lots t) need f in kept_capped stamp lots gain e _ _ ts (omega arith) (omega arith))

  ordered : (e need : ℕ) (ts : List A) → InOrder stamp ts → lots_from stamp lots (e + 1) ts ≤ need → need ≤ lots_from stamp lots e ts →
      newest lots gain need ts ≡ kept_gain stamp lots gain e (lots_from stamp lots e ts - need) ts
  unfolding newest kept_gain
  ordered e need [] o h k = refl
  ordered e need (t ∷ ts) o h k = turn e need t ts o.0 h k (ordered e (need - min (lots t) need) ts o.1)

  -- the newest lots in any order of the trades
  pub newest_by_edge : (e need : ℕ) (ts : List A) → lots_from stamp lots (e + 1) ts ≤ need → need ≤ lots_from stamp lots e ts →
      newest lots gain need (arranged stamp ts) ≡ kept_gain stamp lots gain e (lots_from stamp lots e ts - need) ts
  newest_by_edge e need ts h k =
      let same : (d : ℕ) → lots_from stamp lots d (arranged stamp ts) ≡ lots_from stamp lots d ts = λ d. sum_arranged stamp (λ x. cond (leb d (stamp x)) (lots x) 0) ts in
      ordered e need (arranged stamp ts) (order_arranged stamp ts) (rw (same (e + 1)) h) (rw (same e) k)
      ∙ rw (same e) (kept_arranged stamp lots gain e (lots_from stamp lots e ts - need) ts)
