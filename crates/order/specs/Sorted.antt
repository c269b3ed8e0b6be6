-- The list newest first is the same for two orders of the same trades that keep the order of equal stamps: it is in order, it has of each
-- stamp the trades that were given, as they were given, and there is one such list.
-- Assumes nothing.
use Rattle.std.specs.Prelude.{ℕ, ◌≤◌, ◌<◌, ◌≡◌, false, ltb, eqb}
use Rattle.std.proofs.Math.Path.{refl, ap}
use Rattle.std.proofs.Common.{sym, ap₂, ◌∙◌, arith, ltb-true, ltb-false, eqb-true, eq-eqb, ne_eqb}
use mathlib.Core.List.{List, [], ◌∷◌}
use Rattle.std.proofs.Math.Bool.{cond}
use Rattle.laws.specs.ByTest.{by_test}
use Rattle.order.specs.Order.{placed, arranged, of_stamp, Rearranged, NoneNewer, InOrder}

module _ {A : Type 0} (stamp : A → ℕ) where
  -- ---- placing keeps those of each stamp, the new one in front of its equals
  of_placed : (d : ℕ) (t : A) (us : List A) → of_stamp stamp d (placed stamp t us) ≡ of_stamp stamp d (t ∷ us)
  of_placed d t [] = refl
  of_placed d t (u ∷ us) =
      by_test (ltb (stamp t) (stamp u))
      (λ h. by_test (eqb (stamp t) d)
      (λ e.
      let apart : eqb (stamp u) d ≡ false = ne_eqb (stamp u) d (λ z. omega (arith, ltb-true (stamp t) (stamp u) h, eqb-true (stamp t) d e)) in
      rw (h, apart, of_placed d t us, e))
      (λ e. rw (h, of_placed d t us, e)))
      (λ h. rw h)

  pub of_arranged : (d : ℕ) (ts : List A) → of_stamp stamp d (arranged stamp ts) ≡ of_stamp stamp d ts
  unfolding arranged
  of_arranged d [] = refl
  of_arranged d (t ∷ ts) = of_placed d t (arranged stamp ts) ∙ ap (λ (l : List A). cond (eqb (stamp t) d) (t ∷ l) l) (of_arranged d ts)

  -- ---- placing keeps the order
  pub none_below : (d e : ℕ) (ts : List A) → d ≤ e → NoneNewer stamp d ts → NoneNewer stamp e ts
  none_below d e [] h n = tt
  none_below d e (t ∷ ts) h n = (omega arith, none_below d e ts h n.1)

  none_placed : (d : ℕ) (t : A) (us : List A) → stamp t ≤ d → NoneNewer stamp d us → NoneNewer stamp d (placed stamp t us)
  none_placed d t [] h n = (h, tt)
  none_placed d t (u ∷ us) h n =
      by_test (ltb (stamp t) (stamp u)) (λ e. rw e (n.0, none_placed d t us h n.1)) (λ e. rw e (h, n))

  order_placed : (t : A) (us : List A) → InOrder stamp us → InOrder stamp (placed stamp t us)
  order_placed t [] o = (tt, tt)
  order_placed t (u ∷ us) o =
      by_test (ltb (stamp t) (stamp u))
      (λ e. rw e (none_placed (stamp u) t us (omega (arith, ltb-true (stamp t) (stamp u) e)) o.0, order_placed t us o.1))
      (λ e. let l = ltb-false (stamp t) (stamp u) e in rw e ((l, none_below (stamp u) (stamp t) us l o.0), o))

  pub order_arranged : (ts : List A) → InOrder stamp (arranged stamp ts)
  unfolding arranged
  order_arranged [] = tt
  order_arranged (t ∷ ts) = order_placed t (arranged stamp ts) (order_arranged ts)

  -- ---- one list in order has these trades of each stamp
  none_of : (d e : ℕ) (ts : List A) → d < e → NoneNewer stamp d ts → of_stamp stamp e ts ≡ []
  none_of d e [] h n = refl
  none_of d e (t ∷ ts) h n = rw (ne_eqb (stamp t) e (λ z. omega arith)) (none_of d e ts h n.1)

  -- a member of its own stamp stands in front
  of_own : (t : A) (ts : List A) → of_stamp stamp (stamp t) (t ∷ ts) ≡ t ∷ of_stamp stamp (stamp t) ts
  of_own t ts = rw (eq-eqb (stamp t) (stamp t) refl)

  -- one whose stamp is above all of a list is none of it
  above : (t : A) (ts us : List A) → of_stamp stamp (stamp t) (t ∷ ts) ≡ of_stamp stamp (stamp t) us → of_stamp stamp (stamp t) us ≡ [] → ⊥
  above t ts us h n = let z : ◌≡◌ {A = ℕ} 0 1 = cc (of_own t ts) in omega arith

  pub one_order : (ts us : List A) → InOrder stamp ts → InOrder stamp us → Rearranged stamp ts us → ts ≡ us
  one_order [] [] o p r = refl
  one_order [] (u ∷ us) o p r = absurd (above u us [] (sym (r.same (stamp u))) refl)
  one_order (t ∷ ts) [] o p r = absurd (above t ts [] (r.same (stamp t)) refl)
  one_order (t ∷ ts) (u ∷ us) o p r =
      by_test (ltb (stamp t) (stamp u))
      (λ e. let l = ltb-true (stamp t) (stamp u) e in absurd (above u us (t ∷ ts) (sym (r.same (stamp u))) (none_of (stamp t) (stamp u) (t ∷ ts) l (omega arith, o.0))))
      (λ e. by_test (ltb (stamp u) (stamp t))
      (λ f. let l = ltb-true (stamp u) (stamp t) f in absurd (above t ts (u ∷ us) (r.same (stamp t)) (none_of (stamp u) (stamp t) (u ∷ us) l (omega arith, p.0))))
      (λ f.
      let same : stamp t ≡ stamp u = omega (arith, ltb-false (stamp t) (stamp u) e, ltb-false (stamp u) (stamp t) f) in
      let heads : t ∷ of_stamp stamp (stamp t) ts ≡ u ∷ of_stamp stamp (stamp t) us =
      sym (of_own t ts) ∙ r.same (stamp t) ∙ rw (eq-eqb (stamp u) (stamp t) (sym same)) in
      let first : t ≡ u = cc heads in
      let rest : (d : ℕ) → of_stamp stamp d ts ≡ of_stamp stamp d us =
      λ d. by_test (eqb (stamp t) d)
      (λ g. rw (sym (eqb-true (stamp t) d g)) (cc heads))
      (λ g. let h = r.same d in rw (g, rw same at g) at h) in
      ap₂ (λ (x : A) (l : List A). x ∷ l) first (one_order ts us o.1 p.1 (record { same = rest }))))

  -- a customer's own trades rearranged: the same list newest first
  pub rearranged_same : (ts us : List A) → Rearranged stamp ts us → arranged stamp ts ≡ arranged stamp us
  rearranged_same ts us r =
      one_order (arranged stamp ts) (arranged stamp us) (order_arranged ts) (order_arranged us)
      (record { same = λ d. of_arranged d ts ∙ r.same d ∙ sym (of_arranged d us) })

  -- trades that come in order are newest first as they are held
  pub in_order_same : (ts : List A) → InOrder stamp ts → arranged stamp ts ≡ ts
  in_order_same ts o = one_order (arranged stamp ts) ts (order_arranged ts) o (record { same = λ d. of_arranged d ts })
