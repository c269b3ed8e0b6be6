-- The newest lots on a side, where only some trades have lots that count: the order of the others is not seen. So where those that count come in
-- order, the list by place has the same newest lots as the list newest first.
-- Assumes nothing.
use Prim.Native.Nat.{ℕ, ◌-◌, min}
use Rattle.std.specs.Prelude.{◌≡◌, Bool, false, cond, eqb, ℤ, pos}
use Rattle.std.proofs.Math.Path.{refl}
use Rattle.std.proofs.Common.{sym, ap, ◌∙◌}
use mathlib.Core.List.{List, [], ◌∷◌}
use native.Mathlib.Omega.{arith}
use Rattle.std.proofs.Math.IntN.{+ℤ_idl}
use Rattle.laws.specs.ByTest.{by_test}
use Rattle.order.specs.Order.{arranged, of_stamp, NoneNewer, InOrder, newest}
use Rattle.order.specs.Sorted.{of_arranged, order_arranged, one_order}

module _ {A : Type 0} (keep : A → Bool) where
  -- those on the side, in the order in which they are held
  abbrev pub sided : List A → List A
  sided [] = []
  sided (t ∷ ts) = cond (keep t) (t ∷ sided ts) (sided ts)

  module _ (stamp : A → ℕ) where
    of_sided : (d : ℕ) (ts : List A) → of_stamp stamp d (sided ts) ≡ sided (of_stamp stamp d ts)
    of_sided d [] = refl
    of_sided d (t ∷ ts) =
        by_test (keep t)
        (λ k. by_test (eqb (stamp t) d) (λ e. rw (k, e, k, of_sided d ts)) (λ e. rw (k, e, of_sided d ts)))
        (λ k. by_test (eqb (stamp t) d) (λ e. rw (k, e, k, of_sided d ts)) (λ e. rw (k, e, of_sided d ts)))

    none_sided : (d : ℕ) (ts : List A) → NoneNewer stamp d ts → NoneNewer stamp d (sided ts)
    none_sided d [] n = tt
    none_sided d (t ∷ ts) n = by_test (keep t) (λ k. rw k (n.0, none_sided d ts n.1)) (λ k. rw k (none_sided d ts n.1))

    order_sided : (ts : List A) → InOrder stamp ts → InOrder stamp (sided ts)
    order_sided [] o = tt
    order_sided (t ∷ ts) o =
        by_test (keep t) (λ k. rw k (none_sided (stamp t) ts o.0, order_sided ts o.1)) (λ k. rw k (order_sided ts o.1))

    sided_same : (ts : List A) → InOrder stamp (sided ts) → sided (arranged stamp ts) ≡ sided ts
    sided_same ts o =
        one_order stamp (sided (arranged stamp ts)) (sided ts) (order_sided (arranged stamp ts) (order_arranged stamp ts)) o
        (record { same = λ d. of_sided d (arranged stamp ts) ∙ ap sided (of_arranged stamp d ts) ∙ sym (of_sided d ts) })

  module _ (lots : A → ℕ) (gain : A → ℕ → ℤ) (off : (t : A) → keep t ≡ false → lots t ≡ 0) (nothing : (t : A) → gain t 0 ≡ pos 0) where
    newest_sided : (need : ℕ) (ts : List A) → newest lots gain need ts ≡ newest lots gain need (sided ts)
    unfolding newest
    newest_sided need [] = refl
    newest_sided need (t ∷ ts) =
        by_test (keep t)
        (λ k. rw (k, newest_sided (need - min (lots t) need) ts))
        (λ k.
        let none = off t k in
        let a : min (lots t) need ≡ 0 = omega arith in
        let b : need - 0 ≡ need = omega arith in
        rw (k, a, b, nothing t) (+ℤ_idl (newest lots gain need ts) ∙ newest_sided need ts))

    pub newest_in_order : (stamp : A → ℕ) (need : ℕ) (ts : List A) → InOrder stamp (sided ts) → newest lots gain need (arranged stamp ts) ≡ newest lots gain need ts
    newest_in_order stamp need ts o =
        newest_sided need (arranged stamp ts) ∙ ap (newest lots gain need) (sided_same stamp ts o) ∙ sym (newest_sided need ts)
