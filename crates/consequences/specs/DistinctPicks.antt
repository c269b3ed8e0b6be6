-- Members with distinct codes that are picked by indices, none twice, have distinct codes: two indices pick two members.
-- Assumes nothing.
use Rattle.std.specs.Prelude.{ℕ, zero, suc, ◌<◌, ◌≡◌, refl, Bool, true, false, ◌&&◌, length, get_or, eqb}
use Rattle.std.proofs.Common.{sym, ap, ap₂, subst, ◌∙◌, eqb-true, eq-eqb, ne_eqb, arith}
use mathlib.Core.List.Memᴰ
use mathlib.Core.List.{List, [], ◌∷◌, Memᴰ}
use Rattle.std.proofs.lemmas.Bool.{eqb-false}
use Rattle.rules.specs.Codes.{same}
use Rattle.consequences.specs.Rearranged.{picked, among, Below, Once}
use Rattle.laws.specs.ShareSum.{Distinct}
use Rattle.laws.specs.ByTest.{not_either}
use Rattle.laws.specs.Indices.{get_d_mem}

eqb_swap : (m n : ℕ) → eqb m n ≡ eqb n m
eqb_swap m n = go (eqb m n) refl
  where
    go : (b : Bool) → eqb m n ≡ b → b ≡ eqb n m
    go true e = sym (eq-eqb n m (sym (eqb-true m n e)))
    go false e = sym (ne_eqb n m (λ z. eqb-false m n e (sym z)))

same_swap : (a b : List ℕ) → same a b ≡ same b a
same_swap [] [] = refl
same_swap [] (y ∷ b) = refl
same_swap (x ∷ a) [] = refl
same_swap (x ∷ a) (y ∷ b) = ap₂ ◌&&◌ (eqb_swap x y) (same_swap a b)

-- an index that is among none is another
among_other : (i j : ℕ) (is : List ℕ) → among i is ≡ false → Memᴰ j is → i ≡ j → ⊥
among_other i j (k ∷ is) h (Memᴰ.head e) z = eqb-false i k (not_either (eqb i k) (among i is) h).0 (z ∙ e)
among_other i j (k ∷ is) h (Memᴰ.tail m) z = among_other i j is (not_either (eqb i k) (among i is) h).1 m z
among_other i j [] h x3 z = elim x3 [ ]

below_mem : (n j : ℕ) (is : List ℕ) → Below n is → Memᴰ j is → j < n
below_mem n j (i ∷ is) b (Memᴰ.head e) = rw e b.0
below_mem n j (i ∷ is) b (Memᴰ.tail m) = below_mem n j is b.1 m
below_mem n j [] b x'' = elim x'' [ ]

module _ {A : Type 0} (code : A → List ℕ) (d : A) where
  distinct_two : (l : List A) → Distinct code l → (i j : ℕ) → i < length l → j < length l → (i ≡ j → ⊥) → same (code (get_or l i d)) (code (get_or l j d)) ≡ false
  distinct_two [] k i j h g z = absurd (omega arith)
  distinct_two (a ∷ l) k zero zero h g z = absurd (z refl)
  distinct_two (a ∷ l) k zero (suc j) h g z = k.0 (get_or l j d) (get_d_mem l j d (omega arith))
  distinct_two (a ∷ l) k (suc i) zero h g z = same_swap (code (get_or l i d)) (code a) ∙ k.0 (get_or l i d) (get_d_mem l i d (omega arith))
  distinct_two (a ∷ l) k (suc i) (suc j) h g z = distinct_two l k.1 i j (omega arith) (omega arith) (λ e. z (ap suc e))

  pub distinct_picked : (l : List A) → Distinct code l → (is : List ℕ) → Below (length l) is → Once is → Distinct code (picked d l is)
  distinct_picked l k [] b o = tt
  distinct_picked l k (i ∷ is) b o = (
    (λ c m. let w = Memᴰ.of_map (λ j. get_or l j d) is m in
        subst (λ (x : A). same (code (get_or l i d)) (code x) ≡ false) w.2 (distinct_two l k i w.0 b.0 (below_mem (length l) w.0 is b.1 w.1) (among_other i w.0 is o.0 w.1))),
    distinct_picked l k is b.1 o.1,
  )
