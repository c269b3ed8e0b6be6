-- The order of codes is strict, and of two codes that are not the same one is smaller: byte by byte, at the first that differs.
-- Assumes nothing.
use Rattle.std.specs.Prelude.{ℕ, ◌+◌, ◌<◌, ◌≡◌, refl, ◌⊎◌, Bool, true, false, ◌&&◌, ◌||◌, List, [], ◌∷◌, ltb, eqb}
use Rattle.std.proofs.Common.{sym, ap, ◌∙◌, inl, inr, ⊎_elim, arith, lt-ltb, le-ltb, eq-eqb, ne_eqb, ltb-true, ltb-false, eqb-true}
use Rattle.rules.specs.Division.{one_if}
use Rattle.rules.specs.Codes.{same, smaller}

-- First by a number, and where the numbers are equal by p: bytes are compared so, and the members of a division.
abbrev pub first : ℕ → ℕ → Bool → Bool
first m n p = ltb m n || eqb m n && p

module _ (m n : ℕ) (p : Bool) where
  first_less : m < n → first m n p ≡ true
  first_less h = rw (lt-ltb m n h)

  first_then : m ≡ n → p ≡ true → first m n p ≡ true
  first_then e h = rw (le-ltb m n (omega arith), eq-eqb m n e, h)

  first_which : first m n p ≡ true → (m < n) ⊎ ((m ≡ n) × (p ≡ true))
  first_which h = go (ltb m n) (eqb m n) refl refl h
    where
      go : (a b : Bool) → ltb m n ≡ a → eqb m n ≡ b → (a || b && p) ≡ true → (m < n) ⊎ ((m ≡ n) × (p ≡ true))
      go true b e f h = inl (ltb-true m n e)
      go false true e f h = inr (eqb-true m n f, h)
      go false false e f h = absurd (omega (arith, ap one_if h))

pub first_not : (m : ℕ) (p : Bool) → p ≡ false → first m m p ≡ false
first_not m p e = rw (le-ltb m m (omega arith), eq-eqb m m refl, e)

pub first_trans : (m n k : ℕ) (p q r : Bool) → (p ≡ true → q ≡ true → r ≡ true) → first m n p ≡ true → first n k q ≡ true → first m k r ≡ true
first_trans m n k p q r f g h =
    ⊎_elim
    (λ a. ⊎_elim (λ b. first_less m k r (omega arith)) (λ b. first_less m k r (omega (arith, b.0))) (first_which n k q h))
    (λ a. ⊎_elim (λ b. first_less m k r (omega (arith, a.0))) (λ b. first_then m k r (a.0 ∙ b.0) (f a.1 b.1)) (first_which n k q h))
    (first_which m n p g)

-- one way or the other
pub first_one : (m n : ℕ) (p q : Bool) → (m ≡ n → one_if p + one_if q ≡ 1) → one_if (first m n p) + one_if (first n m q) ≡ 1
first_one m n p q h = go (ltb m n) (ltb n m) refl refl
  where
    go : (a b : Bool) → ltb m n ≡ a → ltb n m ≡ b → one_if (a || eqb m n && p) + one_if (b || eqb n m && q) ≡ 1
    go true true e f = absurd (omega (arith, ltb-true m n e, ltb-true n m f))
    go true false e f = rw (ne_eqb n m (λ z. omega (arith, ltb-true m n e)))
    go false true e f = rw (ne_eqb m n (λ z. omega (arith, ltb-true n m f)))
    go false false e f = let z : m ≡ n = omega (arith, ltb-false m n e, ltb-false n m f) in rw (eq-eqb m n z, eq-eqb n m (sym z)) (h z)

pub smaller_not : (a : List ℕ) → smaller a a ≡ false
smaller_not [] = refl
smaller_not (x ∷ xs) = first_not x (smaller xs xs) (smaller_not xs)

pub smaller_trans : (a b c : List ℕ) → smaller a b ≡ true → smaller b c ≡ true → smaller a c ≡ true
smaller_trans [] [] c g h = h
smaller_trans [] (y ∷ ys) [] g h = h
smaller_trans [] (y ∷ ys) (z ∷ zs) g h = refl
smaller_trans (x ∷ xs) [] c g h = absurd (omega (arith, ap one_if g))
smaller_trans (x ∷ xs) (y ∷ ys) [] g h = h
smaller_trans (x ∷ xs) (y ∷ ys) (z ∷ zs) g h =
    first_trans x y z (smaller xs ys) (smaller ys zs) (smaller xs zs) (smaller_trans xs ys zs) g h

pub smaller_one_way : (a b : List ℕ) → same a b ≡ false → one_if (smaller a b) + one_if (smaller b a) ≡ 1
smaller_one_way [] [] h = absurd (omega (arith, ap one_if h))
smaller_one_way [] (y ∷ ys) h = refl
smaller_one_way (x ∷ xs) [] h = refl
smaller_one_way (x ∷ xs) (y ∷ ys) h =
    first_one x y (smaller xs ys) (smaller ys xs) (λ e. smaller_one_way xs ys (rw (eq-eqb x y e) at h))
