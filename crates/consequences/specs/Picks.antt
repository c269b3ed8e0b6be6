-- Sums over picked indices, none twice and each below n: a picked index may be struck from the sum over all below n, so what the picked
-- ones add is part of that sum, and all of it where nothing is left at the others.
-- Assumes nothing.
use Rattle.std.specs.Prelude.{ℕ, zero, suc, ◌+◌, ◌≤◌, ◌<◌, ◌≡◌, refl, Bool, true, false, cond, List, [], ◌∷◌, map, eqb, length, get_or}
use Rattle.std.proofs.Common.{zero-le, sym, ap, ◌∙◌, arith, eqb-true, ne_eqb}
use Rattle.std.proofs.lemmas.List.{length-map}
use Rattle.std.proofs.lemmas.Bool.{eqb-false}
use Rattle.rules.specs.Division.{sum_of}
use Rattle.consequences.specs.Rearranged.{picked, among, Below, Once}
use Rattle.laws.specs.Sums.{up_to, sum-zero, sum_up_to, sum-map, sum_index}
use Rattle.laws.specs.Indices.{sum_below, get_d_in}
use Rattle.laws.specs.All2.{All2, all2_at}
use Rattle.laws.specs.ByTest.{not_either}

-- g with nothing at j
abbrev strike : (ℕ → ℕ) → ℕ → ℕ → ℕ
strike g j i = cond (eqb i j) 0 (g i)

strike_other : (g : ℕ → ℕ) (j i : ℕ) → (i ≡ j → ⊥) → strike g j i ≡ g i
strike_other g j i h = rw (ne_eqb i j h)

sum_strike_out : (g : ℕ → ℕ) (j : ℕ) (is : List ℕ) → among j is ≡ false → sum_of (strike g j) is ≡ sum_of g is
sum_strike_out g j [] h = refl
sum_strike_out g j (i ∷ is) h =
    let (p, q) = not_either (eqb j i) (among j is) h in
    omega (arith, strike_other g j i (λ e. eqb-false j i p (sym e)), sum_strike_out g j is q)

sum_strike : (g : ℕ → ℕ) (j n : ℕ) → j < n → sum_of g (up_to n) ≡ g j + sum_of (strike g j) (up_to n)
sum_strike g j zero h = absurd (omega arith)
sum_strike g j (suc n) h = go (eqb n j) refl (sum_strike g j n)
  where
    go : (b : Bool) → eqb n j ≡ b → (j < n → sum_of g (up_to n) ≡ g j + sum_of (strike g j) (up_to n)) → sum_of g (up_to (suc n)) ≡ g j + sum_of (strike g j) (up_to (suc n))
    go true e ih =
        let last : n ≡ j = eqb-true n j e in
        let gone : strike g j n ≡ 0 = rw e in
        omega (arith, sum_up_to g n, sum_up_to (strike g j) n, ap g last, sum_below (strike g j) g n (λ i l. strike_other g j i (λ z. omega arith)))
    go false e ih =
        let other : n ≡ j → ⊥ = eqb-false n j e in
        let before : j < n = omega arith in
        omega (arith, sum_up_to g n, sum_up_to (strike g j) n, strike_other g j n other, ih before)

-- the picked add what all add, where the others add nothing
pub sum_picked : (g : ℕ → ℕ) (n : ℕ) (is : List ℕ) → Below n is → Once is → ((i : ℕ) → i < n → among i is ≡ false → g i ≡ 0) → sum_of g is ≡ sum_of g (up_to n)
sum_picked g n [] b o h = sym (sum_below g (λ i. 0) n (λ i l. h i l refl) ∙ sum-zero (up_to n))
sum_picked g n (j ∷ js) (b, bs) (o, os) h =
    omega (arith, sum_strike g j n b, sum_strike_out g j js o, sum_picked (strike g j) n js bs os (λ i l q. left i l (eqb i j) refl q))
  where
    left : (i : ℕ) → i < n → (t : Bool) → eqb i j ≡ t → among i js ≡ false → strike g j i ≡ 0
    left i l true e q = rw e
    left i l false e q = rw e (h i l (rw (e, q)))

pub sum_picked_le : (g : ℕ → ℕ) (n : ℕ) (is : List ℕ) → Below n is → Once is → sum_of g is ≤ sum_of g (up_to n)
sum_picked_le g n [] b o = zero-le
sum_picked_le g n (j ∷ js) (b, bs) (o, os) = omega (arith, sum_strike g j n b, sum_strike_out g j js o, sum_picked_le (strike g j) n js bs os)

module _ {A : Type 0} (d : A) (l : List A) where
  pub length_picked : (is : List ℕ) → length (picked d l is) ≡ length is
  length_picked is = length-map is (λ i. get_or l i d)

  pub get_d_picked : (is : List ℕ) (k : ℕ) → k < length is → get_or (picked d l is) k d ≡ get_or l (get_or is k 0) d
  get_d_picked is k h = get_d_in (λ i. get_or l i d) is k 0 d h

pub picked_map : {A B : Type 0} (f : A → B) (d : A) (e : B) (l : List A) (is : List ℕ) → Below (length l) is → picked e (map f l) is ≡ map f (picked d l is)
picked_map f d e l [] b = refl
picked_map f d e l (i ∷ is) (b, bs) = rw (get_d_in f l i d e b, picked_map f d e l is bs)

-- and so for what the members of a list add
module _ {A : Type 0} (f : A → ℕ) (d : A) (l : List A) (is : List ℕ) where
  pub sum_chosen : Below (length l) is → Once is → ((i : ℕ) → i < length l → among i is ≡ false → f (get_or l i d) ≡ 0) → sum_of f (picked d l is) ≡ sum_of f l
  sum_chosen b o h = sum-map f (λ i. get_or l i d) is ∙ sum_picked (λ i. f (get_or l i d)) (length l) is b o h ∙ sum_index f d l

  pub sum_chosen_le : Below (length l) is → Once is → sum_of f (picked d l is) ≤ sum_of f l
  sum_chosen_le b o =
      omega (arith, sum-map f (λ i. get_or l i d) is, sum_picked_le (λ i. f (get_or l i d)) (length l) is b o, sum_index f d l)

-- a relation between two lists, one by one, holds between what is picked from both by the same indices
pub all2_picked :
    {A B : Type 0} (R : A → B → Type 0) (a : A) (b : B) (l : List A) (m : List B) → All2 R l m → (is : List ℕ) → Below (length m) is →
    All2 R (picked a l is) (picked b m is)
all2_picked R a b l m h [] k = tt
all2_picked R a b l m h (i ∷ is) k = (all2_at R a b l m h i k.0, all2_picked R a b l m h is k.1)
