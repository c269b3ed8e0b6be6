-- A customer's trades rearranged, by their indices in the book: each index once, none left out, and of one stamp the smaller first. Then of each
-- stamp there are the same trades in the same order: its indices rise, in the one order as in the other.
-- Assumes nothing.
use Rattle.std.specs.Prelude.{ℕ, zero, suc, ◌≤◌, ◌<◌, ◌≡◌, refl, List, [], ◌∷◌, ◌++◌, Bool, true, false, cond, ◌||◌, length, get_or, ltb, eqb}
use Rattle.std.proofs.Common.{eq-eqb, sym, ap, ◌∙◌, arith, ltb-true, ltb-false, eqb-true}
use Rattle.std.proofs.lemmas.Bool.{eqb-false}
use Rattle.laws.specs.ByTest.{by_test}
use Rattle.consequences.specs.Rearranged.{picked, among, Below}
use Rattle.laws.specs.Sums.{up_to, map_up_to}
use Rattle.order.specs.Order.{of_stamp, Rearranged}
use Rattle.consequences.specs.RisingIndices.{Rises, none_high, one_rise}

-- some indices of trades whose stamps are given by index
module _ (stamp_at : ℕ → ℕ) where
  -- those of stamp d among the indices are `lo` or more
  abbrev pub OfFrom : ℕ → ℕ → List ℕ → Type 0
  OfFrom d lo [] = Unit
  OfFrom d lo (j ∷ js) = (stamp_at j ≡ d → lo ≤ j) × OfFrom d lo js

  -- "so long as trades of equal day and minute keep their order"
  abbrev pub KeepsOrder : List ℕ → Type 0
  KeepsOrder [] = Unit
  KeepsOrder (i ∷ is) = OfFrom (stamp_at i) (suc i) is × KeepsOrder is

pub record Reordered (stamp_at : ℕ → ℕ) (n : ℕ) (is : List ℕ) : Type 0 where
  pub below : Below n is
  pub all : (i : ℕ) → i < n → among i is ≡ true
  pub order : KeepsOrder stamp_at is

-- ---- the indices of one stamp
module _ (stamp_at : ℕ → ℕ) (d : ℕ) where
  abbrev of_index : List ℕ → List ℕ
  of_index is = of_stamp stamp_at d is

  among_of : (k : ℕ) (is : List ℕ) → among k (of_index is) ≡ cond (eqb (stamp_at k) d) (among k is) false
  among_of k [] = by_test (eqb (stamp_at k) d) (λ h. rw h) (λ h. rw h)
  among_of k (i ∷ is) =
      by_test (eqb k i)
      (λ e. let same : k ≡ i = eqb-true k i e in by_test (eqb (stamp_at i) d) (λ h. rw (same, h, eq-eqb i i refl)) (λ h. rw (same, h) (among_of i is ∙ rw h)))
      (λ e. by_test (eqb (stamp_at i) d) (λ h. rw (h, e) (among_of k is)) (λ h. rw (h, e) (among_of k is)))

  kept_rise : (lo n : ℕ) (is : List ℕ) → lo ≤ n → Below n is → OfFrom stamp_at d lo is → KeepsOrder stamp_at is → Rises lo n (of_index is)
  kept_rise lo n [] h b f k = h
  kept_rise lo n (i ∷ is) h b f k =
      by_test (eqb (stamp_at i) d)
      (λ e. let same : stamp_at i ≡ d = eqb-true (stamp_at i) d e in rw e (f.0 same, kept_rise (suc i) n is b.0 b.1 (rw same at k.0) k.1))
      (λ e. rw e (kept_rise lo n is h b.1 f.1 k.1))

  from_zero : (is : List ℕ) → OfFrom stamp_at d 0 is
  from_zero [] = tt
  from_zero (i ∷ is) = (λ e. omega arith, from_zero is)

-- ---- all indices, as they stand in the book
module _ (stamp_at : ℕ → ℕ) where
  up_to_more : (d lo n : ℕ) (is : List ℕ) → OfFrom stamp_at d lo is → lo ≤ n → OfFrom stamp_at d lo (is ++ n ∷ [])
  up_to_more d lo n [] f h = (λ e. h, tt)
  up_to_more d lo n (i ∷ is) f h = (f.0, up_to_more d lo n is f.1 h)

  keeps_more : (n : ℕ) (is : List ℕ) → Below n is → KeepsOrder stamp_at is → KeepsOrder stamp_at (is ++ n ∷ [])
  keeps_more n [] b k = (tt, tt)
  keeps_more n (i ∷ is) b k = (up_to_more (stamp_at i) (suc i) n is k.0 b.0, keeps_more n is b.1 k.1)

  below_more : (n : ℕ) (is : List ℕ) → Below n is → Below (suc n) (is ++ n ∷ [])
  below_more n [] b = (omega arith, tt)
  below_more n (i ∷ is) b = (omega arith, below_more n is b.1)

  among_more : (k n : ℕ) (is : List ℕ) → among k (is ++ n ∷ []) ≡ (among k is || eqb k n)
  among_more k n [] = by_test (eqb k n) (λ e. rw e) (λ e. rw e)
  among_more k n (i ∷ is) = by_test (eqb k i) (λ e. rw e) (λ e. rw e (among_more k n is))

  pub as_they_stand : (n : ℕ) → Reordered stamp_at n (up_to n)
  as_they_stand zero = record { below = tt; all = λ i h. absurd (omega arith); order = tt }
  as_they_stand (suc n) =
      let r = as_they_stand n in
      record {
        below = below_more n (up_to n) r.below;
        all = λ i h. among_more i n (up_to n) ∙ by_test (eqb i n) (λ e. by_test (among i (up_to n)) (λ f. rw (e, f)) (λ f. rw (e, f)))
            (λ e. rw (r.all i (omega (arith, eqb-false i n e))));
        order = keeps_more n (up_to n) r.below r.order;
      }

  module _ (n : ℕ) (is js : List ℕ) (r : Reordered stamp_at n is) (q : Reordered stamp_at n js) where
    same_of : (d : ℕ) → of_stamp stamp_at d is ≡ of_stamp stamp_at d js
    same_of d =
        let a = kept_rise stamp_at d 0 n is (omega arith) r.below (from_zero stamp_at d is) r.order in
        let b = kept_rise stamp_at d 0 n js (omega arith) q.below (from_zero stamp_at d js) q.order in
        one_rise 0 n (of_stamp stamp_at d is) (of_stamp stamp_at d js) a b
        (λ k. by_test (ltb k n)
        (λ e. let h = ltb-true k n e in among_of stamp_at d k is ∙ ap (λ (b : Bool). cond (eqb (stamp_at k) d) b false) (r.all k h ∙ sym (q.all k h)) ∙ sym (among_of stamp_at d k js))
        (λ e. let h = ltb-false k n e in none_high 0 n k (of_stamp stamp_at d is) a h ∙ sym (none_high 0 n k (of_stamp stamp_at d js) b h)))

-- ---- the trades at the indices
module _ {A : Type 0} (stamp : A → ℕ) (none : A) (ts : List A) where
  abbrev pub stamp_at : ℕ → ℕ
  stamp_at i = stamp (get_or ts i none)

  of_picked : (d : ℕ) (is : List ℕ) → of_stamp stamp d (picked none ts is) ≡ picked none ts (of_stamp stamp_at d is)
  of_picked d [] = refl
  of_picked d (i ∷ is) = by_test (eqb (stamp_at i) d) (λ e. rw (e, of_picked d is)) (λ e. rw (e, of_picked d is))

  pub reordered_same : (is : List ℕ) → Reordered stamp_at (length ts) is → Rearranged stamp ts (picked none ts is)
  reordered_same is r =
      record {
        same = λ d.
            sym (ap (of_stamp stamp d) (map_up_to none ts)) ∙ of_picked d (up_to (length ts))
            ∙ ap (picked none ts) (same_of stamp_at (length ts) (up_to (length ts)) is (as_they_stand stamp_at (length ts)) r d) ∙ sym (of_picked d is);
      }
