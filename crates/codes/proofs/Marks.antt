-- Marks of keys: a key whose place is not marked was not given, and a key that is added with its mark keeps them all, since a set mark
-- clears none.
-- Assumes nothing.
use Prim.Native.Nat.{ℕ, ◌+◌, ◌<◌}
use mathlib.Core.Path.{◌≡◌, refl, sym, ◌∙◌}
use mathlib.Core.List.{List}
use mathlib.Core.Bool.{Bool, true, false, ◌||◌}
use native.Mathlib.Numerals.{add-one}
use native.Mathlib.Omega.{arith}
use lib.ListN.{length, get_or, take, set, replicate, length-set}
use lib.Seq.{get_or-set_same, get_or-set_other, take-suc-set}
use lib.Dec.{eqb}
use borrow.Author.Tests.{eqb-true, eqb-false}
use Rattle.codes.specs.Codes.{given_in, mark_of, Marked}
use Rattle.codes.proofs.Laws.{given_snoc}

pub mark_below : (key : ℕ) → mark_of key < 1024
unfolding mark_of
mark_below key = omega arith

pub not_given : (keys marks : List ℕ) (count key : ℕ) → Marked keys marks count → get_or marks (mark_of key) 0 ≡ 0 → given_in (take count keys) key ≡ false
not_given keys marks count key m e = go (given_in (take count keys) key) refl
  where
    go : (b : Bool) → given_in (take count keys) key ≡ b → given_in (take count keys) key ≡ false
    go true h = absurd (omega (arith, m.all key h))
    go false h = h

pub marked_none : (keys : List ℕ) → Marked keys (replicate 1024 0) 0
marked_none keys = record { whole = refl; all = λ key h. absurd (no h) }
  where
    no : false ≡ true → ⊥
    no h = let z : ◌≡◌ {A = ℕ} 0 1 = cc in omega arith

-- a set mark clears none
stays : (marks : List ℕ) (i j : ℕ) → i < length marks → 0 < get_or marks j 0 → 0 < get_or (set marks i 1) j 0
stays marks i j h k = go (eqb j i) refl
  where
    go : (b : Bool) → eqb j i ≡ b → 0 < get_or (set marks i 1) j 0
    go true e = let s : j ≡ i = eqb-true j i e in rw (s, get_or-set_same marks i 1 0 h) (omega arith)
    go false e = rw (get_or-set_other marks i j 1 0 (eqb-false j i e)) k

pub marked_more : (keys marks : List ℕ) (count key : ℕ) → count < length keys → Marked keys marks count → Marked (set keys count key) (set marks (mark_of key) 1) (count + 1)
marked_more keys marks count key room m =
    record {
      whole = length-set marks (mark_of key) 1 ∙ m.whole;
      all = λ k h. by k (given_in (take count keys) k) (eqb key k) refl refl (sym (more k) ∙ h);
    }
  where
    inside : mark_of key < length marks
    inside = omega (arith, mark_below key, m.whole)

    more : (k : ℕ) → given_in (take (count + 1) (set keys count key)) k ≡ (given_in (take count keys) k || eqb key k)
    more k = rw (add-one, take-suc-set keys count key room) (given_snoc (take count keys) key k)

    by : (k : ℕ) (p q : Bool) → given_in (take count keys) k ≡ p → eqb key k ≡ q → (given_in (take count keys) k || eqb key k) ≡ true → 0 < get_or (set marks (mark_of key) 1) (mark_of k) 0
    by k true q x y h = stays marks (mark_of key) (mark_of k) inside (m.all k x)
    by k false true x y h = let s : k ≡ key = sym (eqb-true key k y) in rw (s, get_or-set_same marks (mark_of key) 1 0 inside) (omega arith)
    by k false false x y h = absurd (let z : ◌≡◌ {A = ℕ} 0 1 = cc in omega arith)
