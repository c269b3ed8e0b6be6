-- A relation between the members of two lists, one by one: the lists are as long as each other, and it holds at each index.
-- Assumes nothing.
use Rattle.std.specs.Prelude.{ℕ, zero, suc, ◌<◌, ◌≡◌, refl, List, [], ◌∷◌, length, get_or}
use Rattle.std.proofs.Common.{ap, arith}

abbrev pub All2 : {A B : Type 0} → (A → B → Type 0) → List A → List B → Type 0
All2 R [] [] = Unit
All2 R [] (b ∷ m) = ⊥
All2 R (a ∷ l) [] = ⊥
All2 R (a ∷ l) (b ∷ m) = R a b × All2 R l m

module _ {A B : Type 0} (R : A → B → Type 0) where
  pub all2_length : (l : List A) (m : List B) → All2 R l m → length l ≡ length m
  all2_length [] [] h = refl
  all2_length [] (b ∷ m) h = absurd h
  all2_length (a ∷ l) [] h = absurd h
  all2_length (a ∷ l) (b ∷ m) h = ap suc (all2_length l m h.1)

  module _ (a : A) (b : B) where
    pub all2_at : (l : List A) (m : List B) → All2 R l m → (i : ℕ) → i < length m → R (get_or l i a) (get_or m i b)
    all2_at [] [] h i k = absurd (omega arith)
    all2_at [] (y ∷ m) h i k = absurd h
    all2_at (x ∷ l) [] h i k = absurd h
    all2_at (x ∷ l) (y ∷ m) h zero k = h.0
    all2_at (x ∷ l) (y ∷ m) h (suc i) k = all2_at l m h.1 i (omega arith)
