-- Sums and lists over the indices below n: who is among them, and what a loop over them adds; and the member of a list at an index.
-- Assumes nothing.
use Rattle.std.specs.Prelude.{ℕ, zero, suc, ◌+◌, ◌*◌, ◌≤◌, ◌<◌, ◌≡◌, refl, length, get_or}
use Rattle.std.proofs.Common.{◌∙◌, ⊎_elim, eq-or-lt_of_le, le_of_suc-le-suc, add-one, arith}
use mathlib.Core.List.Memᴰ
use mathlib.Core.List.{List, [], ◌∷◌, ◌++◌, map, map-append, Memᴰ}
use Rattle.std.proofs.lemmas.List.{length-map}
use Rattle.rules.specs.Division.{sum_of}
use Rattle.laws.specs.Sums.{up_to, length_up_to, get_d_up_to, sum_up_to, sum_cong, sum_mono, sum_lt}

pub up_to_below : (n : ℕ) {i : ℕ} → Memᴰ i (up_to n) → i < n
up_to_below zero m = absurd (Memᴰ.not-nil m)
up_to_below (suc n) m =
    ⊎_elim (λ k. omega (arith, up_to_below n k)) (λ k. omega (arith, Memᴰ.eq_of_singleton k)) (Memᴰ.append_cases (up_to n) m)

pub below_up_to : (n : ℕ) {i : ℕ} → i < n → Memᴰ i (up_to n)
below_up_to zero h = absurd (omega arith)
below_up_to (suc n) h =
    ⊎_elim
    (λ e. Memᴰ.append_right (up_to n) (Memᴰ.head e))
    (λ l. Memᴰ.append_left (n ∷ []) (below_up_to n l))
    (eq-or-lt_of_le (le_of_suc-le-suc h))

-- one index more
pub sum_more : (f : ℕ → ℕ) (n : ℕ) → sum_of f (up_to (n + 1)) ≡ sum_of f (up_to n) + f n
sum_more f n = rw add-one (sum_up_to f n)

module _ {A : Type 0} where
  pub map_more : (f : ℕ → A) (n : ℕ) → map f (up_to (n + 1)) ≡ map f (up_to n) ++ f n ∷ []
  map_more f n = rw (add-one, map-append)

  pub length-map_up_to : (f : ℕ → A) (n : ℕ) → length (map f (up_to n)) ≡ n
  length-map_up_to f n = length-map (up_to n) f ∙ length_up_to n

  pub get_d_map_up_to : (f : ℕ → A) (n i : ℕ) (d : A) → i < n → get_or (map f (up_to n)) i d ≡ f i
  get_d_map_up_to f n i d h = get_d_up_to f d n i h

  pub map_below : (f g : ℕ → A) (n : ℕ) → ((i : ℕ) → i < n → f i ≡ g i) → map f (up_to n) ≡ map g (up_to n)
  map_below f g zero h = refl
  map_below f g (suc n) h = rw (map-append f (up_to n), map-append g (up_to n), map_below f g n (λ i l. h i (omega arith)), h n (omega arith))

-- summands that are equal, or no greater, at each index
pub sum_below : (f g : ℕ → ℕ) (n : ℕ) → ((i : ℕ) → i < n → f i ≡ g i) → sum_of f (up_to n) ≡ sum_of g (up_to n)
sum_below f g n h = sum_cong f g (up_to n) (λ i m. h i (up_to_below n m))

pub sum_below_le : (f g : ℕ → ℕ) (n : ℕ) → ((i : ℕ) → i < n → f i ≤ g i) → sum_of f (up_to n) ≤ sum_of g (up_to n)
sum_below_le f g n h = sum_mono f g (up_to n) (λ i m. h i (up_to_below n m))

pub sum_below_lt : (f g : ℕ → ℕ) (n : ℕ) → ((i : ℕ) → i < n → f i ≤ g i) → (i : ℕ) → i < n → f i < g i → sum_of f (up_to n) < sum_of g (up_to n)
sum_below_lt f g n h i l = sum_lt f g (up_to n) (λ j m. h j (up_to_below n m)) i (below_up_to n l)

-- n summands of at most b
pub sum_bound : (f : ℕ → ℕ) (b n : ℕ) → ((i : ℕ) → i < n → f i ≤ b) → sum_of f (up_to n) ≤ b * n
sum_bound f b zero h = omega arith
sum_bound f b (suc n) h = omega (arith, sum_up_to f n, sum_bound f b n (λ i l. h i (omega arith)), h n (omega arith))

-- the member at an index
pub get_d_mem : {A : Type 0} (l : List A) (i : ℕ) (d : A) → i < length l → Memᴰ (get_or l i d) l
get_d_mem [] i d h = absurd (omega arith)
get_d_mem (a ∷ l) zero d h = Memᴰ.head refl
get_d_mem (a ∷ l) (suc i) d h = Memᴰ.tail (get_d_mem l i d (le_of_suc-le-suc h))

-- a member of a mapped list, whatever stands for those past its end
pub get_d_in : {A B : Type 0} (f : A → B) (l : List A) (i : ℕ) (d : A) (e : B) → i < length l → get_or (map f l) i e ≡ f (get_or l i d)
get_d_in f [] i d e h = absurd (omega arith)
get_d_in f (a ∷ l) zero d e h = refl
get_d_in f (a ∷ l) (suc i) d e h = get_d_in f l i d e (le_of_suc-le-suc h)
