-- Laws on sums over a list, by induction on the list: summand by summand, over lists put together, and over the indices of a list.
-- Assumes nothing.
use Rattle.std.specs.Prelude.{ℕ, zero, suc, ◌+◌, ◌*◌, ◌≤◌, ◌<◌, Bool, true, false, ◌≡◌, refl, length, take, get_or, ltb}
use Rattle.std.proofs.Common.{zero-le, sym, ap, ◌∙◌, le_refl, arith, length-append, take-suc, ltb-true, ltb-false}
use mathlib.Core.List.{List, [], ◌∷◌, ◌++◌, map, Memᴰ, map-append}
use Rattle.std.proofs.lemmas.List.{length-map, get_or_at}
use Rattle.std.proofs.Math.ListN.{get_or-append}
use Rattle.std.proofs.Math.Seq.{take-length}
use Rattle.rules.specs.Division.{sum_of, one_if}
use Rattle.laws.specs.ByTest.{by_test}

pub one_le : (b : Bool) → one_if b ≤ 1
one_le true = le_refl 1
one_le false = zero-le

module _ {A : Type 0} where
  -- two lists put together, and what a loop adds at the end
  pub sum-append : (f : A → ℕ) (l m : List A) → sum_of f (l ++ m) ≡ sum_of f l + sum_of f m
  sum-append f [] m = omega arith
  sum-append f (a ∷ rest) m = omega (arith, sum-append f rest m)

  pub sum_snoc : (f : A → ℕ) (l : List A) (a : A) → sum_of f (l ++ a ∷ []) ≡ sum_of f l + f a
  sum_snoc f l a = omega (arith, sum-append f l (a ∷ []))

  pub sum-take-suc : (f : A → ℕ) (l : List A) (i : ℕ) (d : A) → i < length l → sum_of f (take (suc i) l) ≡ sum_of f (take i l) + f (get_or l i d)
  sum-take-suc f l i d h = rw (take-suc l i d h) (sum_snoc f (take i l) (get_or l i d))

  -- summands that are equal, or no greater, for each member
  pub sum_cong : (f g : A → ℕ) (l : List A) → ((a : A) → Memᴰ a l → f a ≡ g a) → sum_of f l ≡ sum_of g l
  sum_cong f g [] h = refl
  sum_cong f g (a ∷ rest) h = omega (arith, h a (Memᴰ.head refl), sum_cong f g rest (λ b m. h b (Memᴰ.tail m)))

  pub sum_mono : (f g : A → ℕ) (l : List A) → ((a : A) → Memᴰ a l → f a ≤ g a) → sum_of f l ≤ sum_of g l
  sum_mono f g [] h = zero-le
  sum_mono f g (a ∷ rest) h = omega (arith, h a (Memᴰ.head refl), sum_mono f g rest (λ b m. h b (Memᴰ.tail m)))

  -- one member's summand smaller makes the sum smaller
  pub sum_lt : (f g : A → ℕ) (l : List A) → ((a : A) → Memᴰ a l → f a ≤ g a) → (a : A) → Memᴰ a l → f a < g a → sum_of f l < sum_of g l
  sum_lt f g (b ∷ rest) h a (Memᴰ.head e) k = omega (arith, ap f e, ap g e, sum_mono f g rest (λ c m. h c (Memᴰ.tail m)))
  sum_lt f g (b ∷ rest) h a (Memᴰ.tail m) k =
      omega (arith, h b (Memᴰ.head refl), sum_lt f g rest (λ c n. h c (Memᴰ.tail n)) a m k)
  sum_lt f g [] h a x3 k = elim x3 [ ]

  pub sum-add : (f g : A → ℕ) (l : List A) → sum_of (λ a. f a + g a) l ≡ sum_of f l + sum_of g l
  sum-add f g [] = refl
  sum-add f g (a ∷ rest) = omega (arith, sum-add f g rest)

  pub sum-mul : (k : ℕ) (f : A → ℕ) (l : List A) → sum_of (λ a. k * f a) l ≡ k * sum_of f l
  sum-mul k f [] = omega arith
  sum-mul k f (a ∷ rest) = omega (arith, sum-mul k f rest)

  pub sum-zero : (l : List A) → sum_of (λ a. 0) l ≡ 0
  sum-zero [] = refl
  sum-zero (a ∷ rest) = omega (arith, sum-zero rest)

  pub sum_one : (l : List A) → sum_of (λ a. 1) l ≡ length l
  sum_one [] = refl
  sum_one (a ∷ rest) = omega (arith, sum_one rest)

  -- a member's summand is part of the sum
  pub sum-mem : (f : A → ℕ) (l : List A) (a : A) → Memᴰ a l → f a ≤ sum_of f l
  sum-mem f (b ∷ rest) a (Memᴰ.head e) = omega (arith, ap f e)
  sum-mem f (b ∷ rest) a (Memᴰ.tail m) = omega (arith, sum-mem f rest a m)
  sum-mem f [] a x' = elim x' [ ]

pub sum-map : {A B : Type 0} (f : B → ℕ) (g : A → B) (l : List A) → sum_of f (map g l) ≡ sum_of (λ a. f (g a)) l
sum-map f g [] = refl
sum-map f g (a ∷ rest) = omega (arith, sum-map f g rest)

-- the numbers below n, from 0: the indices of a list of n members
abbrev pub up_to : ℕ → List ℕ
up_to zero = []
up_to (suc n) = up_to n ++ n ∷ []

pub length_up_to : (n : ℕ) → length (up_to n) ≡ n
length_up_to zero = refl
length_up_to (suc n) = omega (arith, length-append (up_to n) (n ∷ []), length_up_to n)

pub sum_up_to : (f : ℕ → ℕ) (n : ℕ) → sum_of f (up_to (suc n)) ≡ sum_of f (up_to n) + f n
sum_up_to f n = sum_snoc f (up_to n) n

module _ {A : Type 0} where
  -- the members at the first indices are the first members
  pub take_up_to : (d : A) (l : List A) (n : ℕ) → n ≤ length l → map (λ i. get_or l i d) (up_to n) ≡ take n l
  take_up_to d l zero h = refl
  take_up_to d l (suc n) h = rw (map-append, take_up_to d l n (omega arith), take-suc l n d h)

  pub map_up_to : (d : A) (l : List A) → map (λ i. get_or l i d) (up_to (length l)) ≡ l
  map_up_to d l = take_up_to d l (length l) (le_refl _) ∙ take-length l

  -- a table of n members by their indices
  pub get_d_up_to : (f : ℕ → A) (d : A) (n i : ℕ) → i < n → get_or (map f (up_to n)) i d ≡ f i
  get_d_up_to f d (suc n) i h = rw map-append (go (ltb i n) refl (get_d_up_to f d n i))
    where
      size : length (map f (up_to n)) ≡ n
      size = length-map (up_to n) f ∙ length_up_to n

      go : (b : Bool) → ltb i n ≡ b → (i < n → get_or (map f (up_to n)) i d ≡ f i) → get_or (map f (up_to n) ++ f n ∷ []) i d ≡ f i
      go true e ih = get_or-append (map f (up_to n)) (f n ∷ []) d i (omega (arith, ltb-true, size)) ∙ ih (ltb-true i n e)
      go false e ih =
          let last : n ≡ i = omega (arith, ltb-false) in
          get_or_at (map f (up_to n)) (f n) [] d i (size ∙ last) ∙ ap f last
  get_d_up_to f d zero i h = elim h [ ]

  pub sum_index : (f : A → ℕ) (d : A) (l : List A) → sum_of (λ i. f (get_or l i d)) (up_to (length l)) ≡ sum_of f l
  sum_index f d l = sym (sum-map f (λ i. get_or l i d) (up_to (length l))) ∙ ap (sum_of f) (map_up_to d l)

-- sums over the same indices: equal where the summands are; and where the sums are equal, with no summand above the other's, the summands are
module _ (f g : ℕ → ℕ) where
  pub up_to_cong : (n : ℕ) → ((i : ℕ) → i < n → f i ≡ g i) → sum_of f (up_to n) ≡ sum_of g (up_to n)
  up_to_cong zero h = refl
  up_to_cong (suc n) h = omega (arith, sum_up_to f n, sum_up_to g n, h n (omega arith), up_to_cong n (λ i l. h i (omega arith)))

  up_to_mono : (n : ℕ) → ((i : ℕ) → i < n → f i ≤ g i) → sum_of f (up_to n) ≤ sum_of g (up_to n)
  up_to_mono zero h = omega arith
  up_to_mono (suc n) h = omega (arith, sum_up_to f n, sum_up_to g n, h n (omega arith), up_to_mono n (λ i l. h i (omega arith)))

  pub up_to_tight : (n : ℕ) → ((i : ℕ) → i < n → f i ≤ g i) → sum_of f (up_to n) ≡ sum_of g (up_to n) → (i : ℕ) → i < n → f i ≡ g i
  up_to_tight zero h e i l = absurd (omega arith)
  up_to_tight (suc n) h e i l =
      let few : (j : ℕ) → j < n → f j ≤ g j = λ j m. h j (omega arith) in
      let last : f n ≡ g n = omega (arith, sum_up_to f n, sum_up_to g n, h n (omega arith), up_to_mono n few) in
      by_test (ltb i n)
      (λ q. up_to_tight n few (omega (arith, sum_up_to f n, sum_up_to g n)) i (ltb-true i n q))
      (λ q. let same : i ≡ n = omega (arith, ltb-false i n q) in ap f same ∙ last ∙ ap g (sym same))
