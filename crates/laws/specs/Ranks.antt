-- In a strict order, of a list any two of which are in order, exactly s have fewer than s before them: take the first member away, and it
-- is either among the s or behind them.
-- Assumes nothing.
use Rattle.std.specs.Prelude.{ℕ, zero, suc, ◌+◌, ◌≤◌, ◌<◌, ◌≡◌, refl, Bool, true, false, ltb, length}
use mathlib.Core.List.{List, [], ◌∷◌, Memᴰ}
use Rattle.std.proofs.Common.{zero-add, arith, ltb-true, ltb-false}
use Rattle.rules.specs.Division.{sum_of, one_if}
use Rattle.laws.specs.Sums.{sum_cong, sum_mono, sum_lt, sum_one}

-- b j i is 1 where j stands before i, and 0 where not
pub record Order {A : Type 0} (b : A → A → ℕ) : Type 0 where
  pub small : (i j : A) → b i j ≤ 1
  pub irrefl : (i : A) → b i i ≡ 0
  pub trans : (i j k : A) → b i j + b j k ≤ 1 + b i k

module _ {A : Type 0} (b : A → A → ℕ) where
  -- of two members one stands before the other
  abbrev pub Linear : List A → Type 0
  Linear [] = Unit {0}
  Linear (a ∷ t) = ((i : A) → Memᴰ i t → b a i + b i a ≡ 1) × Linear t

  abbrev pub before : List A → A → ℕ
  before t i = sum_of (λ j. b j i) t

  -- how many have fewer than s before them
  abbrev pub firsts : ℕ → List A → ℕ
  firsts s t = sum_of (λ i. one_if (ltb (before t i) s)) t

ltb_same : (m n m' n' : ℕ) → (m < n → m' < n') → (m' < n' → m < n) → one_if (ltb m n) ≡ one_if (ltb m' n')
ltb_same m n m' n' f g = go (ltb m n) (ltb m' n') refl refl
  where
    go : (a c : Bool) → ltb m n ≡ a → ltb m' n' ≡ c → one_if a ≡ one_if c
    go true true p q = refl
    go false false p q = refl
    go true false p q = absurd (omega (arith, f (ltb-true m n p), ltb-false m' n' q))
    go false true p q = absurd (omega (arith, g (ltb-true m' n' q), ltb-false m n p))

module _ {A : Type 0} (b : A → A → ℕ) (o : Order b) where
  pub before_mono : (t : List A) (a i : A) → b a i ≡ 1 → before b t a ≤ before b t i
  before_mono t a i e = sum_mono _ _ t (λ j m. omega (arith, o.trans j a i))

  before_lt : (t : List A) (a i : A) → Memᴰ i t → b i a ≡ 1 → before b t i < before b t a
  before_lt t a i m e = sum_lt _ _ t (λ j m. omega (arith, o.trans j i a)) i m (omega (arith, o.irrefl i))

  before_le : (t : List A) (a : A) → before b t a ≤ length t
  before_le t a = omega (arith, sum_mono (λ j. b j a) (λ j. 1) t (λ j m. o.small j a), sum_one t)

  -- a comes behind the first s of t: they stay the first s
  late : (t : List A) (a i : A) (s : ℕ) → s ≤ before b t a → one_if (ltb (b a i + before b t i) s) ≡ one_if (ltb (before b t i) s)
  late t a i s h = ltb_same _ _ _ _ (λ k. omega arith) (go (b a i) refl)
    where
      go : (n : ℕ) → b a i ≡ n → before b t i < s → b a i + before b t i < s
      go zero e k = omega arith
      go (suc n) e k = omega (arith, before_mono t a i (omega (arith, o.small a i)))

  -- a is one of the first: the others are the first s of t
  early : (t : List A) (a i : A) (s : ℕ) → Memᴰ i t → b a i + b i a ≡ 1 → before b t a ≤ s →
      one_if (ltb (b a i + before b t i) (suc s)) ≡ one_if (ltb (before b t i) s)
  early t a i s m h k = ltb_same _ _ _ _ (go (b a i) refl) (λ l. omega (arith, o.small a i))
    where
      go : (n : ℕ) → b a i ≡ n → b a i + before b t i < suc s → before b t i < s
      go zero e l = omega (arith, before_lt t a i m (omega arith))
      go (suc n) e l = omega arith

  step : (a : A) (t : List A) → ((i : A) → Memᴰ i t → b a i + b i a ≡ 1) → ((s : ℕ) → s ≤ length t → firsts b s t ≡ s) →
      (s : ℕ) (c : Bool) → ltb (before b t a) s ≡ c → s ≤ suc (length t) →
      one_if (ltb (before b t a) s) + sum_of (λ i. one_if (ltb (b a i + before b t i) s)) t ≡ s
  step a t h ih s false e k =
      rw e (omega (arith, sum_cong _ _ t (λ i m. late t a i s (ltb-false _ _ e)), ih s (omega (arith, ltb-false, before_le t a))))
  step a t h ih zero true e k = absurd (omega (arith, ltb-true))
  step a t h ih (suc s) true e k =
      rw e (omega (arith, sum_cong _ _ t (λ i m. early t a i s m (h i m) (omega (arith, ltb-true))), ih s (omega arith)))

  pub firsts_are : (t : List A) → Linear b t → (s : ℕ) → s ≤ length t → firsts b s t ≡ s
  firsts_are [] h s k = omega arith
  firsts_are (a ∷ t) (h, hs) s k = rw (o.irrefl a, zero-add) (step a t h (firsts_are t hs) s _ refl k)
