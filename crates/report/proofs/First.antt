-- The first pieces, of customers or of seats, one behind another: one more is its piece behind them, so each piece fits where all of them do,
-- and their bytes are the sum of the pieces' bytes.
-- Assumes nothing.
use Prim.Native.Nat.{ℕ, zero, suc, ◌+◌, ◌≤◌, ◌<◌}
use mathlib.Core.Path.{◌≡◌, refl, ap, ap₂}
use mathlib.Core.Logic.{⊎_elim}
use mathlib.Core.List.{List, [], ◌∷◌, ◌++◌, map, append-nil, Memᴰ}
use native.Mathlib.Nat.{eq-or-lt_of_le, le_of_suc-le-suc}
use native.Mathlib.Numerals.{add-one}
use native.Mathlib.Omega.{arith}
use lib.ListN.{length, length-append}
use Rattle.rules.specs.Division.{sum_of}
use Rattle.rules.specs.Report.{joined}
use Rattle.laws.specs.Sums.{up_to, sum_up_to}
use Rattle.writing.specs.Shown.{joined_append}
use Rattle.writing.specs.Written.{Room, Wrote, join}

module _ (f : ℕ → List ℕ) where
  unfoldable pub first : ℕ → List ℕ
  first n = joined f (up_to n)

  pub first_more : (n : ℕ) → first (n + 1) ≡ first n ++ f n
  unfolding first
  first_more n = rw (add-one n, joined_append f (up_to n) (n ∷ [])) (ap (λ t. first n ++ t) (append-nil (f n)))

  more_length : (n : ℕ) → length (first (suc n)) ≡ length (first n) + length (f n)
  more_length n = rw (← add-one n, first_more n) (length-append (first n) (f n))

  pub first_length : (n : ℕ) → length (first n) ≡ sum_of (λ i. length (f i)) (up_to n)
  unfolding first
  first_length zero = refl
  first_length (suc n) = omega (arith, more_length n, first_length n, sum_up_to (λ i. length (f i)) n)

  -- piece i is part of the first n
  pub first_room : (n i : ℕ) → i < n → length (first i) + length (f i) ≤ length (first n)
  first_room (suc n) i h =
      ⊎_elim
      (λ e. rw e (omega (arith, more_length n)))
      (λ l. omega (arith, more_length n, first_room n i l))
      (eq-or-lt_of_le (le_of_suc-le-suc h))
  first_room zero i h = elim h [ ]

  -- so it fits behind the pieces before it
  pub piece_room : {entry out : List ℕ} {at₀ at : ℕ} (n i : ℕ) → Wrote at₀ (first i) entry out at → Room at₀ (first n) entry → length out ≡ length entry → i < n → Room at (f i) out
  piece_room n i before room e l = omega (arith, before.next, first_room n i l)

  pub piece_joins : {a b c : List ℕ} {at₀ at r : ℕ} (i : ℕ) → Wrote at₀ (first i) a b at → Wrote at (f i) b c r → at₀ ≤ length a
      → Wrote at₀ (first (i + 1)) a c r
  piece_joins i before piece h = rw (first_more i) (join before piece h)

module _ {A : Type 0} (f : A → List ℕ) (g : ℕ → A) where
  joined_map : (l : List ℕ) → joined f (map g l) ≡ joined (λ i. f (g i)) l
  joined_map [] = refl
  joined_map (i ∷ l) = ap (λ t. f (g i) ++ t) (joined_map l)

  pub first_of : (n : ℕ) → joined f (map g (up_to n)) ≡ first (λ i. f (g i)) n
  unfolding first
  first_of n = joined_map (up_to n)

pub joined_cong : {A : Type 0} (f g : A → List ℕ) (l : List A) → ((a : A) → Memᴰ a l → f a ≡ g a) → joined f l ≡ joined g l
joined_cong f g [] h = refl
joined_cong f g (a ∷ l) h = ap₂ ◌++◌ (h a (Memᴰ.head refl)) (joined_cong f g l (λ b m. h b (Memᴰ.tail m)))
