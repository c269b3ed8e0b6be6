-- The last decides who gets a lot: a rank is below the lots left over exactly where a member is not after the last. Whoever goes before
-- a member that is not after the last is not after it either; and whoever is not after the last goes before all that are.
-- Assumes nothing.
use Prim.Native.Nat.{ℕ, ◌+◌, ◌*◌, ◌≤◌, ◌<◌, zero-le}
use mathlib.Core.Path.{◌≡◌, refl, sym, ap, ◌∙◌}
use mathlib.Core.Logic.{⊎_elim}
use mathlib.Core.Bool.{Bool, true, false, ◌&&◌, ◌||◌}
use native.Mathlib.Nat.{le_refl, le_trans, lt_of_le_of_lt, eq-or-lt_of_le, mul-le-mul_right}
use native.Mathlib.Omega.{arith}
use mir.Val.{bool_byte}
use lib.Dec.{leb, ltb, eqb}
use borrow.Author.Tests.{lt-ltb, le-ltb, ltb-true, ltb-false, leb-true, leb-false, eqb-true, eqb-false}
use Rattle.rules.specs.Division.{one_if}
use Rattle.laws.specs.Indices.{sum_below_le, sum_below_lt}
use Rattle.division.specs.Parts.{before, before_of, Edge}

-- two tests that agree
pub same : (p q : Bool) → (p ≡ true → q ≡ true) → (q ≡ true → p ≡ true) → p ≡ q
same true q f g = sym (f refl)
same false false f g = refl
same false true f g = g refl

implied : (p q : Bool) → (p ≡ true → q ≡ true) → one_if p ≤ one_if q
implied true q f = rw (f refl) (le_refl 1)
implied false q f = zero-le

-- the machine's byte of a test
pub byte : (b : Bool) → bool_byte b ≡ one_if b
byte true = refl
byte false = refl

pub up_to : (a b : ℕ) → leb a b ≡ ltb a (b + 1)
up_to a b = go (leb a b) refl
  where
    go : (t : Bool) → leb a b ≡ t → t ≡ ltb a (b + 1)
    go true e = sym (lt-ltb a (b + 1) (omega (arith, leb-true)))
    go false e = sym (le-ltb a (b + 1) (omega (arith, leb-false)))

pub counted : (a b : ℕ) → bool_byte (leb a b) ≡ one_if (ltb a (b + 1))
counted a b = byte (leb a b) ∙ ap one_if (up_to a b)

-- a larger digit outweighs what stands behind it
digit : {r r' k K : ℕ} (k' : ℕ) → r' < r → k < K → r' * K + k < r * K + k'
digit {K = K} k' h l = omega (arith, mul-le-mul_right K h)

-- to a base above both keys the test is a comparison of two numbers
before_is : (K a b c d : ℕ) → b < K → d < K → before a b c d ≡ ltb (a * K + b) (c * K + d)
before_is K a b c d hb hd = go (ltb a c) (eqb a c) (ltb b d) refl refl refl
  where
    go : (p q r : Bool) → ltb a c ≡ p → eqb a c ≡ q → ltb b d ≡ r → (p || q && r) ≡ ltb (a * K + b) (c * K + d)
    go true q r e e' e'' = sym (lt-ltb _ _ (digit d (ltb-true a c e) hb))
    go false true true e e' e'' = let z = eqb-true a c e' in rw z (sym (lt-ltb (c * K + b) (c * K + d) (omega (arith, ltb-true))))
    go false true false e e' e'' = let z = eqb-true a c e' in rw z (sym (le-ltb (c * K + b) (c * K + d) (omega (arith, ltb-false))))
    go false false r e e' e'' = sym (le-ltb (a * K + b) (c * K + d) (omega (arith, digit {r = a} {r' = c} b (omega (arith, ltb-false, eqb-false a c e')) hd)))

module _ (K a b c d e f : ℕ) (hb : b < K) (hd : d < K) (hf : f < K) where
  compare : (a * K + b < c * K + d → a * K + b < e * K + f) → one_if (before a b c d) ≤ one_if (before a b e f)
  compare g = rw (before_is K a b c d hb hd, before_is K a b e f hb hf) (implied _ _ (λ t. lt-ltb (a * K + b) (e * K + f) (g (ltb-true _ _ t))))

-- member i, of the pair (c, d), is not after the last: who goes before i goes before the last
early : (a b c d l k : ℕ) → before c d l (k + 1) ≡ true → one_if (before a b c d) ≤ one_if (before a b l k)
early a b c d l k h =
    let K = b + d + k + 2 in
    let m : c * K + d < l * K + (k + 1) = ltb-true _ _ (sym (before_is K c d l (k + 1) (omega arith) (omega arith)) ∙ h) in
    compare K a b c d l k (omega arith) (omega arith) (omega arith) (λ t. omega arith)

-- it is after the last: who is not goes before i
late : (a b c d l k : ℕ) → before c d l (k + 1) ≡ false → one_if (before a b l (k + 1)) ≤ one_if (before a b c d)
late a b c d l k h =
    let K = b + d + k + 2 in
    let m : l * K + (k + 1) ≤ c * K + d = ltb-false _ _ (sym (before_is K c d l (k + 1) (omega arith) (omega arith)) ∙ h) in
    compare K a b l (k + 1) c d (omega arith) (omega arith) (omega arith) (λ t. omega arith)

wider : (a b l k : ℕ) → one_if (before a b l k) ≤ one_if (before a b l (k + 1))
wider a b l k = compare (b + k + 2) a b l k l (k + 1) (omega arith) (omega arith) (omega arith) (λ t. omega arith)

before_self : (a b : ℕ) → before a b a b ≡ false
before_self a b = before_is (b + 1) a b a b (omega arith) (omega arith) ∙ le-ltb (a * (b + 1) + b) (a * (b + 1) + b) (le_refl _)

module _ (lack key : ℕ → ℕ) (n l k spare : ℕ) (edge : Edge (before_of lack key n l (k + 1)) (before_of lack key n l k) spare) where
  rank_late : (i : ℕ) → before (lack i) (key i) l (k + 1) ≡ false → spare ≤ before_of lack key n (lack i) (key i)
  rank_late i h = le_trans edge.enough (sum_below_le _ _ n (λ j m. late (lack j) (key j) (lack i) (key i) l k h))

  rank_early : (i : ℕ) → i < n → before (lack i) (key i) l (k + 1) ≡ true → before_of lack key n (lack i) (key i) < spare
  rank_early i m h =
      ⊎_elim
      (λ e. rw e (sum_below_lt _ _ n (λ j _. le_trans (early (lack j) (key j) (lack i) (key i) l k h) (wider (lack j) (key j) l k)) i m (rw (before_self (lack i) (key i), h) (le_refl 1))))
      (λ o. lt_of_le_of_lt (sum_below_le _ _ n (λ j _. early (lack j) (key j) (lack i) (key i) l k h)) (edge.least (λ e. omega arith)))
      (eq-or-lt_of_le edge.enough)

  pub last_serves : (i : ℕ) → i < n → ltb (before_of lack key n (lack i) (key i)) spare ≡ before (lack i) (key i) l (k + 1)
  last_serves i m = go _ refl
    where
      go : (b : Bool) → before (lack i) (key i) l (k + 1) ≡ b → ltb (before_of lack key n (lack i) (key i)) spare ≡ b
      go true e = lt-ltb _ _ (rank_early i m e)
      go false e = le-ltb _ _ (rank_late i e)
