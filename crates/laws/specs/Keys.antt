-- A code's key: one number whose order is the order of the codes. A byte is a digit from 1 to 36 in base 37, in the order of the bytes,
-- and what stands behind a digit never outweighs it; 12 places, and a place that a code does not have is 0, below every digit.
-- Assumes nothing.
use Rattle.std.specs.Prelude.{ℕ, zero, suc, ◌+◌, ◌-◌, ◌*◌, ◌^◌, ◌≤◌, ◌<◌, min, Bool, true, false, cond, ◌&&◌, ◌||◌, ◌≡◌, refl, List, [], ◌∷◌, length, T, leb, ltb, eqb}
use Rattle.std.proofs.Math.Bool.{and-false}
use Rattle.std.proofs.Common.{sym, ap, ◌∙◌, mul-le-mul_right, pow-suc, arith, lit<, le-leb, leb-true, leb-false, ltb-true, ltb-false, lt-ltb, le-ltb, eq-eqb, ne_eqb, eqb-true}
use Rattle.std.proofs.lemmas.Bool.{lt-leb, eqb-false}
use Rattle.rules.specs.Limits.{longest_code}
use Rattle.rules.specs.Text.{bytes}
use Rattle.rules.specs.Figures.{is_digit}
use Rattle.rules.specs.Codes.{is_letter, all_of_code, is_code, same, smaller}

-- '0' to '9' are 1 to 10, 'A' to 'Z' are 11 to 36, and no other byte has a digit
unfoldable pub digit_of : ℕ → ℕ
digit_of x = cond (is_digit x) (x - 47) (cond (is_letter x) (x - 54) 0)

-- n places
abbrev pub key_at : ℕ → List ℕ → ℕ
key_at n [] = 0
key_at zero (x ∷ xs) = 0
key_at (suc n) (x ∷ xs) = digit_of x * 37 ^ n + key_at n xs

unfoldable pub key_of : List ℕ → ℕ
key_of v = key_at longest_code v

-- the kinds of byte
data Kind (x : ℕ) : Type 0 where
  number : 48 ≤ x → x ≤ 57 → digit_of x ≡ x - 47 → (is_digit x || is_letter x) ≡ true → Kind x
  letter : 65 ≤ x → x ≤ 90 → digit_of x ≡ x - 54 → (is_digit x || is_letter x) ≡ true → Kind x
  other : digit_of x ≡ 0 → (is_digit x || is_letter x) ≡ false → Kind x

kind : (x : ℕ) → Kind x
unfolding digit_of
kind x = go (leb 48 x) (leb x 57) (leb 65 x) (leb x 90) refl refl refl refl
  where
    go : (p q r s : Bool) → leb 48 x ≡ p → leb x 57 ≡ q → leb 65 x ≡ r → leb x 90 ≡ s → Kind x
    go true true r s e f g h = number (leb-true _ _ e) (leb-true _ _ f) (rw (e, f)) (rw (e, f))
    go true false true true e f g h = letter (leb-true _ _ g) (leb-true _ _ h) (rw (e, f, g, h)) (rw (e, f, g, h))
    go true false true false e f g h = other (rw (e, f, g, h)) (rw (e, f, g, h))
    go true false false s e f g h = other (rw (e, f, g)) (rw (e, f, g))
    go false q true s e f g h = absurd (omega (arith, leb-true, leb-false))
    go false q false s e f g h = other (rw (e, g)) (rw (e, g))

pub of_number : (x : ℕ) → 48 ≤ x → x ≤ 57 → digit_of x ≡ x - 47
unfolding digit_of
of_number x h k = simp (le-leb 48 x h, le-leb x 57 k)

pub of_letter : (x : ℕ) → 65 ≤ x → x ≤ 90 → digit_of x ≡ x - 54
unfolding digit_of
of_letter x h k = simp (lt-leb x 57 (omega arith), le-leb 65 x h, le-leb x 90 k, and-false)

pub of_other : (x : ℕ) → (48 ≤ x → x ≤ 57 → ⊥) → (65 ≤ x → x ≤ 90 → ⊥) → digit_of x ≡ 0
of_other x f g = go (kind x)
  where
    go : Kind x → digit_of x ≡ 0
    go (number p q e t) = absurd (f p q)
    go (letter p q e t) = absurd (g p q)
    go (other e t) = e

-- a byte of a code is one that has a digit
pub has_digit : (x : ℕ) → (is_digit x || is_letter x) ≡ ltb 0 (digit_of x)
has_digit x = go (kind x)
  where
    go : Kind x → (is_digit x || is_letter x) ≡ ltb 0 (digit_of x)
    go (number p q e t) = t ∙ sym (lt-ltb 0 (digit_of x) (omega arith))
    go (letter p q e t) = t ∙ sym (lt-ltb 0 (digit_of x) (omega arith))
    go (other e t) = t ∙ sym (le-ltb 0 (digit_of x) (omega arith))

pub digit_le : (x : ℕ) → digit_of x ≤ 36
digit_le x = go (kind x)
  where
    go : Kind x → digit_of x ≤ 36
    go (number p q e t) = omega arith
    go (letter p q e t) = omega arith
    go (other e t) = omega arith

-- the byte of a digit: there are 7 bytes between '9' and 'A'
digit_back : (x : ℕ) → 0 < digit_of x → x ≡ digit_of x + 47 + 7 * min 1 (digit_of x - 10)
digit_back x h = go (kind x)
  where
    go : Kind x → x ≡ digit_of x + 47 + 7 * min 1 (digit_of x - 10)
    go (number p q e t) = omega arith
    go (letter p q e t) = omega arith
    go (other e t) = omega arith

digit_mono : (x y : ℕ) → 0 < digit_of x → 0 < digit_of y → x < y → digit_of x < digit_of y
digit_mono x y s t h = omega (arith, digit_back x s, digit_back y t)

-- at most n bytes, each with a digit
abbrev Coded : ℕ → List ℕ → Type 0
Coded n [] = Unit {0}
Coded zero (x ∷ xs) = ⊥
Coded (suc n) (x ∷ xs) = (0 < digit_of x) × Coded n xs

coded : (n : ℕ) (v : List ℕ) → length v ≤ n → all_of_code v ≡ true → Coded n v
coded n [] h e = tt
coded zero (x ∷ xs) h e = omega arith
coded (suc n) (x ∷ xs) h e = go (is_digit x || is_letter x) refl e (coded n xs (omega arith))
  where
    go : (t : Bool) → (is_digit x || is_letter x) ≡ t → (t && all_of_code xs) ≡ true → (all_of_code xs ≡ true → Coded n xs) → (0 < digit_of x) × Coded n xs
    go true f e rest = (ltb-true 0 (digit_of x) (sym (has_digit x) ∙ f), rest e)
    go false f e rest = let z : ◌≡◌ {A = ℕ} 0 1 = cc in absurd (omega arith)

pub base_pos : (n : ℕ) → 0 < 37 ^ n
base_pos zero = lit< tt
base_pos (suc n) = omega (arith, pow-suc 37 n, base_pos n)

key_lt : (n : ℕ) (v : List ℕ) → Coded n v → key_at n v < 37 ^ n
key_lt n [] h = base_pos n
key_lt (suc n) (x ∷ xs) (h, hs) = omega (arith, pow-suc 37 n, mul-le-mul_right (37 ^ n) (digit_le x), key_lt n xs hs)
key_lt zero (x ∷ xs) h = elim h [ ]

-- a larger digit outweighs what stands behind it
outweighs : (n : ℕ) {d d' k : ℕ} (l : ℕ) → d < d' → k < 37 ^ n → d * 37 ^ n + k < d' * 37 ^ n + l
outweighs n l h m = omega (arith, mul-le-mul_right (37 ^ n) h)

-- how two codes and their keys compare
data Compared (a b : List ℕ) (k l : ℕ) : Type 0 where
  less : smaller a b ≡ true → same a b ≡ false → k < l → Compared a b k l
  equal : smaller a b ≡ false → same a b ≡ true → k ≡ l → Compared a b k l
  more : smaller a b ≡ false → same a b ≡ false → l < k → Compared a b k l

compare : (n : ℕ) (a b : List ℕ) → Coded n a → Coded n b → Compared a b (key_at n a) (key_at n b)
compare n [] [] h h' = equal refl refl refl
compare (suc n) [] (y ∷ ys) h (h', hs') = less refl refl (omega (arith, mul-le-mul_right (37 ^ n) h', base_pos n))
compare (suc n) (x ∷ xs) [] (h, hs) h' = more refl refl (omega (arith, mul-le-mul_right (37 ^ n) h, base_pos n))
compare (suc n) (x ∷ xs) (y ∷ ys) (h, hs) (h', hs') = go (ltb x y) (eqb x y) refl refl (compare n xs ys hs hs')
  where
    go :
        (p q : Bool) → ltb x y ≡ p → eqb x y ≡ q → Compared xs ys (key_at n xs) (key_at n ys) →
        Compared (x ∷ xs) (y ∷ ys) (key_at (suc n) (x ∷ xs)) (key_at (suc n) (y ∷ ys))
    go true true e f ih = absurd (omega (arith, ltb-true, eqb-true))
    go true false e f ih = less (rw e) (rw f) (outweighs n (key_at n ys) (digit_mono x y h h' (ltb-true x y e)) (key_lt n xs hs))
    go false true e f (less s t i) = less (rw (e, f, s)) (rw (f, t)) (omega (arith, ap (λ z. digit_of z * 37 ^ n) (eqb-true x y f)))
    go false true e f (equal s t i) = equal (rw (e, f, s)) (rw (f, t)) (omega (arith, ap (λ z. digit_of z * 37 ^ n) (eqb-true x y f)))
    go false true e f (more s t i) = more (rw (e, f, s)) (rw (f, t)) (omega (arith, ap (λ z. digit_of z * 37 ^ n) (eqb-true x y f)))
    go false false e f ih = more (rw (e, f)) (rw f) (outweighs n (key_at n xs) (digit_mono y x h' h (omega (arith, ltb-false, eqb-false x y f))) (key_lt n ys hs'))
compare zero [] (y ∷ ys) h h' = elim h' [ ]
compare zero (x ∷ xs) b h h' = elim h [ ]

-- what a code is, as one fact
code_coded : (v : List ℕ) → is_code v ≡ true → Coded longest_code v
unfolding is_code
code_coded v e = go (leb 1 (length v)) (leb (length v) longest_code) refl e
  where
    go : (p q : Bool) → leb (length v) longest_code ≡ q → (p && q && all_of_code v) ≡ true → Coded longest_code v
    go true true f e = coded longest_code v (leb-true _ _ f) e
    go true false f e = let z : ◌≡◌ {A = ℕ} 0 1 = cc in absurd (omega arith)
    go false q f e = let z : ◌≡◌ {A = ℕ} 0 1 = cc in absurd (omega arith)

-- The two laws below take this apart by themselves: so each is refused by its own name where a key is wrong.
compared : (a b : List ℕ) → is_code a ≡ true → is_code b ≡ true → Compared a b (key_of a) (key_of b)
unfolding key_of
compared a b e f = compare longest_code a b (code_coded a e) (code_coded b f)

pub key_same : (a b : List ℕ) → is_code a ≡ true → is_code b ≡ true → same a b ≡ eqb (key_of a) (key_of b)
unfolding key_of
key_same a b e f = go (compare longest_code a b (code_coded a e) (code_coded b f))
  where
    go : Compared a b (key_of a) (key_of b) → same a b ≡ eqb (key_of a) (key_of b)
    go (less s t i) = t ∙ sym (ne_eqb (key_of a) (key_of b) (omega arith))
    go (equal s t i) = t ∙ sym (eq-eqb (key_of a) (key_of b) i)
    go (more s t i) = t ∙ sym (ne_eqb (key_of a) (key_of b) (omega arith))

pub key_smaller : (a b : List ℕ) → is_code a ≡ true → is_code b ≡ true → smaller a b ≡ ltb (key_of a) (key_of b)
unfolding key_of
key_smaller a b e f = go (compare longest_code a b (code_coded a e) (code_coded b f))
  where
    go : Compared a b (key_of a) (key_of b) → smaller a b ≡ ltb (key_of a) (key_of b)
    go (less s t i) = s ∙ sym (lt-ltb (key_of a) (key_of b) i)
    go (equal s t i) = s ∙ sym (le-ltb (key_of a) (key_of b) (omega arith))
    go (more s t i) = s ∙ sym (le-ltb (key_of a) (key_of b) (omega arith))

-- 37 ^ 12 is below 2 ^ 63
pub key_bound : (v : List ℕ) → is_code v ≡ true → key_of v < 37 ^ longest_code
unfolding key_of
key_bound v e = key_lt longest_code v (code_coded v e)

pub key_pos : (v : List ℕ) → is_code v ≡ true → 0 < key_of v
unfolding key_of is_code
key_pos [] e = let z : ◌≡◌ {A = ℕ} 0 1 = cc in absurd (omega arith)
key_pos (x ∷ xs) e = let h = code_coded (x ∷ xs) e in omega arith

-- each key above the one before
abbrev rising : ℕ → List (List ℕ) → Bool
rising least [] = true
rising least (v ∷ vs) = ltb least (key_of v) && rising (key_of v) vs

in_order :
    T (rising 0
    (bytes "0" ∷ bytes "0Z" ∷ bytes "1" ∷ bytes "9" ∷ bytes "A" ∷ bytes "A0" ∷ bytes "AA" ∷ bytes "B" ∷ bytes "ZZZZZZZZZZZZ" ∷ []))
unfolding key_of digit_of
in_order = tt
