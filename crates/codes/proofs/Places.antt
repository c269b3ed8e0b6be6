-- A code's key, byte by byte: after i bytes the key has i digits, and the other 12 - i places are still to come.
-- Assumes nothing.
use Prim.Native.Nat.{ℕ, suc, ◌+◌, ◌-◌, ◌*◌, ◌^◌, ◌≤◌, ◌<◌}
use mathlib.Core.Bool.{cond}
use mathlib.Core.Path.{◌≡◌, sym, ap, ◌∙◌}
use mathlib.Core.List.{List, ◌∷◌}
use native.Mathlib.Nat.{pow-suc, pow-le-pow_right, mul-le-mul_right}
use native.Mathlib.Numerals.{add-one}
use native.Mathlib.Omega.{arith}
use lib.ListN.{length, get_or, drop, drop_of_length-le}
use lib.Seq.{drop-cons}
use lib.Pow.{pow-add}
use lib.Dec.{lit<}
use borrow.Author.Tests.{le-leb, lt-leb, lt-ltb}
use Rattle.rules.specs.Codes.{is_code, all_of_code}
use Rattle.laws.specs.Keys.{digit_of, key_at, key_of, has_digit, base_pos}
use Rattle.codes.specs.declared.Code.{Code}
use Rattle.codes.specs.declared.Code.TheVariants.{Key, Malformed}
use Rattle.codes.specs.Codes.{code_of}

-- what the bytes that are left make of a key of i digits
unfoldable pub rest : ℕ → ℕ → List ℕ → Code
rest key i xs = cond (all_of_code xs) (Key (key * 37 ^ (12 - i) + key_at (12 - i) xs)) Malformed

pub starts : (v : List ℕ) → 0 < length v → length v ≤ 12 → code_of v ≡ rest 0 0 v
unfolding code_of is_code key_of rest
starts v h k = rw (le-leb 1 (length v) h, le-leb (length v) 12 k) (ap (λ n. cond (all_of_code v) (Key n) Malformed) (omega arith))

pub too_long : (v : List ℕ) → 12 < length v → code_of v ≡ Malformed
unfolding code_of is_code
too_long v h = simp (le-leb 1 (length v) (omega arith), lt-leb (length v) 12 h)

pub empty : (v : List ℕ) → length v ≡ 0 → code_of v ≡ Malformed
unfolding code_of is_code
empty v h = simp h

module _ (v : List ℕ) (i key : ℕ) (h : i < length v) where
  front : drop i v ≡ get_or v i 0 ∷ drop (i + 1) v
  front = rw (add-one, drop-cons v i 0)

  pub stops : digit_of (get_or v i 0) ≡ 0 → rest key i (drop i v) ≡ Malformed
  unfolding rest
  stops e = rw (front, has_digit, e)

  pub goes : length v ≤ 12 → (digit_of (get_or v i 0) ≡ 0 → ⊥) → rest key i (drop i v) ≡ rest (key * 37 + digit_of (get_or v i 0)) (i + 1) (drop (i + 1) v)
  unfolding rest
  goes k e =
      let m : 12 - i ≡ suc (12 - (i + 1)) = omega arith in
      rw (front, m, has_digit, lt-ltb 0 (digit_of (get_or v i 0)) (omega arith), pow-suc) (ap (λ n. cond (all_of_code (drop (i + 1) v)) (Key n) Malformed) (omega arith))

pub ends : (v : List ℕ) (i key : ℕ) → length v ≤ i → rest key i (drop i v) ≡ Key (key * 37 ^ (12 - i))
unfolding rest
ends v i key h = rw (drop_of_length-le v h) (ap Key (omega arith))

-- a key of i digits is below 37 ^ i, and padded below 37 ^ 12
pub longer : (key i d : ℕ) → key < 37 ^ i → d ≤ 36 → key * 37 + d < 37 ^ (i + 1)
longer key i d h k = rw (add-one, pow-suc) (omega arith)

pub padded : (key i : ℕ) → key < 37 ^ i → i ≤ 12 → key * 37 ^ (12 - i) < 37 ^ 12
padded key i h k =
    let e : i + (12 - i) ≡ 12 = omega arith in
    omega (arith, mul-le-mul_right (37 ^ (12 - i)) h, sym (pow-add 37 i (12 - i)) ∙ ap (λ n. 37 ^ n) e, base_pos (12 - i))

pub short : (key i : ℕ) → key < 37 ^ i → i ≤ 12 → key < 37 ^ 12
short key i h k = let most : 37 ^ i ≤ 37 ^ 12 = pow-le-pow_right (lit< tt) k in omega arith
