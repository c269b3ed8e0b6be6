-- Keys that are made otherwise than `key_of` makes them: two codes stand in another order than their bytes, so none of them has the law `key-smaller`.
-- Assumes nothing.
use Rattle.std.specs.Prelude.{ℕ, zero, suc, ◌+◌, ◌-◌, ◌*◌, ◌^◌, true, cond, ◌≡◌, refl, List, [], ◌∷◌, length, ltb}
use Rattle.std.proofs.Common.{ap, arith}
use Rattle.rules.specs.Limits.{longest_code}
use Rattle.rules.specs.Text.{bytes}
use Rattle.rules.specs.Figures.{is_digit}
use Rattle.rules.specs.Codes.{is_letter, is_code, smaller}
use Rattle.rules.specs.Division.{one_if}
use Rattle.laws.specs.Keys.{digit_of, key_at, key_of, key_smaller}

-- keys in the order of their codes
abbrev pub InOrder : (List ℕ → ℕ) → Type 0
InOrder key = (a b : List ℕ) → is_code a ≡ true → is_code b ≡ true → smaller a b ≡ ltb (key a) (key b)

pub in_order : InOrder key_of
in_order = key_smaller

-- n places of this base
abbrev key_by : ℕ → (ℕ → ℕ) → ℕ → List ℕ → ℕ
key_by base digit n [] = 0
key_by base digit zero (x ∷ xs) = 0
key_by base digit (suc n) (x ∷ xs) = digit x * base ^ n + key_by base digit n xs

-- base 36, in which a digit can be outweighed by those behind it: "0Z" has the key of "1"
pub not_base_36 : InOrder (key_by 36 digit_of longest_code) → ⊥
unfolding is_code digit_of
not_base_36 h = absurd (omega (arith, ap one_if (h (bytes "0Z") (bytes "1") refl refl)))

-- a letter's digit below a number's: "A" comes before "9"
pub not_letters_first : InOrder (key_by 37 (λ x. cond (is_digit x) (x - 21) (cond (is_letter x) (x - 64) 0)) longest_code) → ⊥
unfolding is_code
not_letters_first h = absurd (omega (arith, ap one_if (h (bytes "9") (bytes "A") refl refl)))

-- the padding is left out: "B" comes before "AA"
pub not_without_padding : InOrder (λ v. key_at (length v) v) → ⊥
unfolding is_code digit_of
not_without_padding h = absurd (omega (arith, ap one_if (h (bytes "AA") (bytes "B") refl refl)))
