-- What callers cite: a definition by one test, read backwards; one key more at the end of a list; and that keys are given just where
-- document 01 has codes given, since equal keys are equal codes.
-- Assumes nothing.
use Prim.Native.Nat.{ℕ, ◌+◌, ◌<◌}
use mathlib.Core.Bool.{Bool, true, false, cond, ◌||◌, or-false, or_assoc}
use mathlib.Core.Path.{◌≡◌, refl, sym, ap, ap₂, ◌∙◌}
use mathlib.Core.List.{List, [], ◌∷◌, ◌++◌, map, Memᴰ}
use native.Mathlib.Numerals.{add-one}
use native.Mathlib.Omega.{arith}
use lib.ListN.{length, get_or, take}
use lib.Seq.{take-suc}
use lib.Dec.{eqb}
use Rattle.rules.specs.Codes.{is_code}
use Rattle.rules.specs.Book.{taken}
use Rattle.laws.specs.Keys.{key_of, key_same}
use Rattle.codes.specs.declared.Code.TheVariants.{Key, Malformed}
use Rattle.codes.specs.Codes.{code_of, given_in}

pub key_read : (v : List ℕ) (k : ℕ) → code_of v ≡ Key k → (is_code v ≡ true) × (key_of v ≡ k)
unfolding code_of
key_read v k h = go (is_code v) refl h
  where
    go : (b : Bool) → is_code v ≡ b → cond b (Key (key_of v)) Malformed ≡ Key k → (is_code v ≡ true) × (key_of v ≡ k)
    go true e h = (e, cc)
    go false e h = let z : ◌≡◌ {A = ℕ} 0 1 = cc in absurd (omega arith)

pub none_read : (v : List ℕ) → code_of v ≡ Malformed → is_code v ≡ false
unfolding code_of
none_read v h = go (is_code v) refl h
  where
    go : (b : Bool) → is_code v ≡ b → cond b (Key (key_of v)) Malformed ≡ Malformed → is_code v ≡ false
    go true e h = let z : ◌≡◌ {A = ℕ} 0 1 = cc in absurd (omega arith)
    go false e h = e

pub given_snoc : (l : List ℕ) (k key : ℕ) → given_in (l ++ k ∷ []) key ≡ (given_in l key || eqb k key)
given_snoc [] k key = or-false (eqb k key)
given_snoc (x ∷ xs) k key =
    ap (λ b. eqb x key || b) (given_snoc xs k key) ∙ sym (or_assoc (eqb x key) (given_in xs key) (eqb k key))

-- in a loop that counts by one
pub given_step :
    (keys : List ℕ) (i key : ℕ) → i < length keys →
    (given_in (take i keys) key || eqb (get_or keys i 0) key) ≡ given_in (take (i + 1) keys) key
given_step keys i key h = rw (add-one, take-suc keys i 0) (sym (given_snoc (take i keys) (get_or keys i 0) key))

-- of customers and of seats
pub taken_keys :
    {A : Type 0} (code : A → List ℕ) (v : List ℕ) (l : List A) → is_code v ≡ true → ((a : A) → Memᴰ a l → is_code (code a) ≡ true) →
    taken code v l ≡ given_in (map (λ a. key_of (code a)) l) (key_of v)
taken_keys code v [] e h = refl
taken_keys code v (a ∷ l) e h =
    ap₂ (λ p q. p || q) (key_same (code a) v (h a (Memᴰ.head refl)) e) (taken_keys code v l e (λ b m. h b (Memᴰ.tail m)))
