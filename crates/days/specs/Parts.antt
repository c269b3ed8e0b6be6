-- The bytes up to the first of their kind, and those after it, by the place where it stands.
-- Assumes nothing.
use Rattle.std.specs.Prelude.{ℕ, suc, ◌+◌, ◌≤◌, ◌≡◌, refl, Bool, not, ◌&&◌, ◌||◌, List, [], ◌∷◌, leb, eqb, length, get_or, take, drop}
use Prim.Native.Char.{Char, code}
use Rattle.std.proofs.Common.{ap, ◌∙◌, add-one, arith}
use Rattle.rules.specs.Text.{is}
use Rattle.rules.specs.Figures.{up_to, after}
use Rattle.laws.specs.ByTest.{by_test}
use Rattle.days.specs.Places.{up_to_byte}

module _ (c : Char) where
  pub same_bytes : (v : List ℕ) → up_to_byte (code c) v ≡ up_to c v
  same_bytes [] = refl
  same_bytes (x ∷ v) = by_test (is c x) (λ e. simp e) (λ e. simp (e, same_bytes v))

  pub up_to_most : (v : List ℕ) → length (up_to c v) ≤ length v
  up_to_most [] = omega arith
  up_to_most (x ∷ v) = by_test (is c x) (λ e. simp e (omega arith)) (λ e. simp e (omega (arith, up_to_most v)))

  pub take_up_to : (v : List ℕ) → take (length (up_to c v)) v ≡ up_to c v
  take_up_to [] = refl
  take_up_to (x ∷ v) = by_test (is c x) (λ e. simp e) (λ e. simp e (ap (λ (l : List ℕ). x ∷ l) (take_up_to v)))

  pub drop_after : (v : List ℕ) → drop (suc (length (up_to c v))) v ≡ after c v
  drop_after [] = refl
  drop_after (x ∷ v) = by_test (is c x) (λ e. simp e) (λ e. simp e (drop_after v))

  -- as the code finds it
  module _ (v : List ℕ) (r : ℕ) (at : r ≡ length (up_to_byte (code c) v)) where
    place : r ≡ length (up_to c v)
    place = at ∙ ap length (same_bytes v)

    pub cut_most : r ≤ length v
    cut_most = omega (arith, place, up_to_most v)

    pub cut_front : take r v ≡ up_to c v
    cut_front = ap (λ (n : ℕ). take n v) place ∙ take_up_to v

    pub cut_behind : drop (r + 1) v ≡ after c v
    cut_behind = rw (add-one, place) (drop_after v)

-- as many bytes as open interest may have digits, with no leading zero
abbrev pub may_be_interest : List ℕ → Bool
may_be_interest v = leb 1 (length v) && leb (length v) 10 && (not (is "0" (get_or v 0 0)) || eqb (length v) 1)
