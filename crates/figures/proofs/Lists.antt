-- A list from i on, as a loop that counts by one and a part of a slice read it; and a test's two cases, and its negation's.
-- Assumes nothing.
use Rattle.std.proofs.Common.{◌≡◌, ℕ, ◌+◌, ◌-◌, ◌<◌, Bool, true, false, not, List, ◌∷◌, length, get_or, take, drop, sym, refl, add-one, arith, length-drop, take_all, drop-cons}
use mathlib.Core.Bool.{false≢true}

pub drop_step : (v : List ℕ) (i : ℕ) → i < length v → drop i v ≡ get_or v i 0 ∷ drop (i + 1) v
drop_step v i h = rw (add-one, drop-cons v i 0)

-- a part that goes to the end
pub to_end : (v : List ℕ) (i : ℕ) → take (length v - i) (drop i v) ≡ drop i v
to_end v i = take_all (length v - i) (drop i v) (simp length-drop (omega arith))

pub by_test : {C : Type 0} (b : Bool) → (b ≡ true → C) → (b ≡ false → C) → C
by_test true f g = f refl
by_test false f g = g refl

pub negated : (b : Bool) → not b ≡ true → b ≡ false
negated false h = refl
negated true h = absurd (false≢true h)

pub affirmed : (b : Bool) → not b ≡ false → b ≡ true
affirmed true h = refl
affirmed false h = absurd (false≢true (sym h))
