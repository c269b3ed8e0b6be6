-- Where a part ends, as `position` finds it; and bytes from a place on.
-- Assumes nothing.
use Prim.Native.Nat.{ℕ, ◌+◌, ◌-◌, ◌≤◌, ◌<◌}
use mathlib.Core.Path.{◌≡◌, refl, sym, ap, ◌∙◌}
use mathlib.Core.Bool.{Bool, cond, not}
use mathlib.Core.List.{List, ◌∷◌}
use native.Mathlib.Omega.{arith}
use borrow.Author.Tests.{ltb-false}
use lib.ListN.{length, take, drop, get_or, length-drop}
use Rattle.std.specs.Prelude.{unwrap_or, nat_lt}
use Rattle.std.specs.List.{position, position_or_len}
use Rattle.std.proofs.Common.{add-one, drop-cons}
use Rattle.std.proofs.lemmas.Grind.{common_steps}
use Rattle.std.proofs.lemmas.List.Recursion.{is_position_or_len}
use Rattle.std.proofs.lemmas.List.Sums.{prefix_len-le-length}
use Rattle.laws.specs.ByTest.{by_test}
use Rattle.sheets.specs.Places.{stops, stopless}

pub drop_step : (v : List ℕ) (i : ℕ) → i < length v → drop i v ≡ get_or v i 0 ∷ drop (i + 1) v
drop_step v i h = rw (add-one, drop-cons v i 0)

-- what is behind a place, as Rattle has it of a slice
pub take_rest : (s : List ℕ) (n : ℕ) → take (length s - n) (drop n s) ≡ drop n s
take_rest s n = grind (arith, common_steps)

-- the place of the first that passes, or the end
position_or_all : (p : ℕ → Bool) (s : List ℕ) → unwrap_or (position p s) (length s) ≡ position_or_len p s
position_or_all p s =
    by_test (nat_lt (position_or_len p s) (length s)) (λ e. rw e) (λ e. let h = ltb-false _ _ e in rw e (omega (arith, h, prefix_len-le-length (λ x. not (p x)) s)))

stopless_ends : (s : List ℕ) → length (stopless s) ≡ position_or_len stops s
stopless_ends s = is_position_or_len (λ l. length (stopless l)) stops refl step s
  where
    step : (x : ℕ) (xs : List ℕ) → length (stopless (x ∷ xs)) ≡ cond (stops x) 0 (1 + length (stopless xs))
    step x xs = by_test (stops x) (λ e. simp e) (λ e. simp e (omega arith))

pub stopless_short : (s : List ℕ) → length (stopless s) ≤ length s
stopless_short s = omega (arith, stopless_ends s, prefix_len-le-length (λ x. not (stops x)) s)

pub stop_found : (s : List ℕ) (from r : ℕ) (rest : List ℕ) → from ≤ length s → rest ≡ drop from s → r ≡ unwrap_or (position stops rest) (length rest) →
    (from + r ≡ from + length (stopless (drop from s))) × (from + r ≤ length s)
stop_found s from r rest h t e =
    let f : r ≡ length (stopless (drop from s)) = e ∙ position_or_all stops rest ∙ sym (stopless_ends rest) ∙ ap (λ (l : List ℕ). length (stopless l)) t in
    (ap (λ (m : ℕ). from + m) f, omega (arith, f, stopless_short (drop from s), length-drop from s))
