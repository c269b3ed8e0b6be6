-- Two keys between which lie those of all members so far that lack the edge: one member more.
-- Assumes nothing.
use Prim.Native.Nat.{ℕ, ◌+◌, ◌≤◌, ◌<◌, min, max}
use mathlib.Core.Path.{◌≡◌, sym}
use mathlib.Core.Logic.{⊎_elim}
use mathlib.Core.List.{List}
use native.Mathlib.Nat.{eq-or-lt_of_le}
use native.Mathlib.Omega.{arith}
use Rattle.division.specs.Shares.{at}
use Rattle.division.specs.Parts.{lack_in, Spanned}

pub record Between (parts keys : List ℕ) (n edge least most : ℕ) : Type 0 where
  pub above : (i : ℕ) → i < n → lack_in (at parts i) ≡ edge → least ≤ at keys i
  pub under : (i : ℕ) → i < n → lack_in (at parts i) ≡ edge → at keys i ≤ most

module _ {parts keys : List ℕ} {n edge least most : ℕ} (b : Between parts keys n edge least most) where
  -- an index below n + 1 is below n, or n
  last : (P : ℕ → Type 0) (i : ℕ) → i < n + 1 → (i < n → P i) → P n → P i
  last P i h f p = ⊎_elim (λ e. mathlib.Core.Path.subst P (sym e) p) f (eq-or-lt_of_le (omega arith))

  pub one_between : Between parts keys (n + 1) edge (min least (at keys n)) (max most (at keys n))
  one_between =
      record {
        above = λ i h. last (λ j. lack_in (at parts j) ≡ edge → min least (at keys n) ≤ at keys j) i h (λ l e. omega (arith, b.above i l e)) (λ e. omega arith);
        under = λ i h. last (λ j. lack_in (at parts j) ≡ edge → at keys j ≤ max most (at keys n)) i h (λ l e. omega (arith, b.under i l e)) (λ e. omega arith);
      }

  pub passed_between : (lack_in (at parts n) ≡ edge → ⊥) → Between parts keys (n + 1) edge least most
  passed_between ne =
      record {
        above = λ i h. last (λ j. lack_in (at parts j) ≡ edge → least ≤ at keys j) i h (λ l. b.above i l) (λ e. absurd (ne e));
        under = λ i h. last (λ j. lack_in (at parts j) ≡ edge → at keys j ≤ most) i h (λ l. b.under i l) (λ e. absurd (ne e));
      }

  pub spanned : Spanned parts keys n edge (min least most) most
  spanned = record { span = omega arith; above = λ i h e. omega (arith, b.above i h e); under = b.under }
