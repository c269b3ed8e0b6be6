-- What is ready to be written is a line.
-- Assumes nothing.
use Prim.Native.Nat.{ℕ}
use mathlib.Core.Path.{◌≡◌, refl, sym, ◌∙◌}
use mathlib.Core.List.{List}
use native.Mathlib.Omega.{arith}
use lib.ListN.{drop}
use Rattle.rules.specs.Book.{Stop}
use Rattle.sheets.specs.Places.{front_of, of_front, Shows}
use Rattle.sheets.specs.Making.{Ready}
use Rattle.sheets.specs.declared.line.Line.{Line}
use Rattle.std.specs.Prelude.{Option, Some, None}
use Rattle.std.specs.Option.{IsSome}

module _ (mark : ℕ) (s : List ℕ) (at place : ℕ) (buffer : List ℕ) (ready : Ready mark s at place buffer) where
  pub not_bad : ((m : ℕ) → of_front m (front_of (drop at s)) ≡ Stop 22) → ⊥
  not_bad h = let e = sym (h mark) ∙ ready.good in let z : ◌≡◌ {A = ℕ} 0 1 = cc in omega arith

  pub is_line : (o : Option Line) → Shows s at o → IsSome o
  is_line (Some l) h = refl
  is_line None h = absurd (not_bad h)
