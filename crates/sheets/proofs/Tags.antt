-- What a field is in a sheet, tag by tag: its bytes, and how many they are.
-- Assumes nothing.
use Prim.Native.Nat.{ℕ}
use Prim.Native.Char.{code}
use mathlib.Core.Path.{◌≡◌, sym, subst, ◌∙◌}
use mathlib.Core.Bool.{true, false}
use mathlib.Core.List.{List, ◌∷◌, map}
use borrow.Author.Tests.{eq-eqb}
use Rattle.writing.specs.Written.{Wrote}
use Rattle.sheets.specs.Mark.{in_sheet}
use Rattle.sheets.specs.Line.{figured, traded}
use Rattle.sheets.specs.Write.{value_in, part_in, shown}
use Rattle.sheets.specs.Shown.{spelt, spelt_twice, respelled_same}

-- the same bytes are written
pub as_same : {at r : ℕ} {x y a b : List ℕ} → y ≡ x → Wrote at x a b r → Wrote at y a b r
as_same {at} {r} {x} {y} {a} {b} e w = subst (λ (z : List ℕ). Wrote at z a b r) (sym e) w

module _ (t : ℕ) where
  pub shown_i : (mark : ℕ) (v : List ℕ) → t ≡ code "I" → shown mark t v ≡ t ∷ part_in v
  shown_i mark v e = simp (eq-eqb t (code "I") e)

  -- a value that has a line to itself
  module _ (mark : ℕ) (v : List ℕ) where
    pub value_figure : figured t ≡ true → value_in mark t v ≡ map (spelt mark (code " ")) v
    value_figure e = simp e (sym (spelt_twice mark (code " ") v ∙ respelled_same (code " ") (in_sheet mark v)))

    pub value_trade : figured t ≡ false → traded t ≡ true → value_in mark t v ≡ map (spelt mark (code ";")) v
    value_trade e f = simp (e, f) (sym (spelt_twice mark (code ";") v))

    pub value_carried : figured t ≡ false → traded t ≡ false → value_in mark t v ≡ v
    value_carried e f = simp (e, f)
