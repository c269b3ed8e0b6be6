-- The nine tags that have a line to themselves, one by one: what holds of each holds of a tag of its kind.
-- Assumes nothing.
use Rattle.std.specs.Prelude.{ℕ, ◌≡◌, refl, Bool, true, false, ◌||◌}
use Prim.Native.Char.{Char, code}
use Rattle.std.proofs.Common.{subst}
use Rattle.rules.specs.Text.{is}
use Rattle.sheets.specs.Line.{carried, figured, traded}
use Rattle.sheets_promises.specs.Good.{line_tag, tag_is}

pub either : {G : Type 0} (a b : Bool) → (a || b) ≡ true → (a ≡ true → G) → (b ≡ true → G) → G
either true b h f g = f refl
either false b h f g = g h

module _ (P : ℕ → Type 0) (t : ℕ) where
  at : (c : Char) → P (code c) → is c t ≡ true → P t
  at c p e = subst P (tag_is c t e) p

  pub by_carried : P (code "D") → P (code "X") → P (code "C") → carried t ≡ true → P t
  by_carried d x c h = either (is "D" t || is "X" t) (is "C" t) h (λ h. either (is "D" t) (is "X" t) h (at "D" d) (at "X" x)) (at "C" c)

  pub by_figured : P (code "S") → P (code "L") → P (code "U") → P (code "V") → figured t ≡ true → P t
  by_figured s l u v h =
      either (is "S" t || is "L" t || is "U" t) (is "V" t) h
      (λ h. either (is "S" t || is "L" t) (is "U" t) h (λ h. either (is "S" t) (is "L" t) h (at "S" s) (at "L" l)) (at "U" u))
      (at "V" v)

  pub by_traded : P (code "B") → P (code "A") → traded t ≡ true → P t
  by_traded b a h = either (is "B" t) (is "A" t) h (at "B" b) (at "A" a)

  pub by_line_tag : P (code "D") → P (code "X") → P (code "C") → P (code "S") → P (code "L") → P (code "U") → P (code "V") → P (code "B") → P (code "A") → line_tag t ≡ true → P t
  by_line_tag d x c s l u v b a h =
      either (carried t || figured t) (traded t) h (λ h. either (carried t) (figured t) h (by_carried d x c) (by_figured s l u v)) (by_traded b a)
