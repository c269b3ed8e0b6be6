-- A sheet that begins with a word: as `starts_with` finds it, and as its first line says it.
-- Assumes nothing.
use Prim.Native.Nat.{ℕ, ◌≤◌}
use mathlib.Core.Path.{◌≡◌, refl, sym, ap, ap₂, ◌∙◌}
use mathlib.Core.Bool.{Bool, true, false, ◌&&◌, and-false, and-eq-true_iff}
use mathlib.Core.List.{List, [], ◌∷◌, ◌++◌}
use native.Mathlib.Omega.{arith}
use borrow.Author.Tests.{eq-eqb, ne_eqb, eqb-true, eqb-false}
use lib.Dec.{eqb}
use lib.ListN.{length, take, drop}
use Rattle.rules.specs.Text.{is, bytes}
use Rattle.rules.specs.Codes.{same}
use Rattle.laws.specs.ByTest.{by_test, not_either}
use Rattle.days.specs.Lines.{Line, Whole, Cut, longer, lines_of}
use Rattle.sheets.specs.Mark.{stands_in}
use Rattle.sheets.specs.Read.{Bad, lines_from, sheet_from}
use Rattle.std.specs.Cmp.Lexicographic.{pointwise}

-- some bytes begin with a word
abbrev begins : List ℕ → List ℕ → Bool
begins [] s = true
begins (x ∷ word) [] = false
begins (x ∷ word) (y ∷ s) = eqb y x && begins word s

eqb_swap : (m n : ℕ) → eqb m n ≡ eqb n m
eqb_swap m n = by_test (eqb n m) (λ e. rw e (eq-eqb m n (sym (eqb-true n m e)))) (λ e. rw e (ne_eqb m n (λ q. eqb-false n m e (sym q))))

starts : (word s : List ℕ) → pointwise eqb word (take (length word) s) ≡ begins word s
starts [] s = refl
starts (x ∷ word) [] = refl
starts (x ∷ word) (y ∷ s) = ap₂ (λ (p q : Bool). p && q) (eqb_swap x y) (starts word s)

-- the first line is a word
abbrev first_is : List ℕ → List Line → Bool
first_is w [] = false
first_is w (Cut v ∷ ls) = false
first_is w (Whole v ∷ ls) = same v w

longer_none : (y : ℕ) (ls : List Line) → first_is [] (longer y ls) ≡ false
longer_none y [] = refl
longer_none y (Cut v ∷ ls) = refl
longer_none y (Whole v ∷ ls) = refl

longer_some : (x y : ℕ) (w : List ℕ) (ls : List Line) → first_is (x ∷ w) (longer y ls) ≡ (eqb y x && first_is w ls)
longer_some x y w [] = sym (and-false (eqb y x))
longer_some x y w (Cut v ∷ ls) = sym (and-false (eqb y x))
longer_some x y w (Whole v ∷ ls) = refl

-- a byte that is a line feed is none of a word's
unlike : (x y : ℕ) → eqb x 10 ≡ false → eqb y 10 ≡ true → eqb y x ≡ false
unlike x y h k =
    by_test (eqb y x)
    (λ e. absurd (let p = eqb-true y x e in let q = eqb-true y 10 k in let r : eqb x 10 ≡ true = eq-eqb x 10 (sym p ∙ q) in let z : ◌≡◌ {A = ℕ} 0 1 = cc in omega arith))
    (λ e. e)

begins_line : (w s : List ℕ) → stands_in 10 w ≡ false → begins (w ++ 10 ∷ []) s ≡ first_is w (lines_of s)
unfolding lines_of
begins_line [] [] h = refl
begins_line [] (y ∷ s) h = by_test (is "\n" y) (λ e. simp e) (λ e. simp e (sym (longer_none y (lines_of s))))
begins_line (x ∷ w) [] h = refl
begins_line (x ∷ w) (y ∷ s) h =
    let n = not_either (eqb x 10) (stands_in 10 w) h in
    by_test (is "\n" y)
    (λ e. simp (e, unlike x y n.0 e))
    (λ e. simp e (ap (λ (b : Bool). eqb y x && b) (begins_line w s n.1) ∙ sym (longer_some x y w (lines_of s))))

-- the bytes of a sheet that begins with a word
begins_with : (word s : List ℕ) → begins word s ≡ true → s ≡ word ++ drop (length word) s
begins_with [] s h = refl
begins_with (x ∷ word) [] h = absurd (let z : ◌≡◌ {A = ℕ} 0 1 = cc in omega arith)
begins_with (x ∷ word) (y ∷ s) h =
    let p = (and-eq-true_iff (eqb y x) (begins word s)).0 h in
    ap₂ (λ (n : ℕ) (l : List ℕ). n ∷ l) (eqb-true y x p.0) (begins_with word s p.1)

-- the mark line, as `starts_with` finds it
module _ (s : List ℕ) where
  abbrev pub Starts : List ℕ → Bool
  Starts word = pointwise eqb word (take (length word) s)

  pub comma_lines : Starts (bytes "mark,\n") ≡ true → (sheet_from (lines_of s) ≡ lines_from 44 2 (lines_of (drop 6 s))) × (6 ≤ length s)
  unfolding sheet_from lines_of
  comma_lines h =
      let e = begins_with (bytes "mark,\n") s (sym (starts (bytes "mark,\n") s) ∙ h) in
      (ap (λ (t : List ℕ). sheet_from (lines_of t)) e, omega (arith, ap length e))

  pub point_lines : Starts (bytes "mark.\n") ≡ true → (sheet_from (lines_of s) ≡ lines_from 46 2 (lines_of (drop 6 s))) × (6 ≤ length s)
  unfolding sheet_from lines_of
  point_lines h =
      let e = begins_with (bytes "mark.\n") s (sym (starts (bytes "mark.\n") s) ∙ h) in
      (ap (λ (t : List ℕ). sheet_from (lines_of t)) e, omega (arith, ap length e))

  no_head : (ls : List Line) → first_is (bytes "mark,") ls ≡ false → first_is (bytes "mark.") ls ≡ false → sheet_from ls ≡ Bad 20 1
  unfolding sheet_from
  no_head [] h k = refl
  no_head (Cut v ∷ ls) h k = refl
  no_head (Whole v ∷ ls) h k = rw (h, k)

  pub no_lines : Starts (bytes "mark,\n") ≡ false → Starts (bytes "mark.\n") ≡ false → sheet_from (lines_of s) ≡ Bad 20 1
  no_lines h k =
      no_head (lines_of s) (sym (begins_line (bytes "mark,") s refl) ∙ sym (starts (bytes "mark,\n") s) ∙ h)
      (sym (begins_line (bytes "mark.") s refl) ∙ sym (starts (bytes "mark.\n") s) ∙ k)
