-- The two parts of a trade's value, by the place of its first blank.
-- Assumes nothing.
use Rattle.std.proofs.Common.{◌≡◌, ℕ, ◌+◌, ◌<◌, ◌≤◌, false, ltb, List, [], ◌∷◌, ◌++◌, length, drop, sym, refl, ap, ◌∙◌, arith, ltb-false, ltb-true, eqb-true}
use Prim.Native.Char.{code}
use mathlib.Core.Bool.{false≢true}
use Rattle.figures.proofs.Lists.{by_test}
use lib.Seq.{drop-append-add}
use Rattle.rules.specs.Text.{is}
use Rattle.rules.specs.Figures.{has}
use Rattle.rules.specs.Opening.{up_to_blank, after_blank}

-- a value with a blank in it is what stands before the first, the blank, and the rest
pub blank_inside : (v : List ℕ) → length (up_to_blank v) < length v → v ≡ up_to_blank v ++ (code " " ∷ after_blank v)
blank_inside [] h = absurd (omega arith)
blank_inside (x ∷ v) h =
    by_test (is " " x)
    (λ e. simp e (ap (λ (y : ℕ). y ∷ v) (eqb-true x (code " ") e)))
    (λ e. simp e (ap (λ (l : List ℕ). x ∷ l) (blank_inside v (omega (arith, simp e at h)))))

pub after_blank_lem : (v : List ℕ) (p : ℕ) → p ≡ length (up_to_blank v) → p < length v → drop (p + 1) v ≡ after_blank v
after_blank_lem v p e h =
    let u = up_to_blank v in
    ap (λ (n : ℕ). drop (n + 1) v) e ∙ ap (drop (length u + 1)) (blank_inside v (omega arith)) ∙ drop-append-add u _ 1

-- and one without has nothing after it
pub nothing_after : (v : List ℕ) → length v ≤ length (up_to_blank v) → after_blank v ≡ []
nothing_after [] h = refl
nothing_after (x ∷ v) h =
    by_test (is " " x)
    (λ e. absurd (omega (arith, simp e at h)))
    (λ e. simp e (nothing_after v (omega (arith, simp e at h))))

-- where something stands after a blank, there is one
pub blank_before : (v : List ℕ) → 0 < length (after_blank v) → length (up_to_blank v) < length v
blank_before v h =
    by_test (ltb (length (up_to_blank v)) (length v))
    (λ t. ltb-true _ _ t)
    (λ t. absurd (omega (arith, ap length (nothing_after v (ltb-false _ _ t)))))

-- bytes without a blank, and a blank after them: it is the first
pub up_to_part : (u w : List ℕ) → has " " u ≡ false → up_to_blank (u ++ (code " " ∷ w)) ≡ u
up_to_part [] w h = refl
up_to_part (x ∷ u) w h =
    by_test (is " " x)
    (λ e. absurd (false≢true (sym (simp e at h))))
    (λ e. simp e (ap (λ (l : List ℕ). x ∷ l) (up_to_part u w (simp e at h))))

pub after_part : (u w : List ℕ) → has " " u ≡ false → after_blank (u ++ (code " " ∷ w)) ≡ w
after_part [] w h = refl
after_part (x ∷ u) w h =
    by_test (is " " x)
    (λ e. absurd (false≢true (sym (simp e at h))))
    (λ e. simp e (after_part u w (simp e at h)))
