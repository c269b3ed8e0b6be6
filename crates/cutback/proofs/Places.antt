-- Where the code ends that stands at the front of a line, and what stands behind its line.
-- Assumes nothing.
use Prim.Native.Nat.{ℕ, suc, ◌+◌, ◌-◌, ◌<◌, ◌≤◌}
use mathlib.Core.Path.{◌≡◌, refl, sym, ap, ap₂, ◌∙◌}
use mathlib.Core.List.{List, [], ◌∷◌, map}
use mathlib.Core.Bool.{Bool, cond, not, ◌||◌}
use borrow.Author.Tests.{ltb-false}
use native.Mathlib.Omega.{arith}
use lib.ListN.{length, take, drop}
use lib.Dec.{ltb, eqb}
use Rattle.std.specs.Prelude.{unwrap_or, nat_lt}
use Rattle.std.specs.List.{position, position_or_len}
use Rattle.std.proofs.lemmas.List.Sums.{prefix_len-le-length}
use Rattle.std.proofs.lemmas.Grind.{common_steps}
use Rattle.std.proofs.lemmas.List.{length-map}
use Rattle.std.proofs.lemmas.List.Recursion.{is_position_or_len}
use Rattle.rules.specs.Text.{is}
use Rattle.rules.specs.Opening.{up_to_blank}
use Rattle.laws.specs.ByTest.{by_test}
use Rattle.reasons.specs.Lines.{first_line}
use Rattle.reasons.proofs.Texts.{first_short}
use Rattle.cutback.specs.Lines.{codes_in, onto, lines_of, codes_ahead}

-- the place of the first that passes, or the end
position_or_all : (p : ℕ → Bool) (s : List ℕ) → unwrap_or (position p s) (length s) ≡ position_or_len p s
position_or_all p s =
    by_test (nat_lt (position_or_len p s) (length s)) (λ e. rw e) (λ e. let h = ltb-false _ _ e in rw e (omega (arith, h, prefix_len-le-length (λ x. not (p x)) s)))

-- the code at the front of a line
abbrev pub head : List ℕ → List ℕ
head s = up_to_blank (first_line s)

-- it ends at the first line feed or blank
pub head_ends : (s : List ℕ) → length (head s) ≡ position_or_len (λ b. eqb b 10 || eqb b 32) s
head_ends s = is_position_or_len (λ l. length (head l)) (λ b. eqb b 10 || eqb b 32) refl step s
  where
    step : (x : ℕ) (xs : List ℕ) → length (head (x ∷ xs)) ≡ cond (eqb x 10 || eqb x 32) 0 (1 + length (head xs))
    step x xs = by_test (is "\n" x) (λ e. simp e) (λ e. by_test (is " " x) (λ f. simp (e, f)) (λ f. simp (e, f) (omega arith)))

pub found_at : (s : List ℕ) → unwrap_or (position (λ b. is "\n" b || is " " b) s) (length s) ≡ length (head s)
found_at s = position_or_all (λ b. is "\n" b || is " " b) s ∙ sym (head_ends s)

pub head_part : (s : List ℕ) → take (length (head s)) s ≡ head s
head_part [] = refl
head_part (b ∷ s) =
    by_test (is "\n" b) (λ e. simp e) (λ e. by_test (is " " b) (λ f. simp (e, f)) (λ f. simp (e, f) (ap (λ (l : List ℕ). b ∷ l) (head_part s))))

-- the line ends behind the code
pub head_line : (s : List ℕ) → length (head s) + length (first_line (drop (length (head s)) s)) ≡ length (first_line s)
head_line [] = refl
head_line (b ∷ s) =
    by_test (is "\n" b) (λ e. simp e) (λ e. by_test (is " " b) (λ f. simp (e, f) (omega arith)) (λ f. simp (e, f) (omega (arith, head_line s))))

pub head_short : (s : List ℕ) → length (head s) ≤ length s
head_short s = omega (arith, head_line s, first_short s)

-- the first line, and what stands behind it
lines_more : (b : ℕ) (t l : List ℕ) → lines_of t ≡ l ∷ lines_of (drop (suc (length l)) t) → onto b (lines_of t) ≡ (b ∷ l) ∷ lines_of (drop (suc (length (b ∷ l))) (b ∷ t))
lines_more b t l h = ap (onto b) h

pub lines_cons : (s : List ℕ) → 0 < length s → lines_of s ≡ first_line s ∷ lines_of (drop (suc (length (first_line s))) s)
lines_cons [] h = absurd (omega arith)
lines_cons (b ∷ []) h = by_test (is "\n" b) (λ e. simp e) (λ e. simp e)
lines_cons (b ∷ x ∷ s) h =
    by_test (is "\n" b) (λ e. simp e) (λ e. simp e (lines_more b (x ∷ s) (first_line (x ∷ s)) (lines_cons (x ∷ s) (omega arith))))

-- the code of the first line, and the codes behind that line
pub codes_cons : (s : List ℕ) (end line : ℕ) → 0 < length s → end ≡ length (head s) → line ≡ end + length (first_line (drop end s)) →
    codes_ahead s ≡ take end s ∷ codes_ahead (drop (line + 1) s)
codes_cons s end line h e l =
    let n : suc (length (first_line s)) ≡ line + 1 = omega (arith, ap (λ (m : ℕ). m + length (first_line (drop m s))) e, head_line s) in
    ap (map up_to_blank) (lines_cons s h) ∙ ap₂ (λ (c : List ℕ) (t : List ℕ). c ∷ codes_ahead t) (sym (head_part s) ∙ ap (λ (m : ℕ). take m s) (sym e)) (ap (λ (m : ℕ). drop m s) n)

-- what is behind a place, as Rattle has it of a slice
pub take_rest : (s : List ℕ) (n : ℕ) → take (length s - n) (drop n s) ≡ drop n s
take_rest s n = grind (arith, common_steps)

-- there are never more lines than bytes
onto_length : (b : ℕ) (ls : List (List ℕ)) → length (onto b ls) ≤ suc (length ls)
onto_length b [] = omega arith
onto_length b (l ∷ ls) = omega arith

pub lines_short : (s : List ℕ) → length (codes_ahead s) ≤ length s
lines_short s = omega (arith, length-map (lines_of s) up_to_blank, short s)
  where
    short : (t : List ℕ) → length (lines_of t) ≤ length t
    short [] = omega arith
    short (b ∷ t) = by_test (is "\n" b) (λ e. simp e (omega (arith, short t))) (λ e. simp e (omega (arith, short t, onto_length b (lines_of t))))

pub sizes_long : (sizes s : List ℕ) → length (codes_in sizes s) ≡ length sizes
sizes_long [] s = refl
sizes_long (n ∷ ns) s = ap suc (sizes_long ns (drop n s))
