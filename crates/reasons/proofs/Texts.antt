-- A text from i on, as a loop that counts by one reads it; the part of a text that is its first line; and the first place that a search finds.
-- Assumes nothing.
use Rattle.std.proofs.Common.{◌≡◌, ◌∙◌, ℕ, ◌+◌, ◌-◌, ◌<◌, ◌≤◌, Bool, not, ltb, List, [], ◌∷◌, length, get_or, take, drop, Option, refl, ap, add-one, arith, length-drop, drop-cons, ltb-false}
use Rattle.std.specs.Option.{unwrap_or}
use Rattle.std.specs.List.{position, position_or_len}
use Rattle.std.proofs.lemmas.List.Sums.{prefix_len-le-length}
use Rattle.rules.specs.Text.{is}
use Rattle.laws.specs.ByTest.{by_test}
use Rattle.reasons.specs.Lines.{first_line, behind_lines, line_of}

pub drop_step : (v : List ℕ) (i : ℕ) → i < length v → drop i v ≡ get_or v i 0 ∷ drop (i + 1) v
drop_step v i h = rw (add-one, drop-cons v i 0)

pub first_short : (s : List ℕ) → length (first_line s) ≤ length s
first_short [] = omega arith
first_short (b ∷ s) = by_test (is "\n" b) (λ e. simp e (omega arith)) (λ e. simp e (omega (arith, first_short s)))

pub first_part : (s : List ℕ) → take (length (first_line s)) s ≡ first_line s
first_part [] = refl
first_part (b ∷ s) = by_test (is "\n" b) (λ e. simp e) (λ e. simp e (ap (λ (l : List ℕ). b ∷ l) (first_part s)))

-- no line is to be passed any more
pub all_left : (k : ℕ) (s : List ℕ) → k ≡ 0 → behind_lines k s ≡ s
all_left k [] e = refl
all_left k (b ∷ s) e = simp e

-- the part of a text between the place behind k lines and the end of the line there
module _ (text : List ℕ) (k from end : ℕ) (b : drop from text ≡ behind_lines k text) (h : from ≤ length text)
    (e : end ≡ from + length (first_line (drop from text))) where
  pub line_within : end ≤ length text
  line_within = omega (arith, first_short (drop from text), length-drop from text)

  pub line_part : take (end - from) (drop from text) ≡ line_of k text
  unfolding line_of
  line_part =
      let n : end - from ≡ length (first_line (drop from text)) = omega arith in
      ap (λ (m : ℕ). take m (drop from text)) n ∙ first_part (drop from text) ∙ ap first_line b

-- the place that a search found, or the end where it found none
pub place_or_end : (test : ℕ → Bool) (s : List ℕ) (found : Option ℕ) (r : ℕ) → found ≡ position test s → r ≡ unwrap_or found (length s) → r ≡ position_or_len test s
place_or_end test s found r e h =
    let p = position_or_len test s in
    by_test (ltb p (length s))
    (λ t. h ∙ rw e (simp t))
    (λ t. h ∙ rw e (simp t (omega (arith, ltb-false p (length s) t, prefix_len-le-length (λ x. not (test x)) s))))
