-- What begins at a place, by where the next line feed stands; and the first line.
-- Assumes nothing.
use Rattle.std.specs.Prelude.{ℕ, ◌+◌, ◌-◌, ◌≤◌, ◌<◌, ◌≡◌, refl, Bool, cond, List, [], ◌∷◌, length, take, drop, Option, Some, None, option_map, Result, Ok, Err, position}
use Rattle.std.proofs.Common.{sym, ap, ◌∙◌, arith, length-drop, drop_of_length-le}
use Rattle.std.specs.Result.{MatchResult, IsOkAnd, is_ok}
use Rattle.std.proofs.lemmas.List.{take_all}
use Rattle.rules.specs.Text.{is}
use Rattle.rules.specs.Figures.{up_to, after}
use Rattle.days.specs.declared.Metal.{Metal}
use Rattle.days.specs.declared.Day.{Day}
use Rattle.days.specs.declared.NextDay.{NextDay}
use Rattle.days.specs.declared.refusal.ListRule.{ListRule}
use Rattle.days.specs.declared.refusal.ListRule.TheVariants.{NoDay}
use Rattle.days.specs.Lines.{Whole, lines_of}
use Rattle.days.specs.Day.{day_of}
use Rattle.days.specs.Places.{metal_of, found_at, next_in, next_of, head_in, head_of, then_of, days_in, days_at}
use Rattle.days.specs.Heads.{head}
use Rattle.days.specs.Steps.{Shape, none, cut, whole, shape, lines_cut, lines_whole, after_at}
use Rattle.days.proofs.Firsts.{first_some, first_none, front_some}

pub to_end : (s : List ℕ) (at : ℕ) → take (length s - at) (drop at s) ≡ drop at s
to_end s at = take_all (length s - at) (drop at s) (simp length-drop (omega arith))

-- a line feed stands at r
first_line : (t : List ℕ) (r : ℕ) → position (is "\n") t ≡ Some r → lines_of t ≡ Whole (take r t) ∷ lines_of (after "\n" t)
first_line t r e =
    let p = first_some "\n" t r e in
    lines_whole t (omega arith) ∙ ap (λ (v : List ℕ). Whole v ∷ lines_of (after "\n" t)) (sym (front_some "\n" t r e))

line_size : (t : List ℕ) (r : ℕ) → position (is "\n") t ≡ Some r → length (take r t) ≡ r
line_size t r e = ap length (front_some "\n" t r e) ∙ sym (first_some "\n" t r e).0

-- the first line
module _ (s : List ℕ) where
  unended : length (up_to "\n" s) ≡ length s → None ≡ head_of s
  unfolding head_of lines_of
  unended h = go (shape s)
    where
      go : Shape s → None ≡ head_in (lines_of s)
      go (none e) = rw e
      go (cut p e l) = rw l
      go (whole p l) = absurd (omega arith)

  pub head_none : position (is "\n") s ≡ None → None ≡ head_of s
  head_none e = unended (first_none "\n" s e)

  pub head_by : (r : ℕ) → position (is "\n") s ≡ Some r → (m : Option Metal) → metal_of (take r s) ≡ m → option_map (λ metal. head metal (r + 1)) m ≡ head_of s
  unfolding head_of
  head_by r e m h =
      sym (ap head_in (first_line s r e) ∙ ap (λ (n : ℕ). option_map (λ metal. head metal (n + 1)) (metal_of (take r s))) (line_size s r e) ∙ ap (option_map (λ metal. head metal (r + 1))) h)

module _ (long : Bool) (s : List ℕ) (at : ℕ) where
  pub next_none : length s ≤ at → None ≡ next_of long s at
  unfolding next_of lines_of
  next_none h = sym (rw (drop_of_length-le s {i = at} h))

  module _ (t : List ℕ) (rest : t ≡ drop at s) where
    pub next_cut : 0 < length t → position (is "\n") t ≡ None → Some (Err NoDay) ≡ next_of long s at
    unfolding next_of
    next_cut h e = sym (rw (← rest, lines_cut t h (first_none "\n" t e)))

    pub next_whole : (r : ℕ) → position (is "\n") t ≡ Some r → found_at (at + r + 1) (day_of long (take r t)) ≡ next_of long s at
    unfolding next_of
    next_whole r e = sym (rw (← rest, first_line t r e) (ap (λ (n : ℕ). found_at (at + n + 1) (day_of long (take r t))) (line_size t r e)))

-- the days that are read from a place on, by what begins there
abbrev days_by : Bool → List ℕ → Option (Result NextDay ListRule) → List (Result Day ListRule)
days_by long s None = []
days_by long s (Some (Ok f)) = Ok f.day ∷ days_at long s f.next
days_by long s (Some (Err rule)) = Err rule ∷ []

module _ (long : Bool) (s : List ℕ) where
  then_by : (next : ℕ) (r : Result Day ListRule) → then_of r (days_at long s next) ≡ days_by long s (found_at next r)
  then_by next (Ok d) = refl
  then_by next (Err rule) = refl

  days_begin : (at : ℕ) → days_at long s at ≡ days_by long s (next_of long s at)
  unfolding days_at next_of lines_of
  days_begin at = go (shape (drop at s))
    where
      go : Shape (drop at s) → days_in long (lines_of (drop at s)) ≡ days_by long s (next_in long at (lines_of (drop at s)))
      go (none e) = rw e
      go (cut h e l) = rw l
      go (whole h l) =
          let u = up_to "\n" (drop at s) in
          rw (l, after_at s at) (then_by (at + length u + 1) (day_of long u))

  days_none : (at : ℕ) → length s ≤ at → days_at long s at ≡ []
  unfolding days_at lines_of
  days_none at h = rw (drop_of_length-le s {i = at} h)

  module _ (at : ℕ) where
    pub left_none : next_of long s at ≡ None → days_at long s at ≡ []
    left_none e = days_begin at ∙ ap (days_by long s) e

    pub left_found : (f : NextDay) → next_of long s at ≡ Some (Ok f) → days_at long s at ≡ Ok f.day ∷ days_at long s f.next
    left_found f e = days_begin at ∙ ap (days_by long s) e

    pub left_refused : (rule : ListRule) → next_of long s at ≡ Some (Err rule) → days_at long s at ≡ Err rule ∷ days_at long s (length s)
    left_refused rule e = days_begin at ∙ ap (days_by long s) e ∙ rw (days_none (length s) (omega arith))

    -- what a line comes to, and the place from which the next is read: that behind the line, or the end
    pub left_line : (n : ℕ) (r : Result Day ListRule) → found_at n r ≡ next_of long s at → (x : ℕ) → x ≡ cond (is_ok r) n (length s) →
        days_at long s at ≡ r ∷ days_at long s x
    left_line n (Ok d) e x h = left_found (record { day = d; next = n }) (sym e) ∙ ap (λ m. Ok d ∷ days_at long s m) (sym h)
    left_line n (Err rule) e x h = left_refused rule (sym e) ∙ ap (λ m. Err rule ∷ days_at long s m) (sym h)

-- the day of a line, with the place of the next
pub mapped : (n : ℕ) (r : Result Day ListRule) (q : Result NextDay ListRule) → MatchResult r (λ x. IsOkAnd q (λ y. y ≡ record { day = x; next = n })) (λ e. q ≡ Err e) → Some q ≡ found_at n r
mapped n (Ok d) (Ok f) e = rw e
mapped n (Ok d) (Err rule) e = absurd e
mapped n (Err rule) q e = ap Some e
