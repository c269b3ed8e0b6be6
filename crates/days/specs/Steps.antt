-- The laws that join places and lines: what the lines from a place on are, and what the days from there on are by the day that begins there.
-- Assumes nothing.
use Rattle.std.specs.Prelude.{ℕ, suc, ◌+◌, ◌≤◌, ◌<◌, refl, Bool, List, [], ◌∷◌, ltb, drop, Option, Some, None, Result, Ok, Err}
use Rattle.std.proofs.Math.Path.{◌≡◌}
use Rattle.std.proofs.Common.{sym, ap, ◌∙◌, ltb-true, ltb-false, drop-drop}
use native.Mathlib.Omega.{arith}
use Rattle.std.proofs.Math.ListN.{length, length-drop}
use Rattle.rules.specs.Text.{is}
use Rattle.rules.specs.Figures.{up_to, after}
use Rattle.laws.specs.ByTest.{by_test}
use Rattle.days.specs.declared.Day.{Day}
use Rattle.days.specs.declared.NextDay.{NextDay}
use Rattle.days.specs.declared.refusal.ListRule.{ListRule}
use Rattle.days.specs.Lines.{Whole, Cut, lines_of}
use Rattle.days.specs.Day.{day_of}
use Rattle.days.specs.Listed.{Days, All, Stop, before, first_of, days_from}
use Rattle.days.specs.Places.{found_at, next_in, next_of}
use Rattle.days.specs.Parts.{up_to_most, drop_after}

-- bytes that no line feed ends
pub lines_cut : (t : List ℕ) → 0 < length t → length (up_to "\n" t) ≡ length t → lines_of t ≡ Cut t ∷ []
unfolding lines_of
lines_cut [] h e = absurd (omega arith)
lines_cut (x ∷ []) h e = by_test (is "\n" x) (λ b. absurd (omega (arith, simp b at e))) (λ b. simp b)
lines_cut (x ∷ y ∷ t) h e =
    by_test (is "\n" x)
    (λ b. absurd (omega (arith, simp b at e)))
    (λ b. simp (b, lines_cut (y ∷ t) (omega arith) (omega (arith, simp b at e))))

-- a line, and those after it
pub lines_whole : (t : List ℕ) → length (up_to "\n" t) < length t → lines_of t ≡ Whole (up_to "\n" t) ∷ lines_of (after "\n" t)
unfolding lines_of
lines_whole [] h = absurd (omega arith)
lines_whole (x ∷ t) h =
    by_test (is "\n" x)
    (λ b. simp b)
    (λ b. simp (b, lines_whole t (omega (arith, simp b at h))))

-- the lines of a list, in one of three ways
pub data Shape (t : List ℕ) : Type 0 where
  none : t ≡ [] → Shape t
  cut : 0 < length t → length (up_to "\n" t) ≡ length t → lines_of t ≡ Cut t ∷ [] → Shape t
  whole : length (up_to "\n" t) < length t → lines_of t ≡ Whole (up_to "\n" t) ∷ lines_of (after "\n" t) → Shape t

pub shape : (t : List ℕ) → Shape t
shape [] = none refl
shape (x ∷ t) =
    let s = x ∷ t in
    by_test (ltb (length (up_to "\n" s)) (length s))
    (λ b. let h = ltb-true (length (up_to "\n" s)) (length s) b in whole h (lines_whole s h))
    (λ b.
    let e : length (up_to "\n" s) ≡ length s = omega (arith, ltb-false (length (up_to "\n" s)) (length s) b, up_to_most "\n" s) in
    cut (omega arith) e (lines_cut s (omega arith) e))

-- behind a line that begins at a place
pub after_at : (s : List ℕ) (at : ℕ) → after "\n" (drop at s) ≡ drop (at + length (up_to "\n" (drop at s)) + 1) s
after_at s at =
    let u = length (up_to "\n" (drop at s)) in
    let e : at + suc u ≡ at + u + 1 = omega arith in
    sym (drop_after "\n" (drop at s)) ∙ drop-drop (suc u) at s ∙ ap (λ (n : ℕ). drop n s) e

-- the days from a place on, where day k begins, by what begins there
abbrev pub days_after : Bool → ℕ → List ℕ → Option (Result NextDay ListRule) → Days
days_after long k s None = All []
days_after long k s (Some (Err rule)) = Stop rule k
days_after long k s (Some (Ok n)) = before n.day (days_from long (suc k) (lines_of (drop n.next s)))

first_after : (long : Bool) (k : ℕ) (s : List ℕ) (next : ℕ) (r : Result Day ListRule) →
    first_of r k (days_from long (suc k) (lines_of (drop next s))) ≡ days_after long k s (found_at next r)
first_after long k s next (Ok d) = refl
first_after long k s next (Err rule) = refl

module _ (long : Bool) (s : List ℕ) (at : ℕ) where
  pub days_next : (k : ℕ) → days_from long k (lines_of (drop at s)) ≡ days_after long k s (next_of long s at)
  unfolding next_of days_from lines_of
  days_next k = go (shape (drop at s))
    where
      go : Shape (drop at s) → days_from long k (lines_of (drop at s)) ≡ days_after long k s (next_in long at (lines_of (drop at s)))
      go (none e) = rw e
      go (cut h e l) = rw l
      go (whole h l) =
          let u = up_to "\n" (drop at s) in
          rw (l, after_at s at) (first_after long k s (at + length u + 1) (day_of long u))

  found_at_lem : (t : List ℕ) (n : ℕ) (r : Result Day ListRule) (f : NextDay) → found_at n r ≡ Some (Ok f) → n ≡ f.next
  found_at_lem t n (Ok e) f h = let q : record { day = e; next = n } ≡ f = cc in ap (λ (y : NextDay). y.next) q
  found_at_lem t n (Err m) f h = absurd (let z : ◌≡◌ {A = ℕ} 0 1 = cc in omega arith)

  pub next_bounds : (f : NextDay) → next_of long s at ≡ Some (Ok f) → (at < f.next) × (f.next ≤ length s)
  unfolding next_of lines_of
  next_bounds f = go (shape (drop at s))
    where
      go : Shape (drop at s) → next_in long at (lines_of (drop at s)) ≡ Some (Ok f) → (at < f.next) × (f.next ≤ length s)
      go (none e) h = absurd (let q = rw e at h in let z : ◌≡◌ {A = ℕ} 0 1 = cc in omega arith)
      go (cut p e l) h = absurd (let q = rw l at h in let z : ◌≡◌ {A = ℕ} 0 1 = cc in omega arith)
      go (whole p l) h =
          let u = up_to "\n" (drop at s) in
          let q = found_at_lem s (at + length u + 1) (day_of long u) f (rw l at h) in
          (omega arith, omega (arith, length-drop at s))
