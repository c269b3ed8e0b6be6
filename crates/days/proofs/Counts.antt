-- Days counted from the front: what was counted, and what is left to read.
-- Assumes nothing.
use Rattle.std.specs.Prelude.{ℕ, suc, ◌+◌, ◌≤◌, ◌≡◌, refl, Bool, List, [], ◌∷◌, length, drop, Result, Ok, Err}
use Rattle.std.proofs.Common.{sym, ap, ◌∙◌, arith, add-zero, add-one, length-drop}
use Rattle.rules.specs.Text.{is}
use Rattle.laws.specs.ByTest.{by_test}
use Rattle.days.specs.declared.Day.{Day}
use Rattle.days.specs.declared.refusal.Refusal.{Refusal}
use Rattle.days.specs.declared.refusal.ListRule.{ListRule}
use Rattle.days.specs.Lines.{Line, Whole, Cut, longer, lines_of}
use Rattle.days.specs.Day.{day_of}
use Rattle.days.specs.Listed.{Days, All, Stop, before, first_of, days_from}
use Rattle.days.specs.Places.{then_of, days_in, days_at, count_of}

-- so many days, and those that are left
abbrev pub counted : ℕ → List (Result Day ListRule) → Result ℕ Refusal
counted n [] = Ok n
counted n (Ok d ∷ rest) = counted (n + 1) rest
counted n (Err rule ∷ rest) = Err (record { rule = rule; place = n + 1 })

-- so many days more
abbrev more_days : ℕ → Result ℕ Refusal → Result ℕ Refusal
more_days n (Ok m) = Ok (n + m)
more_days n (Err refusal) = Err refusal

one_more : (n : ℕ) (d : Day) (r : Days) → more_days (n + 1) (count_of r) ≡ more_days n (count_of (before d r))
one_more n d (All ds) = let e : n + 1 + length ds ≡ n + suc (length ds) = omega arith in ap Ok e
one_more n d (Stop rule place) = refl

module _ (long : Bool) where
  counted_from : (n : ℕ) (ls : List Line) → counted n (days_in long ls) ≡ more_days n (count_of (days_from long (suc n) ls))
  unfolding days_from
  counted_from n [] = ap Ok (sym (add-zero n))
  counted_from n (Cut v ∷ ls) = rw add-one
  counted_from n (Whole v ∷ ls) = go (day_of long v) (counted_from (n + 1) ls)
    where
      go : (r : Result Day ListRule) → counted (n + 1) (days_in long ls) ≡ more_days (n + 1) (count_of (days_from long (suc (n + 1)) ls)) →
          counted n (then_of r (days_in long ls)) ≡ more_days n (count_of (first_of r (suc n) (days_from long (suc (suc n)) ls)))
      go (Ok d) h = h ∙ one_more n d (days_from long (suc (n + 1)) ls) ∙ rw add-one
      go (Err rule) h = rw add-one

  none_more : (r : Result ℕ Refusal) → more_days 0 r ≡ r
  none_more (Ok m) = let e : 0 + m ≡ m = omega arith in ap Ok e
  none_more (Err refusal) = refl

  pub counted_all : (s : List ℕ) (at : ℕ) → counted 0 (days_at long s at) ≡ count_of (days_from long 1 (lines_of (drop at s)))
  unfolding days_at
  counted_all s at = counted_from 0 (lines_of (drop at s)) ∙ none_more _

  few_in : (ls : List Line) → length (days_in long ls) ≤ length ls
  few_in [] = omega arith
  few_in (Cut v ∷ ls) = omega arith
  few_in (Whole v ∷ ls) = go (day_of long v) (few_in ls)
    where
      go : (r : Result Day ListRule) → length (days_in long ls) ≤ length ls → length (then_of r (days_in long ls)) ≤ suc (length ls)
      go (Ok d) h = omega arith
      go (Err rule) h = omega arith

  -- no more than there are bytes
  few_longer : (x : ℕ) (ls : List Line) → length (longer x ls) ≤ suc (length ls)
  few_longer x [] = omega arith
  few_longer x (Whole v ∷ ls) = omega arith
  few_longer x (Cut v ∷ ls) = omega arith

  few_lines : (s : List ℕ) → length (lines_of s) ≤ length s
  unfolding lines_of
  few_lines [] = omega arith
  few_lines (x ∷ s) = by_test (is "\n" x) (λ e. simp e (omega (arith, few_lines s))) (λ e. simp e (omega (arith, few_longer x (lines_of s), few_lines s)))

  pub few_days : (s : List ℕ) (at : ℕ) → length (days_at long s at) ≤ length s
  unfolding days_at
  few_days s at = omega (arith, few_in (lines_of (drop at s)), few_lines (drop at s), length-drop at s)
