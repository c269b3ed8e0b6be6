-- The days from a place on, by what stands there.
-- Assumes nothing.
use Rattle.std.specs.Prelude.{ℕ, suc, ◌≡◌, refl, Bool, List, [], ◌∷◌, map, drop, Option, Some, None, Result, Ok, Err}
use Rattle.std.proofs.Common.{sym, ap, ◌∙◌, arith}
use Rattle.days.specs.declared.Day.{Day}
use Rattle.days.specs.declared.NextDay.{NextDay}
use Rattle.days.specs.declared.refusal.ListRule.{ListRule}
use Rattle.days.specs.Lines.{Line, Whole, Cut, lines_of}
use Rattle.days.specs.Day.{day_of}
use Rattle.days.specs.Listed.{Days, All, Stop, before, first_of, days_from}
use Rattle.days.specs.Places.{next_of, then_of, days_in, days_at, days_of}
use Rattle.days.specs.Steps.{days_after, days_next}

before_all : (d : Day) (r : Days) (rest : List Day) → before d r ≡ All rest → (ds : List Day) × (r ≡ All ds) × (rest ≡ d ∷ ds)
before_all d (All ds) rest h = (ds, refl, cc)
before_all d (Stop rule place) rest h = absurd (let z : ◌≡◌ {A = ℕ} 0 1 = cc in omega arith)

module _ (long : Bool) (s : List ℕ) (at k : ℕ) {rest : List Day} (read : days_from long k (lines_of (drop at s)) ≡ All rest) where
  next_read : (n : Option (Result NextDay ListRule)) → next_of long s at ≡ n → days_after long k s n ≡ All rest
  next_read n e = sym (ap (days_after long k s) e) ∙ sym (days_next long s at k) ∙ read

  pub not_refused : (rule : ListRule) → next_of long s at ≡ Some (Err rule) → ⊥
  not_refused rule e = let q = next_read (Some (Err rule)) e in let z : ◌≡◌ {A = ℕ} 0 1 = cc in omega arith

  pub no_day_left : next_of long s at ≡ None → rest ≡ []
  no_day_left e = let q = next_read None e in cc

  pub one_passed : (n : NextDay) → next_of long s at ≡ Some (Ok n) → (ds : List Day) × (days_from long (suc k) (lines_of (drop n.next s)) ≡ All ds) × (rest ≡ n.day ∷ ds)
  one_passed n e = before_all n.day (days_from long (suc k) (lines_of (drop n.next s))) rest (next_read (Some (Ok n)) e)

-- what is read of lines that are all days
pub all_read : (long : Bool) (k : ℕ) (ls : List Line) (ds : List Day) → days_from long k ls ≡ All ds → days_in long ls ≡ map Ok ds
unfolding days_from
all_read long k [] ds h = let e : [] ≡ ds = cc in ap (map Ok) e
all_read long k (Cut v ∷ ls) ds h = absurd (let z : ◌≡◌ {A = ℕ} 0 1 = cc in omega arith)
all_read long k (Whole v ∷ ls) ds h = go (day_of long v) h (λ es e. all_read long (suc k) ls es e)
  where
    go : (r : Result Day ListRule) → first_of r k (days_from long (suc k) ls) ≡ All ds → ((es : List Day) → days_from long (suc k) ls ≡ All es → days_in long ls ≡ map Ok es) →
        then_of r (days_in long ls) ≡ map Ok ds
    go (Ok d) e more = let (es, a, b) = before_all d (days_from long (suc k) ls) ds e in rw (b, more es a)
    go (Err rule) e more = absurd (let z : ◌≡◌ {A = ℕ} 0 1 = cc in omega arith)

pub all_left : (long : Bool) (s : List ℕ) (at : ℕ) (ds : List Day) → days_from long 1 (lines_of (drop at s)) ≡ All ds → days_at long s at ≡ map Ok ds
unfolding days_at
all_left long s at ds h = all_read long 1 (lines_of (drop at s)) ds h

pub days_good : (ds : List Day) → days_of (map Ok ds) ≡ ds
days_good [] = refl
days_good (d ∷ ds) = ap (λ (l : List Day). d ∷ l) (days_good ds)
