-- docs/MOVES.md. Request [11]: "a list (first line gold or silver, then at most 2,000 days, one line each ..; a line feed ends each line)".
-- Assumes nothing.
use Rattle.std.specs.Prelude.{ℕ, suc, List, [], ◌∷◌, Bool, cond, ltb, Result, Ok, Err}
use Rattle.rules.specs.Text.{bytes}
use Rattle.rules.specs.Codes.{same}
use Rattle.days.specs.declared.Metal.{Metal}
use Rattle.days.specs.declared.Metal.TheVariants.{Gold, Silver}
use Rattle.days.specs.declared.Day.{Day}
use Rattle.days.specs.declared.refusal.ListRule.{ListRule}
use Rattle.days.specs.declared.refusal.ListRule.TheVariants.{NoDay}
use Rattle.days.specs.Refusal as refusal
use Rattle.days.specs.Refusal.{number_of}
use Rattle.days.specs.Lines.{Line, Whole, Cut, lines_of, feeds}
use Rattle.days.specs.Day.{day_of}

-- the days of some lines, or the first refusal and its place
pub data Days : Type 0 where
  All : List Day → Days
  Stop : ListRule → ℕ → Days

abbrev pub before : Day → Days → Days
before d (All ds) = All (d ∷ ds)
before d (Stop rule place) = Stop rule place

-- "then the first bad line decides, with the day's number"
abbrev pub first_of : Result Day ListRule → ℕ → Days → Days
first_of (Err rule) k rest = Stop rule k
first_of (Ok d) k rest = before d rest

-- the lines from day k on
unfoldable pub days_from : Bool → ℕ → List Line → Days
days_from long k [] = All []
days_from long k (Cut v ∷ ls) = Stop NoDay k
days_from long k (Whole v ∷ ls) = first_of (day_of long v) k (days_from long (suc k) ls)

pub data Verdict : Type 0 where
  Refused : ℕ → ℕ → Verdict
  Accepted : Metal → List Day → Verdict

abbrev pub of_metal : Metal → Days → Verdict
of_metal metal (All ds) = Accepted metal ds
of_metal metal (Stop rule place) = Refused (number_of rule) place

-- "(0 for the first line)"
abbrev pub no_list : Verdict
no_list = Refused refusal.no_day 0

-- "first line gold or silver"
abbrev pub headed : List Line → (Metal → List Line → Verdict) → Verdict
headed [] next = no_list
headed (Cut v ∷ ls) next = no_list
headed (Whole v ∷ ls) next = cond (same v (bytes "gold")) (next Gold ls) (cond (same v (bytes "silver")) (next Silver ls) no_list)

unfoldable pub list_of : Bool → List Line → Verdict
list_of long ls = headed ls λ metal days. of_metal metal (days_from long 1 days)

-- "30 (place 0) over 2,001 line feeds; then ..": so many line feeds in all
unfoldable pub verdict_of : Bool → ℕ → List ℕ → Verdict
verdict_of long total s = cond (ltb 2_001 total) (Refused refusal.too_many_days 0) (list_of long (lines_of s))

-- what a list comes to
unfoldable pub judge : Bool → List ℕ → Verdict
judge long s = verdict_of long (feeds s) s
