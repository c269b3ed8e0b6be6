-- Every step of Articles 17 and 18, both sides of each figure, the refusals of the longer form, and wrong readings that the cases refute.
-- Assumes nothing.
use Rattle.std.specs.Prelude.{ℕ, ◌+◌, ◌≡◌, refl, List, [], ◌∷◌, false, cond, ◌&&◌, leb, ltb, Option, Some, None}
use Rattle.rules.specs.declared.Rate.{Rate}
use Rattle.rules.specs.Figures.{written_of, figure_of}
use Rattle.rules.specs.Report.{digits}
use Rattle.days.specs.declared.Mark.{Mark}
use Rattle.days.specs.declared.Mark.TheVariants.{Unlocked, Up, Down}
use Rattle.days.specs.declared.Day.{Day}
use Rattle.days.specs.Lines.{lines_of}
use Rattle.days.specs.Day.{interest_of, judged_day, limit_of, tail_of, long_of, day_of}
use Rattle.days.specs.Listed.{days_from, list_of, verdict_of, judge}
use Rattle.locks.specs.declared.Raise.{Raise}
use Rattle.locks.specs.declared.Raise.TheVariants.{Holds, Fails, NoDay, NoLimit, NoNextLimit}
use Rattle.locks.specs.declared.Step.{Step}
use Rattle.locks.specs.declared.Step.TheVariants.{NotLocked, First, Same, Reverse}
use Rattle.locks.specs.Ladder.{raise_of, step_by, running, step_on, steps}
use Rattle.locks.specs.Listing.{day_line, listed, listing}
use Rattle.days_cases.specs.Case.{Case, prints, AllHold, done, ◌&◌, so, climbs_by}

abbrev pub raise_three : Case
raise_three = prints "exactly three points" "gold\n1.00 1 U 7.000\n1.00 1 - 10.000\n" "days 2\n1 first holds\n2 none\n"

abbrev pub reversed : Case
reversed = prints "a reverse lock is not checked" "gold\n1.00 1 U 7.000\n1.00 1 D 10.000\n1.00 1 - 13.000\n" "days 3\n1 first holds\n2 reverse\n3 none\n"

abbrev pub broken : Case
broken = prints "an unlocked day between locks" "gold\n1.00 1 U 7.000\n1.00 1 - 10.000\n1.00 1 U 7.000\n1.00 1 U 10.000\n" "days 4\n1 first holds\n2 none\n3 first holds\n4 same 2\n"

abbrev pub zero_marked : Case
zero_marked = prints "31 before 32 in a line" "gold\n1.00 0 x 7.000\n" "refused 31 at 1\n"

unfoldable pub table : List Case
table =
    prints "no days" "silver\n" "days 0\n" ∷
    prints "no day is locked" "gold\n1.00 1 - 7.000\n1.00 1 - -\n" "days 2\n1 none\n2 none\n" ∷
    prints "a lock on the only day" "gold\n1.00 1 D 7.000\n" "days 1\n1 first no-day\n" ∷
    prints "no day follows, and the limit is missing" "gold\n1.00 1 U -\n" "days 1\n1 first no-day\n" ∷
    prints "the limit is missing" "gold\n1.00 1 U -\n1.00 1 - 10.000\n" "days 2\n1 first no-limit\n2 none\n" ∷
    prints "both limits are missing" "gold\n1.00 1 U -\n1.00 1 - -\n" "days 2\n1 first no-limit\n2 none\n" ∷
    prints "the limit of the next day is missing" "gold\n1.00 1 U 7.000\n1.00 1 - -\n" "days 2\n1 first no-next-limit\n2 none\n" ∷
    raise_three ∷
    prints "a thousandth short of three points" "gold\n1.00 1 U 7.000\n1.00 1 - 9.999\n" "days 2\n1 first fails\n2 none\n" ∷
    prints "exactly six points" "gold\n1.00 1 D 7.000\n1.00 1 - 13.000\n" "days 2\n1 first holds\n2 none\n" ∷
    prints "a thousandth above six points" "gold\n1.00 1 D 7.000\n1.00 1 - 13.001\n" "days 2\n1 first fails\n2 none\n" ∷
    prints "a limit that stays" "gold\n1.00 1 U 7.000\n1.00 1 - 7.000\n" "days 2\n1 first fails\n2 none\n" ∷
    prints "a limit that goes down" "gold\n1.00 1 U 10.000\n1.00 1 - 7.000\n" "days 2\n1 first fails\n2 none\n" ∷
    prints "the next day is locked the other way, and the check is the same" "gold\n1.00 1 D 7.000\n1.00 1 U 12.000\n1.00 1 - 7.000\n" "days 3\n1 first holds\n2 reverse\n3 none\n" ∷
    prints "four days running, on a day by itself, and down" "gold\n1.00 1 U 7.000\n1.00 1 U 10.000\n1.00 1 U 17.000\n1.00 1 U 17.000\n1.00 1 - 7.000\n1.00 1 D 7.000\n1.00 1 D 11.000\n" "days 7\n1 first holds\n2 same 2\n3 same 3\n4 same 4\n5 none\n6 first holds\n7 same 2\n" ∷
    reversed ∷
    prints "the reverse of a reverse, and runs behind reverses" "gold\n1.00 1 U 7.000\n1.00 1 D 10.000\n1.00 1 U 13.000\n1.00 1 U 13.000\n1.00 1 D 13.000\n1.00 1 D 13.000\n1.00 1 D 13.000\n" "days 7\n1 first holds\n2 reverse\n3 reverse\n4 same 2\n5 reverse\n6 same 2\n7 same 3\n" ∷
    broken ∷
    prints "the short form" "gold\n1.00 1\n" "refused 33 at 1\n" ∷
    prints "no limit" "gold\n1.00 1 U\n" "refused 33 at 1\n" ∷
    prints "an empty limit" "gold\n1.00 1 U \n" "refused 33 at 1\n" ∷
    prints "a blank at the end" "gold\n1.00 1 U 7.000 \n" "refused 33 at 1\n" ∷
    prints "two marks" "gold\n1.00 1 UD 7.000\n" "refused 33 at 1\n" ∷
    prints "no mark" "gold\n1.00 1  7.000\n" "refused 33 at 1\n" ∷
    prints "a digit as the mark" "gold\n1.00 1 1 7.000\n" "refused 33 at 1\n" ∷
    prints "two decimals of a limit" "gold\n1.00 1 U 7.00\n" "refused 33 at 1\n" ∷
    prints "a zero limit" "gold\n1.00 1 U 0.000\n" "refused 33 at 1\n" ∷
    prints "a comma in a limit" "gold\n1.00 1 U 7,000\n" "refused 33 at 1\n" ∷
    prints "another letter as the mark" "gold\n1.00 1 - 7.000\n1.00 1 X 7.000\n" "refused 32 at 2\n" ∷
    prints "a small letter as the mark" "gold\n1.00 1 u -\n" "refused 32 at 1\n" ∷
    zero_marked ∷
    prints "33 before 32 in a line" "gold\n1.00 1 x 7\n" "refused 33 at 1\n" ∷
    prints "33 before 31 in a line" "gold\n0.00 1 U\n" "refused 33 at 1\n" ∷
    prints "the first bad line" "gold\n1.00 1 x 7.000\nx\n" "refused 32 at 1\n" ∷ []

pub hold : AllHold listing table
unfolding table listing judge verdict_of list_of days_from lines_of day_of long_of tail_of limit_of judged_day interest_of figure_of written_of steps listed day_line digits
hold =
    so & so & so & so & so & so & so & so & so & so & so & so & so & so & so & so & so & so & so & so &
    so & so & so & so & so & so & so & so & so & so & so & so & so & so & done

-- Wrong readings, each the right one but for what its name says.

-- each day's step in another way, by the mark of the day before, the days running on it, the day and the days after it
abbrev pub steps_by : (Mark → ℕ → Day → List Day → Step) → Mark → ℕ → List Day → List Step
steps_by on before days [] = []
steps_by on before days (d ∷ ds) = on before days d ds ∷ steps_by on d.mark (running (on before days d ds)) ds

abbrev pub checked_too : Raise → Step → Step
checked_too raise NotLocked = NotLocked
checked_too raise (First came) = First came
checked_too raise (Same days) = Same days
checked_too raise Reverse = First raise

abbrev pub reverse_checked : List Day → List Step
reverse_checked ds = steps_by (λ before days d rest. checked_too (raise_of d.limit rest) (step_on before days d rest)) Unlocked 0 ds

abbrev pub above_three : Rate → Option Rate → Raise
above_three from None = NoNextLimit
above_three from (Some to) = cond (ltb (from.0 + 3_000) to.0 && leb to.0 (from.0 + 6_000)) Holds Fails

abbrev pub more_than_three : Option Rate → List Day → Raise
more_than_three limit [] = NoDay
more_than_three None (next ∷ ds) = NoLimit
more_than_three (Some from) (next ∷ ds) = above_three from next.limit

abbrev pub three_not_allowed : List Day → List Step
three_not_allowed ds = steps_by (λ before days d rest. step_by before d.mark days (more_than_three d.limit rest)) Unlocked 0 ds

-- the mark of the last lock
abbrev pub last_lock : Mark → Mark → Mark
last_lock before Unlocked = before
last_lock before Up = Up
last_lock before Down = Down

-- the days running as they were, over a day that is not locked
abbrev pub kept_over : Mark → ℕ → Step → ℕ
kept_over Unlocked days step = days
kept_over Up days step = running step
kept_over Down days step = running step

abbrev pub over_unlocked : Mark → ℕ → List Day → List Step
over_unlocked before days [] = []
over_unlocked before days (d ∷ ds) = step_on before days d ds ∷ over_unlocked (last_lock before d.mark) (kept_over d.mark days (step_on before days d ds)) ds

pub a_reverse_checked : climbs_by reverse_checked reversed ≡ false
unfolding judge verdict_of list_of days_from lines_of day_of long_of tail_of limit_of judged_day interest_of figure_of written_of steps listed day_line digits
a_reverse_checked = refl

pub three_points_not_allowed : climbs_by three_not_allowed raise_three ≡ false
unfolding judge verdict_of list_of days_from lines_of day_of long_of tail_of limit_of judged_day interest_of figure_of written_of steps listed day_line digits
three_points_not_allowed = refl

pub a_run_over_an_unlocked_day : climbs_by (over_unlocked Unlocked 0) broken ≡ false
unfolding judge verdict_of list_of days_from lines_of day_of long_of tail_of limit_of judged_day interest_of figure_of written_of steps listed day_line digits
a_run_over_an_unlocked_day = refl
