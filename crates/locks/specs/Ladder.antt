-- docs/MOVES.md. Articles 17 and 18 of document 000, in the words of request [12]: the step of each day.
-- Assumes nothing.
use Rattle.std.specs.Prelude.{ℕ, suc, ◌+◌, List, [], ◌∷◌, Bool, cond, ◌&&◌, leb, Option, Some, None}
use Rattle.rules.specs.declared.Rate.{Rate}
use Rattle.days.specs.declared.Mark.{Mark}
use Rattle.days.specs.declared.Mark.TheVariants.{Unlocked, Up, Down}
use Rattle.days.specs.declared.Day.{Day}
use Rattle.locks.specs.declared.Raise.{Raise}
use Rattle.locks.specs.declared.Raise.TheVariants.{Holds, Fails, NoDay, NoLimit, NoNextLimit}
use Rattle.locks.specs.declared.Step.{Step}
use Rattle.locks.specs.declared.Step.TheVariants.{NotLocked, First, Same, Reverse}

-- "Article 18's raise of three to six percentage points from the locked day's limit to the next day's .., both ends allowed"; limits are in
-- thousandths of a percent
abbrev pub raised : ℕ → ℕ → Bool
raised from to = leb (from + 3_000) to && leb to (from + 6_000)

-- ".. or else the locked or the next day's limit is missing, the first of these is named"
abbrev pub checked : Option Rate → Option Rate → Raise
checked None next = NoLimit
checked (Some from) None = NoNextLimit
checked (Some from) (Some to) = cond (raised from.0 to.0) Holds Fails

-- "If no day follows ..": the check of a locked day with this limit, by the days after it
abbrev pub raise_of : Option Rate → List Day → Raise
raise_of limit [] = NoDay
raise_of limit (next ∷ ds) = checked limit next.limit

-- Article 17, by the mark of the day before and the day's own: "limit-locked in the same trading direction for two consecutive trading days", or "on
-- the trading day following a Limit-Locked Market day, the contract is limit-locked in the opposite trading direction". "a first lock, a same direction
-- lock (with how many days running) or a reverse direction lock"; so many days were running on the day before. "When a lock is the first of a run and
-- not a reverse, Article 18's raise .. is checked"
abbrev pub step_by : Mark → Mark → ℕ → Raise → Step
step_by before Unlocked days raise = NotLocked
step_by Unlocked Up days raise = First raise
step_by Up Up days raise = Same (suc days)
step_by Down Up days raise = Reverse
step_by Unlocked Down days raise = First raise
step_by Up Down days raise = Reverse
step_by Down Down days raise = Same (suc days)

-- "how many days running", the first lock counted as 1; "A reverse day starts its own run at 1"
abbrev pub running : Step → ℕ
running NotLocked = 0
running (First raise) = 1
running (Same days) = days
running Reverse = 1

-- a day's step, by the mark of the day before, the days running on it, and the days after the day
abbrev pub step_on : Mark → ℕ → Day → List Day → Step
step_on before days d ds = step_by before d.mark days (raise_of d.limit ds)

-- "say for each day ..": the steps of some days, in their order
abbrev pub steps_from : Mark → ℕ → List Day → List Step
steps_from before days [] = []
steps_from before days (d ∷ ds) = step_on before days d ds ∷ steps_from d.mark (running (step_on before days d ds)) ds

-- before day 1 no day is locked
unfoldable pub steps : List Day → List Step
steps ds = steps_from Unlocked 0 ds
