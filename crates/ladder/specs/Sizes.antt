-- How long a listing is: a line of a day has at most 25 bytes, so that 2,000 of them and the first line fit 50,016.
-- Assumes nothing.
use Rattle.std.specs.Prelude.{ℕ, suc, ◌+◌, ◌*◌, ◌≤◌, ◌<◌, ◌≡◌, refl, List, [], ◌∷◌, length}
use Rattle.std.proofs.Common.{ap, arith, length-append}
use Rattle.laws.specs.Digits.{digits_length}
use Rattle.days.specs.declared.Mark.{Mark}
use Rattle.days.specs.declared.Mark.TheVariants.{Unlocked}
use Rattle.days.specs.declared.Day.{Day}
use Rattle.locks.specs.declared.Raise.{Raise}
use Rattle.locks.specs.declared.Raise.TheVariants.{Holds, Fails, NoDay, NoLimit, NoNextLimit}
use Rattle.locks.specs.declared.Step.{Step}
use Rattle.locks.specs.declared.Step.TheVariants.{NotLocked, First, Same, Reverse}
use Rattle.locks.specs.Ladder.{raise_of, running, step_on, steps_from, steps}
use Rattle.locks.specs.Listing.{raise_word, step_words, day_line, day_lines, listed}
use Rattle.locks.specs.Climbing.{step_few}

-- a buffer that every listing fits
abbrev pub listing_room : ℕ
listing_room = 50_016

raise_short : (raise : Raise) → length (raise_word raise) ≤ 13
raise_short Holds = omega arith
raise_short Fails = omega arith
raise_short NoDay = omega arith
raise_short NoLimit = omega arith
raise_short NoNextLimit = omega arith

words_short : (step : Step) → running step < 10_000 → length (step_words step) ≤ 20
words_short NotLocked h = omega arith
words_short (First raise) h = simp length-append (omega (arith, raise_short raise))
words_short (Same days) h = simp length-append (omega (arith, digits_length 3 days (omega arith)))
words_short Reverse h = omega arith

day_short : (k : ℕ) (step : Step) → k < 10_000 → running step < 10_000 → length (day_line k step) ≤ 25
unfolding day_line
day_short k step h g = simp length-append (omega (arith, digits_length 3 k (omega arith), words_short step g))

lines_short : (k : ℕ) (before : Mark) (days : ℕ) (ds : List Day) → k + length ds ≤ 10_000 → days + length ds < 10_000 →
    length (day_lines k (steps_from before days ds)) ≤ 25 * length ds
lines_short k before days [] h g = omega arith
lines_short k before days (d ∷ ds) h g =
    let step = step_on before days d ds in
    let few = step_few before d.mark days (raise_of d.limit ds) in
    simp length-append (omega (arith, day_short k step (omega arith) (omega (arith, few)), lines_short (suc k) d.mark (running step) ds (omega arith) (omega (arith, few))))

pub steps_length : (before : Mark) (days : ℕ) (ds : List Day) → length (steps_from before days ds) ≡ length ds
steps_length before days [] = refl
steps_length before days (d ∷ ds) = ap suc (steps_length d.mark (running (step_on before days d ds)) ds)

pub listed_short : (ds : List Day) → length ds ≤ 2_000 → length (listed (steps ds)) ≤ listing_room
unfolding listed steps
listed_short ds h =
    simp length-append (omega (arith, digits_length 3 (length (steps_from Unlocked 0 ds)) (omega (arith, steps_length Unlocked 0 ds)), lines_short 1 Unlocked 0 ds (omega arith) (omega arith)))
