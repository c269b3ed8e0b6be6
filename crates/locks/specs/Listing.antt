-- docs/MOVES.md. Request [12]: what the call answers of a list, and what the program prints of it.
-- Assumes nothing.
use Rattle.std.specs.Prelude.{ℕ, suc, ◌+◌, ◌*◌, List, [], ◌∷◌, ◌++◌, map, true, length}
use Rattle.rules.specs.Text.{bytes}
use Rattle.rules.specs.Report.{digits, listing_of}
use Rattle.rules.specs.Book.{Refused as BookRefused}
use Rattle.rules.specs.Answer.{Answer, refused, fitted}
use Rattle.days.specs.Listed.{Verdict, Refused, Accepted, verdict_of, judge}
use Rattle.locks.specs.declared.Raise.{Raise}
use Rattle.locks.specs.declared.Raise.TheVariants.{Holds, Fails, NoDay, NoLimit, NoNextLimit}
use Rattle.locks.specs.declared.Step.{Step}
use Rattle.locks.specs.declared.Step.TheVariants.{NotLocked, First, Same, Reverse}
use Rattle.locks.specs.Ladder.{running, steps}

-- a step as one number, its rung: the kind in the low byte, and the days running above it
abbrev pub first_kind : Raise → ℕ
first_kind Holds = 1
first_kind Fails = 2
first_kind NoDay = 3
first_kind NoLimit = 4
first_kind NoNextLimit = 5

abbrev pub kind_of : Step → ℕ
kind_of NotLocked = 0
kind_of (First raise) = first_kind raise
kind_of (Same days) = 6
kind_of Reverse = 7

abbrev pub rung_of : Step → ℕ
rung_of step = kind_of step + 256 * running step

-- one rung a day; "length is the number of days; too few places are 11 with the number needed, last of all", as in request [11]
abbrev pub answer_of : ℕ → Verdict → Answer
answer_of room (Refused n place) = refused n place
answer_of room (Accepted metal ds) = fitted room (map rung_of (steps ds))

-- of a list with so many line feeds in all, and a run of so many places
unfoldable pub ladder_in : ℕ → List ℕ → ℕ → Answer
ladder_in total s room = answer_of room (verdict_of true total s)

unfoldable pub ladder : List ℕ → ℕ → Answer
ladder s room = answer_of room (judge true s)

-- "for each day its number and none, first with one of holds, fails, no-day, no-limit, no-next-limit, same with the days running, or reverse"
abbrev pub raise_word : Raise → List ℕ
raise_word Holds = bytes "holds"
raise_word Fails = bytes "fails"
raise_word NoDay = bytes "no-day"
raise_word NoLimit = bytes "no-limit"
raise_word NoNextLimit = bytes "no-next-limit"

abbrev pub step_words : Step → List ℕ
step_words NotLocked = bytes " none"
step_words (First raise) = bytes " first " ++ raise_word raise
step_words (Same days) = bytes " same " ++ digits days
step_words Reverse = bytes " reverse"

-- 2 first holds
unfoldable pub day_line : ℕ → Step → List ℕ
day_line k step = digits k ++ step_words step ++ bytes "\n"

abbrev pub day_lines : ℕ → List Step → List ℕ
day_lines k [] = []
day_lines k (step ∷ rest) = day_line k step ++ day_lines (suc k) rest

-- "days N, then .."
unfoldable pub listed : List Step → List ℕ
listed ss = bytes "days " ++ digits (length ss) ++ bytes "\n" ++ day_lines 1 ss

-- "A refusal: refused 32 at 2"
abbrev pub listing_by : Verdict → List ℕ
listing_by (Refused n place) = listing_of (BookRefused n place)
listing_by (Accepted metal ds) = listed (steps ds)

unfoldable pub listing : List ℕ → List ℕ
listing s = listing_by (judge true s)
