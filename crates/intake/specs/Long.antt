-- What a program has from an input of any length.
-- Assumes nothing.
use Rattle.std.specs.Prelude.{ℕ, ◌≤◌, List, length, take, Result, Ok, Err, IfOk, MatchResult}
use Rattle.days.specs.Lines.{feeds}
use Rattle.shell.specs.declared.Ended.{Ended}
use Rattle.intake.specs.declared.Long.{Long}

-- no line feed is lost
abbrev pub Counts : {E : Type 0} → Result ℕ E → ℕ → Type 0
Counts r least = IfOk r (λ total. least ≤ total)

-- the bytes are the buffer's, and their line feeds are among those in all
abbrev pub Fronted : Long → List ℕ → Type 0
Fronted long buffer = (long.front ≤ length buffer) × (feeds (take long.front buffer) ≤ long.total)

abbrev pub Fronts : {E : Type 0} → Result Long E → List ℕ → Type 0
Fronts r buffer = IfOk r (λ long. Fronted long buffer)

-- and where nothing came a status is 0, 1 or 2
abbrev pub LongCame : Result Long Ended → List ℕ → Type 0
LongCame r buffer = MatchResult r (λ long. Fronted long buffer) (λ ended. ended.0 ≤ 2)

-- words that ask for no input
abbrev pub ended_as : Result ℕ Ended → Result Long Ended
ended_as (Ok n) = Err (record { 0 = 2 })
ended_as (Err ended) = Err ended
