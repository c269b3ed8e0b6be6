-- docs/MOVES.md. What a program that reads a list of days says of it, and the status that it ends with.
-- Assumes nothing.
use Rattle.std.specs.Prelude.{ℕ, ◌≤◌, ◌≡◌, List, [], ◌⊎◌, length, ℤ, pos, negsuc}
use Rattle.days.specs.Listed.{Verdict, Refused, Accepted}
use Rattle.writing.specs.Written.{written}
use Rattle.reasons.specs.Reason.{no_tag, said}
use Rattle.shell.specs.Shell as shell

-- a text stands at the front of the buffer, and all else is as it was
pub record Put (text entry exit : List ℕ) (r : ℕ) : Type 0 where
  pub buffer : exit ≡ written 0 text entry
  pub size : r ≡ length text
  pub room : r ≤ length entry

-- 0 of an accepted list, and 1 of a refused one
abbrev pub status_by : Verdict → ℕ
status_by (Refused n place) = shell.refused
status_by (Accepted metal ds) = shell.accepted

-- on standard error: the line of a refusal, which begins with the program's name, and nothing of an accepted list
abbrev pub said_by : List ℕ → Verdict → List ℕ
said_by program (Refused n place) = said program n place no_tag
said_by program (Accepted metal ds) = []

-- the program's status; or 2, where its listing was not written
abbrev pub Ends : Verdict → ℕ → Type 0
Ends v r = (r ≡ shell.failed) ⊎ (r ≡ status_by v)

-- what the shell gets: 0, 1 or 2
abbrev pub Exit : ℤ → Type 0
Exit (pos k) = k ≤ shell.failed
Exit (negsuc k) = ⊥
