-- docs/RULES.md, sections 14, 16 and 17. What the program says of a book, and the status that it ends with.
-- Assumes nothing.
use Rattle.std.specs.Prelude.{ℕ, ◌≤◌, ◌≡◌, List, [], ◌⊎◌, ℤ, pos, negsuc}
use Rattle.rules.specs.Text.{bytes}
use Rattle.rules.specs.Book.{Verdict, Refused, Accepted}
use Rattle.reasons.specs.Reason.{field_at, said}
use Rattle.shell.specs.Shell as shell

-- 0 of an accepted book, and 1 of a refused one
abbrev pub status_of : Verdict → ℕ
status_of (Refused n place) = shell.refused
status_of (Accepted terms cs) = shell.accepted

-- on standard error: the line of a refusal, and nothing of an accepted book
abbrev pub said_of : List ℕ → Verdict → List ℕ
said_of book (Refused n place) = said (bytes "allot") n place (field_at book place)
said_of book (Accepted terms cs) = []

-- the program's status; or 2, where its listing was not written
abbrev pub Ends : Verdict → ℕ → Type 0
Ends v r = (r ≡ shell.failed) ⊎ (r ≡ status_of v)

-- what the shell gets: 0, 1 or 2
abbrev pub Exit : ℤ → Type 0
Exit (pos k) = k ≤ shell.failed
Exit (negsuc k) = ⊥
