-- docs/SHEETS.md. What the program says of an answer, and the status that it ends with.
-- Assumes nothing.
use Rattle.std.specs.Prelude.{ℕ, ◌≤◌, ◌≡◌, cond, List, [], ℤ, pos, negsuc, eqb}
use Rattle.rules.specs.Text.{bytes}
use Rattle.reasons.specs.Reason.{field_at, said}
use Rattle.shell.specs.Shell as shell

-- "status 1" of a refusal, 0 of none
abbrev pub status_of : ℕ → ℕ
status_of n = cond (eqb n 0) shell.accepted shell.refused

-- "A refusal is one line on standard error that begins `sheet: refused 21 at 3`"; a book's own has the field at its place
abbrev pub said_of : List ℕ → ℕ → ℕ → List ℕ
said_of book n place = cond (eqb n 0) [] (said (bytes "sheet") n place (field_at book place))

-- the program's status; or 2, where what it prints was not written
pub data Ends (n r : ℕ) : Type 0 where
  unwritten : r ≡ shell.failed → Ends n r
  told : r ≡ status_of n → Ends n r

-- what the shell gets: 0, 1 or 2
abbrev pub Low : ℕ → Type 0
Low r = r ≤ shell.failed

abbrev pub Exit : ℤ → Type 0
Exit (pos k) = Low k
Exit (negsuc k) = ⊥
