-- What a report and a listing show of a line, and that the pieces of lines join as the lines do.
-- Assumes nothing.
use Rattle.std.specs.Prelude.{ℕ, ◌≡◌, refl, List, [], ◌∷◌, ◌++◌}
use Rattle.std.proofs.Common.{append_assoc}
use Rattle.rules.specs.declared.Standing.{Standing}
use Rattle.rules.specs.Book.{Seat}
use Rattle.rules.specs.Cascade.{Line}
use Rattle.rules.specs.Report.{joined}

-- a line with all that a report and a listing show of it
abbrev pub shown : List ℕ → List Seat → Standing → ℕ → Line
shown code seats standing offset = record { code = code; seats = seats; standing = standing; offered = 0; pending = 0; offset = offset }

pub joined_append : {A : Type 0} (f : A → List ℕ) (ls ms : List A) → joined f (ls ++ ms) ≡ joined f ls ++ joined f ms
joined_append f [] ms = refl
joined_append f (l ∷ ls) ms = simp (joined_append f ls ms, append_assoc)
