-- What the readers of a group may take for granted of a book: it is not too long.
-- Assumes nothing.
use Rattle.std.specs.Prelude.{ℕ, ◌≤◌, List, length}
use Rattle.rules.specs.Limits.{longest_book}

abbrev pub Short : List ℕ → Type 0
Short book = length book ≤ longest_book
