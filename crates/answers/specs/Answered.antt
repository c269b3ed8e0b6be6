-- What a call returns and leaves in what it was lent.
-- Assumes nothing.
use Rattle.std.specs.Prelude.{ℕ, ◌≡◌, List}
use Rattle.rules.specs.Answer.{lent}
use Rattle.rules.specs.Answer.{Answer as Answer01}
use Rattle.answers.specs.declared.Answer.{Answer}

-- the three numbers are the answer's, and so is every byte of what was lent
pub record Answered (a : Answer01) (r : Answer) (entry exit : List ℕ) : Type 0 where
  pub number : r.number ≡ a.number
  pub place : r.place ≡ a.place
  pub length : r.length ≡ a.length
  pub buffer : exit ≡ lent a entry
