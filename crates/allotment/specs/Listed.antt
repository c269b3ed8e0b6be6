-- What a listing leaves in the lent buffer, and what is told of what was judged.
-- Assumes nothing.
use Rattle.std.specs.Prelude.{ℕ, ◌≤◌, ◌≡◌, List, length}
use Rattle.rules.specs.Book.{Verdict, Refused, Accepted}
use Rattle.writing.specs.Written.{written}

-- a text stands at the front of the buffer, and all else is as it was
pub record Listed (text entry exit : List ℕ) (r : ℕ) : Type 0 where
  pub buffer : exit ≡ written 0 text entry
  pub size : r ≡ length text
  pub room : r ≤ length entry

-- the number and the place of what was judged; 0 and 0 of an accepted book
abbrev pub Judged : Verdict → ℕ → ℕ → Type 0
Judged (Refused n place) number at = (number ≡ n) × (at ≡ place)
Judged (Accepted terms cs) number at = (number ≡ 0) × (at ≡ 0)
