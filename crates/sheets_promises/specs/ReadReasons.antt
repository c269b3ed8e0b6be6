-- Why the call for a book refuses (both ways: proofs/ReadReasons.antt): 20, 21 and 22 exactly where the sheet has that reason, 23 exactly where the book is longer than the buffer,
-- and 0 exactly where a good book is left. The book's own table has no number above 13, so that none is taken for another.
-- Assumes nothing.
use Rattle.std.specs.Prelude.{ℕ, ◌≤◌, ◌<◌, ◌≡◌}
use mathlib.Core.List.{List}
use Rattle.std.proofs.Math.ListN.{length}
use Rattle.rules.specs.Book.{Refused, judge}
use Rattle.rules.specs.Answer.{Answer, refused}
use Rattle.sheets.specs.Read.{Made, read}
use Rattle.sheets.specs.Answers.{left}
use Rattle.sheets_promises.specs.Reasons.{Reason}
use Rattle.sheets_promises.specs.WriteReasons.{Good}

module _ (s : List ℕ) (room : ℕ) where
  pub data Made-of : Answer → Type 0 where
    bad_sheet : {n p : ℕ} → Reason s n p → Made-of (refused n p)
    no_space : {b : List ℕ} → read s ≡ Made b → room < length b → Made-of (refused 23 0)
    bad_left : {b : List ℕ} {n p : ℕ} → read s ≡ Made b → length b ≤ room → judge b ≡ Refused n p → Made-of (left b n p)
    good_left : {b : List ℕ} → read s ≡ Made b → length b ≤ room → Good b → Made-of (left b 0 0)
