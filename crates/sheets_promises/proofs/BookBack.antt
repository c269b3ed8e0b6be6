-- What the sheet of an accepted book is read as: the book.
-- Assumes nothing.
use Rattle.std.specs.Prelude.{ℕ, ◌≡◌, List, true}
use Rattle.std.proofs.Math.Path.{ap}
use Rattle.std.proofs.Common.{◌∙◌, le-ltb}
use Rattle.std.proofs.Math.ListN.{length}
use Rattle.rules.specs.declared.Terms.{Terms}
use Rattle.rules.specs.Limits.{longest_book}
use Rattle.rules.specs.Report.{joined}
use Rattle.rules.specs.Fields.{fields_of}
use Rattle.rules.specs.Book.{Customer, Accepted, judge}
use Rattle.sheets.specs.Mark.{is_mark}
use Rattle.sheets.specs.Read.{Made, read}
use Rattle.sheets.specs.Write.{field_in, sheet_of}
use Rattle.sheets_promises.specs.Order.{accepted_fields}
use Rattle.sheets_promises.specs.Heads.{behind_mark}
use Rattle.sheets_promises.specs.Lined.{fields_read}
use Rattle.sheets_promises.specs.BookBack.{Bytes, sheet_short, book_is}

module _ (m : ℕ) (k : is_mark m ≡ true) (s : List ℕ) (b : Bytes s) (terms : Terms) (cs : List Customer) (e : judge s ≡ Accepted terms cs) where
  pub book_back : read (sheet_of m s) ≡ Made s
  unfolding read sheet_of
  book_back = rw (le-ltb longest_book (length (sheet_of m s)) (sheet_short m k s b terms cs e)) (behind_mark m k (joined (field_in m) (fields_of s)) ∙ fields_read m k (accepted_fields s terms cs e) 2 ∙ ap Made (book_is s b (accepted_fields s terms cs e)))
