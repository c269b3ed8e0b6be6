-- docs/SHEETS.md. Request [8]: "Read such a sheet into a book". The book that a sheet makes, or the sheet's refusal and its place.
-- Assumes nothing.
use Rattle.std.specs.Prelude.{ℕ, suc, List, [], ◌∷◌, ◌++◌, cond, length, ltb}
use Prim.Native.Char.{code}
use Rattle.rules.specs.Text.{bytes}
use Rattle.rules.specs.Limits.{longest_book}
use Rattle.rules.specs.Refusal.{too_long}
use Rattle.rules.specs.Codes.{same}
use Rattle.rules.specs.Book.{Step, Stop, Next}
use Rattle.days.specs.Lines.{Line, Whole, Cut, lines_of}
use Rattle.sheets.specs.Refusal as refusal
use Rattle.sheets.specs.Line.{field_of, line_of}

pub data Read : Type 0 where
  Bad : ℕ → ℕ → Read
  Made : List ℕ → Read

abbrev pub before : List ℕ → Read → Read
before fields (Bad n place) = Bad n place
before fields (Made rest) = Made (fields ++ rest)

-- "Then the first bad line decides, its place its number"
abbrev pub first_of : Step (List ℕ) → ℕ → Read → Read
first_of (Stop n) place rest = Bad n place
first_of (Next fields) place rest = before fields rest

-- the lines from one on, in a sheet of this mark; 22 for "bytes after the last line feed"; "Z ends the book"
unfoldable pub lines_from : ℕ → ℕ → List Line → Read
lines_from mark place [] = Made (field_of (code "Z") [])
lines_from mark place (Cut v ∷ ls) = Bad refusal.no_line place
lines_from mark place (Whole v ∷ ls) = first_of (line_of mark v) place (lines_from mark (suc place) ls)

-- "20 at 1, the first line is not `mark,` or `mark.` with its line feed (an empty sheet too)"
abbrev pub no_mark_line : Read
no_mark_line = Bad refusal.no_mark 1

abbrev pub headed : List Line → (ℕ → List Line → Read) → Read
headed [] next = no_mark_line
headed (Cut v ∷ ls) next = no_mark_line
headed (Whole v ∷ ls) next =
    cond (same v (bytes "mark,")) (next (code ",") ls) (cond (same v (bytes "mark.")) (next (code ".") ls) no_mark_line)

-- "the line's number (the mark line is 1)"
unfoldable pub sheet_from : List Line → Read
sheet_from ls = headed ls λ mark rest. lines_from mark 2 rest

-- "1 (place 0) a sheet over 60,000 bytes"
unfoldable pub read : List ℕ → Read
read s = cond (ltb longest_book (length s)) (Bad too_long 0) (sheet_from (lines_of s))
