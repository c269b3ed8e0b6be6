-- docs/POSITION-LIMIT.md. What the program `cutback` reads, prints and says, and the status that it ends with.
-- Assumes nothing.
use Rattle.std.specs.Prelude.{ℕ, ◌≤◌, ◌≡◌, cond, List, [], ◌∷◌, ◌++◌, map, ◌⊎◌, length, ltb, ℤ, pos, negsuc}
use Rattle.rules.specs.declared.Figure.{Figure}
use Rattle.rules.specs.declared.Figure.TheVariants.{Value, Comma, Malformed}
use Rattle.rules.specs.Text.{bytes}
use Rattle.rules.specs.Limits.{longest_book}
use Rattle.rules.specs.Refusal as refusal
use Rattle.rules.specs.Figures.{held_form, traded_form, figure_of}
use Rattle.rules.specs.Opening.{after_blank}
use Rattle.rules.specs.Book.{Refused as Refused01}
use Rattle.rules.specs.Report.{digits, listing_of}
use Rattle.reasons.specs.Lines.{behind_lines, line_of}
use Rattle.reasons.specs.Reason.{no_tag, said}
use Rattle.cutback.specs.Lines.{lines_of, codes_ahead}
use Rattle.cutback.specs.Judge.{Verdict, Refused, Cut, judge}
use Rattle.shell.specs.Shell as shell

-- "Grams and lots are figures of 1 to 7 digits without a leading zero (`0` is good); what is no such figure is 41 for grams, 44 for lots."
abbrev pub or_else : ℕ → Figure → ℕ
or_else other (Value n) = n
or_else other Comma = other
or_else other Malformed = other

-- grams from 1 to 1,000,000, as lots in a trade; and 0, which is 41, for all else
unfoldable pub grams_of : List ℕ → ℕ
grams_of line = or_else 0 (figure_of traded_form line)

-- "its lots what stands after it", the first blank; 1,000,001, which is 44, for what is no such figure
unfoldable pub lots_of : List ℕ → ℕ
lots_of line = or_else 1_000_001 (figure_of held_form (after_blank line))

-- "Line 1 type, 2 metal, 3 grams, each further line a seat"
abbrev pub seats : List ℕ → List ℕ
seats input = behind_lines 3 input

unfoldable pub read : List ℕ → Verdict
read input = judge (line_of 0 input) (line_of 1 input) (grams_of (line_of 2 input)) (codes_ahead (seats input)) (map lots_of (lines_of (seats input)))

-- "More than 60,000 bytes: `refused 1 at 0`."
unfoldable pub verdict : List ℕ → Verdict
verdict input = cond (ltb longest_book (length input)) (Refused refusal.too_long) (read input)

-- "It prints `CODE CUT` for each seat in its order"
abbrev pub row : List ℕ → ℕ → List ℕ
row code n = code ++ (bytes " " ++ (digits n ++ bytes "\n"))

abbrev pub rows : List (List ℕ) → List ℕ → List ℕ
rows [] cuts = []
rows (c ∷ cs) [] = []
rows (c ∷ cs) (n ∷ ns) = row c n ++ rows cs ns

-- "or `refused 42 at 0`"
abbrev pub listing : List ℕ → Verdict → List ℕ
listing input (Refused n) = listing_of (Refused01 n 0)
listing input (Cut cuts) = rows (codes_ahead (seats input)) cuts

-- on standard error: the line of a refusal, and nothing where there are cuts
abbrev pub said_of : Verdict → List ℕ
said_of (Refused n) = said (bytes "cutback") n 0 no_tag
said_of (Cut cuts) = []

abbrev pub status_of : Verdict → ℕ
status_of (Refused n) = shell.refused
status_of (Cut cuts) = shell.accepted

-- the program's status; or 2, where its listing was not written
abbrev pub Ends : Verdict → ℕ → Type 0
Ends v r = (r ≡ shell.failed) ⊎ (r ≡ status_of v)

-- what the shell gets: 0, 1 or 2
abbrev pub Exit : ℤ → Type 0
Exit (pos k) = k ≤ shell.failed
Exit (negsuc k) = ⊥
