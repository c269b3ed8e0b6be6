-- docs/MOVES.md. Request [11]: what the call answers of a list, and what the program prints of it.
-- Assumes nothing.
use Rattle.std.specs.Prelude.{ℕ, suc, ◌/◌, ◌%◌, List, [], ◌∷◌, ◌++◌, Bool, false, cond, length, eqb}
use Prim.Native.Char.{code}
use Rattle.rules.specs.Text.{bytes}
use Rattle.rules.specs.Report.{digits, listing_of}
use Rattle.rules.specs.Book.{Refused as BookRefused}
use Rattle.rules.specs.Answer.{Answer, refused, fitted}
use Rattle.days.specs.Listed.{Verdict, Refused, Accepted, verdict_of, judge}
use Rattle.watch.specs.Watch.{spans}

-- "one byte a day"; "length is the number of days; too few places are 11 with the number needed, last of all"
abbrev pub answer_of : ℕ → Verdict → Answer
answer_of room (Refused n place) = refused n place
answer_of room (Accepted metal ds) = fitted room (spans metal ds)

-- of a list with so many line feeds in all, and a run of so many bytes
unfoldable pub moves_in : ℕ → List ℕ → ℕ → Answer
moves_in total s room = answer_of room (verdict_of false total s)

unfoldable pub moves : List ℕ → ℕ → Answer
moves s room = answer_of room (judge false s)

-- a bit of a byte, by the power of two that it stands for
abbrev pub is_set : ℕ → ℕ → Bool
is_set power b = eqb (b / power % 2) 1

-- "price3": what it is of, and how many days, where it is met
abbrev pub word : Bool → List ℕ → ℕ → List ℕ
word met name days = cond met (name ++ (days ∷ [])) []

unfoldable pub kind : List ℕ → ℕ → List ℕ
kind name b = word (is_set 1 b) name (code "3") ++ word (is_set 2 b) name (code "4") ++ word (is_set 4 b) name (code "5")

-- "for each day on which a span is met its number and the spans, in the order price3 price4 price5 open3 open4 open5, a blank before each":
-- 4 price3 open3
unfoldable pub day_line : ℕ → ℕ → List ℕ
day_line k b = cond (eqb b 0) [] (digits k ++ kind (bytes " price") b ++ kind (bytes " open") (b / 8) ++ bytes "\n")

abbrev pub day_lines : ℕ → List ℕ → List ℕ
day_lines k [] = []
day_lines k (b ∷ bs) = day_line k b ++ day_lines (suc k) bs

-- "days N, then .."
unfoldable pub listed : List ℕ → List ℕ
listed bs = bytes "days " ++ digits (length bs) ++ bytes "\n" ++ day_lines 1 bs

-- "A refusal: refused 33 at 2"
abbrev pub listing_by : Verdict → List ℕ
listing_by (Refused n place) = listing_of (BookRefused n place)
listing_by (Accepted metal ds) = listed (spans metal ds)

unfoldable pub listing : List ℕ → List ℕ
listing s = listing_by (judge false s)
