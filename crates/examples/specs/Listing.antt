-- The statement on document 01's listing, computed: what docs/STATEMENT.md works through by hand.
-- Assumes nothing.
use Rattle.std.specs.Prelude.{ℕ, ◌≡◌, refl, List, [], ◌∷◌, map}
use Prim.Native.Char.{Char, code}
use Prim.Native.String.{String}
use Rattle.rules.specs.declared.Position.{Position}
use Rattle.rules.specs.Text.{bytes}
use Rattle.rules.specs.Figures.{written_of, figure_of}
use Rattle.rules.specs.Stamp.{stamp_of}
use Rattle.rules.specs.Opening.{opening_of}
use Rattle.rules.specs.Codes.{is_code}
use Rattle.rules.specs.Fields.{fields_of}
use Rattle.rules.specs.Book.{Customer, within, step, Verdict, Refused, Accepted, judge}
use Rattle.rules.specs.Standing.{gain_from, total_gain, standing}
use Rattle.laws.specs.Sums.{up_to}
use Rattle.rules.specs.Division.{sum_of, left_over_of, rank, share_of, share}
use Rattle.rules.specs.Cascade.{line_of, quantity, after, cascade, outcome}
use Rattle.rules.specs.Seats.{seat_lots}
use Rattle.rules.specs.Report.{digits, reported_seat, reported, report}
use Rattle.rules.specs.Answer.{answer}
use Rattle.cases.specs.Tables.{the_seat}
use Rattle.cases.specs.Cases.{the_listing}
use Rattle.promises.specs.Statement.{Entry, Told, told, stake, position_at, lots_of, pending_at}

-- each customer has one seat, which has all of its lots
abbrev entry : String → Char → ℕ → Entry
entry v letter n = record { code = bytes v; letter = code letter; lots = n; seats = record { code = bytes the_seat; lots = n } ∷ [] }

abbrev customers_in : Verdict → List Customer
customers_in (Refused n place) = []
customers_in (Accepted terms cs) = cs

abbrev pub its : Told
its = told (answer (the_listing "8.000") 118).report

abbrev pub customers : List Customer
customers = customers_in (judge (the_listing "8.000"))

-- the position of the customer at an index
abbrev pub has : ℕ → Position
has i = position_at customers i

pub record Worked : Type 0 where
  pub accepted : (answer (the_listing "8.000") 118).number ≡ 0
  pub tells : its ≡ record { total = 9; residue = 1; entries = entry "W3" "3" 1 ∷ entry "P2" "P" 3 ∷ entry "W1" "1" 3 ∷ entry "P1" "P" 6 ∷ entry "W2" "2" 5 ∷ [] }
  -- 1: six and three lots on the one side, of ten counted, and three, five and one on the other
  pub pending_side : lots_of its "P" ≡ 9
  pub counted : sum_of (pending_at customers its) (up_to 5) ≡ 10
  pub gaining_side : map (lots_of its) ("1" ∷ "2" ∷ "3" ∷ []) ≡ 3 ∷ 5 ∷ 1 ∷ []
  -- 2: the stakes of W3, P2, W1, P1 and W2
  pub stakes : stake (code "3") (has 0) ∷ stake (code "P") (has 1) ∷ stake (code "1") (has 2) ∷ stake (code "P") (has 3) ∷ stake (code "2") (has 4) ∷ [] ≡ 1 ∷ 4 ∷ 3 ∷ 6 ∷ 5 ∷ []

pub worked : Worked
unfolding told answer report reported reported_seat seat_lots written_of figure_of opening_of stamp_of is_code fields_of within step judge gain_from total_gain standing left_over_of rank share_of share line_of quantity after cascade outcome digits
worked = record { accepted = refl; tells = refl; pending_side = refl; counted = refl; gaining_side = refl; stakes = refl }
