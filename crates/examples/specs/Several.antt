-- Request [5] on a small book, computed: P long over three seats, W short over two, one of which is long for 4 lots too, and N1 who is neither. Five lots are
-- offset. P's seats have equal weights, by Q, and the lots left over go to the seats with the smaller codes, A and B, of which A stands last; W's are divided by
-- what each seat holds short. The statement for brokers, and demand 3 with the customers in another order and N1 left out.
-- Assumes nothing.
use Rattle.std.specs.Prelude.{ℕ, zero, suc, ◌<◌, ◌≡◌, refl, false, List, [], ◌∷◌, ◌++◌, map, get_or}
use Prim.Native.Char.{Char, code}
use Prim.Native.String.{String}
use Rattle.std.proofs.Common.{ap, arith}
use Rattle.rules.specs.declared.Standing.TheVariants.{Neither}
use Rattle.rules.specs.Text.{bytes}
use Rattle.rules.specs.Figures.{written_of, figure_of}
use Rattle.rules.specs.Stamp.{stamp_of}
use Rattle.rules.specs.Opening.{opening_of}
use Rattle.rules.specs.Codes.{is_code}
use Rattle.rules.specs.Fields.{fields_of}
use Rattle.rules.specs.Book.{Seat, Customer, within, step, Verdict, Refused, Accepted, judge}
use Rattle.rules.specs.Standing.{gain_from, total_gain, standing}
use Rattle.rules.specs.Division.{one_if, left_over_of, rank, share_of, share}
use Rattle.rules.specs.Cascade.{Line, line_of, quantity, after, cascade, outcome}
use Rattle.rules.specs.Seats.{seat_lots}
use Rattle.rules.specs.Report.{digits, reported_seat, reported, report, listing}
use Rattle.rules.specs.Answer.{answer}
use Rattle.cases.specs.Tables.{gold, bought, sold, seat, seated, customer, book, totals, seat_entry, entry_over, entry}
use Rattle.consequences.specs.Rearranged.{parts_of, regrouped, rearranged, among, nobody, Chosen}
use Rattle.promises.specs.Outcomes.{outcome_of}
use Rattle.promises.specs.Demand3.{lots_by_seat, Stays}
use Rattle.promises.specs.ByIndices.{customers_alone}
use Rattle.promises.specs.Statement.{Entry, SeatEntry, told, seat_stake, book_seats, position_at}

abbrev pub several : List ℕ
several =
    book gold
    (seated (bytes "P") (seat "B" "3" "0" "3" ∷ seat "C" "9" "0" "3" ∷ seat "A" "3" "0" "3" ∷ []) (bought "440.00 15" ∷ [])
    ∷ customer "N1" "10" "0" "10" (bought "431.99 10" ∷ [])
    ∷ seated (bytes "W") (seat "1" "4" "7" "4" ∷ seat "2" "0" "2" "0" ∷ []) (sold "440.00 9" ∷ [])
    ∷ [])

-- the lots of P's three seats and of W's two
abbrev pub report_with : String → String → String → String → String → List ℕ
report_with b c a one two =
    totals "5" "4" ++ entry_over "P" "P" "5" (seat_entry "B" b ∷ seat_entry "C" c ∷ seat_entry "A" a ∷ [])
    ++ entry "N1" "N" "0" ++ entry_over "W" "1" "5" (seat_entry "1" one ∷ seat_entry "2" two ∷ [])

-- W and P
abbrev pub two : List ℕ
two = 2 ∷ 0 ∷ []

abbrev lots : String → ℕ → SeatEntry
lots v n = record { code = bytes v; lots = n }

abbrev told_of : String → Char → ℕ → List SeatEntry → Entry
told_of v letter n seats = record { code = bytes v; letter = code letter; lots = n; seats = seats }

abbrev customers_in : Verdict → List Customer
customers_in (Refused n place) = []
customers_in (Accepted terms cs) = cs

-- the most that may be offset at each seat of the customer at an index, where its standing has a letter
abbrev stakes : Char → ℕ → List ℕ
stakes letter i = let cs = customers_in (judge several) in map (seat_stake (code letter) (position_at cs i)) (book_seats cs i)

-- a line with the number of its place for the code of each seat
abbrev numbered : ℕ → List Seat → List Seat
numbered n [] = []
numbered n (s ∷ seats) = record { code = n ∷ []; position = s.position } ∷ numbered (suc n) seats

abbrev by_place_of : Line → List ℕ
by_place_of l =
    lots_by_seat (record { code = l.code; seats = numbered 0 l.seats; standing = l.standing; offered = l.offered; pending = l.pending; offset = l.offset })

pub record Shown : Type 0 where
  pub accepted : (answer several 200).number ≡ 0
  pub reports : (answer several 200).report ≡ report_with "2" "1" "2" "4" "1"
  -- the statement for brokers: what is told, the weights of P's seats by Q and of W's by H
  pub tells : told (answer several 200).report ≡
      record {
        total = 5;
        residue = 4;
        entries = told_of "P" "P" 5 (lots "B" 2 ∷ lots "C" 1 ∷ lots "A" 2 ∷ []) ∷ told_of "N1" "N" 0 (lots "M1" 0 ∷ []) ∷ told_of "W" "1" 5 (lots "1" 4 ∷ lots "2" 1 ∷ []) ∷ [];
      }
  pub of_p : stakes "P" 0 ≡ 3 ∷ 3 ∷ 3 ∷ []
  pub of_w : stakes "1" 2 ≡ 7 ∷ 2 ∷ []
  -- were ties settled by the places of the seats, C would have A's lot
  pub by_place : by_place_of (get_or (outcome_of several).lines 0 nobody) ≡ 2 ∷ 2 ∷ 1 ∷ []
  -- demand 3: each seat's lots are the same
  pub chosen : Chosen (outcome_of several).lines two
  pub before : map lots_by_seat (outcome_of several).lines ≡ (2 ∷ 1 ∷ 2 ∷ []) ∷ (0 ∷ []) ∷ (4 ∷ 1 ∷ []) ∷ []
  pub after : map lots_by_seat (outcome_of (rearranged several two)).lines ≡ (4 ∷ 1 ∷ []) ∷ (2 ∷ 1 ∷ 2 ∷ []) ∷ []
  -- and a listing has nothing of seats
  pub listed : listing (rearranged several two) ≡ bytes "total 5\nleft 4\nW 1 5\nP P 5\n"

two_chosen : Chosen (outcome_of several).lines two
unfolding outcome_of written_of figure_of opening_of stamp_of is_code fields_of within step judge gain_from total_gain standing left_over_of rank share_of share line_of quantity after cascade outcome
two_chosen = record { below = (omega arith, (omega arith, tt)); once = (refl, (refl, tt)); bystanders = out }
  where
    out : (i : ℕ) → i < 3 → among i two ≡ false → (get_or (outcome_of several).lines i nobody).standing ≡ Neither
    out zero h e = absurd (omega (arith, ap one_if e))
    out (suc zero) h e = refl
    out (suc (suc zero)) h e = absurd (omega (arith, ap one_if e))
    out (suc (suc (suc i))) h e = absurd (omega arith)

pub several_shown : Shown
unfolding told answer report reported reported_seat seat_lots regrouped parts_of outcome_of written_of figure_of opening_of stamp_of is_code fields_of within step judge gain_from total_gain standing left_over_of rank share_of share line_of quantity after cascade outcome digits listing
several_shown =
    record {
      accepted = refl;
      reports = refl;
      tells = refl;
      of_p = refl;
      of_w = refl;
      by_place = refl;
      chosen = two_chosen;
      before = refl;
      after = refl;
      listed = refl;
    }

-- and so demand 3 says
pub several_stay : Stays several (rearranged several two) two 200
several_stay = customers_alone several 200 several_shown.accepted two several_shown.chosen
