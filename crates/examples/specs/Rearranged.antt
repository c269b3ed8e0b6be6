-- Demand 3 is not empty: document 01's listing with one customer more who is neither (with lots unfilled), that customer left out and the
-- others in another order. P1 and P2 have equal remainders in tier 3; were the spare lot given by row order, it would move from P2 to P1.
-- Assumes nothing.
use Rattle.std.specs.Prelude.{ℕ, zero, suc, ◌<◌, ◌≡◌, refl, false, List, [], ◌∷◌, map, get_or}
use Rattle.std.proofs.Common.{ap, arith}
use Rattle.rules.specs.declared.Standing.TheVariants.{Neither}
use Rattle.rules.specs.Text.{bytes}
use Rattle.rules.specs.Figures.{written_of, figure_of}
use Rattle.rules.specs.Stamp.{stamp_of}
use Rattle.rules.specs.Opening.{opening_of}
use Rattle.rules.specs.Codes.{is_code, same}
use Rattle.rules.specs.Fields.{fields_of}
use Rattle.rules.specs.Book.{within, step, Verdict, Refused, Accepted, judge}
use Rattle.rules.specs.Standing.{gain_from, total_gain, standing}
use Rattle.rules.specs.Division.{one_if, left_over_of, rank, share_of, share}
use Rattle.rules.specs.Cascade.{Line, line_of, quantity, after, cascade, outcome}
use Rattle.rules.specs.Seats.{seat_lots}
use Rattle.rules.specs.Report.{digits, reported_seat, reported, report, listing}
use Rattle.rules.specs.Answer.{answer}
use Rattle.consequences.specs.Rearranged.{parts_of, regrouped, rearranged, among, nobody, Chosen}
use Rattle.cases.specs.Tables.{gold, bought, sold, customer, book}
use Rattle.promises.specs.Outcomes.{outcome_of}
use Rattle.promises.specs.Demand3.{Stays}
use Rattle.promises.specs.ByIndices.{customers_alone}

abbrev pub six : List ℕ
six =
    book gold
    (customer "W3" "0" "1" "0" (sold "410.00 1" ∷ [])
    ∷ customer "P2" "4" "0" "4" (bought "440.00 4" ∷ [])
    ∷ customer "N1" "10" "0" "10" (bought "431.99 10" ∷ [])
    ∷ customer "W1" "0" "3" "0" (sold "440.00 3" ∷ [])
    ∷ customer "P1" "8" "2" "6" (bought "440.00 8" ∷ sold "440.00 2" ∷ [])
    ∷ customer "W2" "0" "5" "0" (sold "420.00 5" ∷ [])
    ∷ [])

-- P1, P2, W3, W1, W2
abbrev pub five : List ℕ
five = 4 ∷ 1 ∷ 0 ∷ 3 ∷ 5 ∷ []

-- the lines with the number of its row for each code, and what each would then be offset
abbrev pub rowed : ℕ → List Line → List Line
rowed row [] = []
rowed row (l ∷ ls) =
    record { code = row ∷ []; seats = l.seats; standing = l.standing; offered = l.offered; pending = l.pending; offset = 0 } ∷ rowed (suc row) ls

abbrev pub by_row_of : List Line → List ℕ
by_row_of ls = map (λ l. l.offset) (cascade (rowed 0 ls)).lines

abbrev pub lines_in : Verdict → List Line
lines_in (Refused n place) = []
lines_in (Accepted terms cs) = map (line_of terms) cs

pub record Shown : Type 0 where
  pub accepted : (answer six 200).number ≡ 0
  pub chosen : Chosen (outcome_of six).lines five
  pub other : same (rearranged six five) six ≡ false
  pub before : listing six ≡ bytes "total 9\nleft 1\nW3 3 1\nP2 P 3\nN1 N 0\nW1 1 3\nP1 P 6\nW2 2 5\n"
  -- were ties settled by row, P2 would have 4 in the one order and 3 in the other
  pub by_row : by_row_of (lines_in (judge six)) ≡ 1 ∷ 4 ∷ 0 ∷ 3 ∷ 5 ∷ 5 ∷ []
  pub by_other_row : by_row_of (lines_in (judge (rearranged six five))) ≡ 6 ∷ 3 ∷ 1 ∷ 3 ∷ 5 ∷ []
  pub after : listing (rearranged six five) ≡ bytes "total 9\nleft 1\nP1 P 6\nP2 P 3\nW3 3 1\nW1 1 3\nW2 2 5\n"

six_chosen : Chosen (outcome_of six).lines five
unfolding outcome_of written_of figure_of opening_of stamp_of is_code fields_of within step judge gain_from total_gain standing left_over_of rank share_of share line_of quantity after cascade outcome
six_chosen =
    record {
      below = (omega arith, (omega arith, (omega arith, (omega arith, (omega arith, tt)))));
      once = (refl, (refl, (refl, (refl, (refl, tt)))));
      bystanders = out;
    }
  where
    out : (i : ℕ) → i < 6 → among i five ≡ false → (get_or (outcome_of six).lines i nobody).standing ≡ Neither
    out zero h e = absurd (omega (arith, ap one_if e))
    out (suc zero) h e = absurd (omega (arith, ap one_if e))
    out (suc (suc zero)) h e = refl
    out (suc (suc (suc zero))) h e = absurd (omega (arith, ap one_if e))
    out (suc (suc (suc (suc zero)))) h e = absurd (omega (arith, ap one_if e))
    out (suc (suc (suc (suc (suc zero))))) h e = absurd (omega (arith, ap one_if e))
    out (suc (suc (suc (suc (suc (suc i)))))) h e = absurd (omega arith)

pub six_shown : Shown
unfolding answer report reported reported_seat seat_lots regrouped parts_of outcome_of written_of figure_of opening_of stamp_of is_code fields_of within step judge gain_from total_gain standing left_over_of rank share_of share line_of quantity after cascade outcome digits listing
six_shown = record { accepted = refl; chosen = six_chosen; other = refl; before = refl; after = refl; by_row = refl; by_other_row = refl }

-- and so demand 3 says
pub six_stay : Stays six (rearranged six five) five 200
six_stay = customers_alone six 200 six_shown.accepted five six_shown.chosen
