-- Request [2]: "Demand 3 now lets a customer's own trades be rearranged too, so long as trades of equal day and minute keep their order." A book in which it
-- matters: W1's trades stand in order, and then in another order, with the customers in another order too and N1 left out. Its newest lots are those sold
-- at 450.00 and then at 410.00, of one minute, and make it tier 1. Were the newest found by their places, it would be tier 3 in the second book. And were
-- these two to change places, it would be tier 2: without the condition demand 3 is false.
-- Assumes nothing.
use Rattle.std.specs.Prelude.{ℕ, zero, suc, ◌<◌, ◌≡◌, refl, true, false, List, [], ◌∷◌, map, reverse, get_or}
use Rattle.std.proofs.Common.{ap, arith}
use Rattle.rules.specs.declared.Standing.TheVariants.{Neither}
use Rattle.rules.specs.Text.{bytes}
use Rattle.rules.specs.Figures.{written_of, figure_of}
use Rattle.rules.specs.Stamp.{stamp_of}
use Rattle.rules.specs.Opening.{opening_of}
use Rattle.rules.specs.Codes.{is_code}
use Rattle.rules.specs.Fields.{fields_of}
use Rattle.rules.specs.Book.{Customer, within, step, Verdict, Refused, Accepted, judge}
use Rattle.rules.specs.Standing.{gain_from, total_gain, standing}
use Rattle.rules.specs.Division.{one_if, left_over_of, rank, share_of, share}
use Rattle.rules.specs.Cascade.{line_of, quantity, after, cascade, outcome}
use Rattle.rules.specs.Seats.{seat_lots}
use Rattle.rules.specs.Report.{digits, reported_seat, reported, report, listing, listing_of}
use Rattle.rules.specs.Answer.{answer}
use Rattle.laws.specs.All2.{All2}
use Rattle.consequences.specs.Rearranged.{parts_of, regrouped, trades_of, trade_at, among, nobody, Chosen}
use Rattle.consequences.specs.Reordered.{as_they_stand}
use Rattle.consequences.specs.Reindexed.{Reindexes, each_reindexed}
use Rattle.cases.specs.Tables.{gold, bought, sold, bought_as, sold_as, customer, book}
use Rattle.promises.specs.Outcomes.{outcome_of}
use Rattle.promises.specs.Demand3.{Stays}
use Rattle.promises.specs.ByIndices.{groups_at, by_indices}

-- W1 is short 10: sold and bought, the oldest first, and of one minute 410.00 before 450.00
abbrev pub four : List ℕ
four =
    book gold
    (customer "P1" "4" "0" "4" (bought "440.00 4" ∷ [])
    ∷ customer "N1" "10" "0" "10" (bought "431.99 10" ∷ [])
    ∷ customer "W1" "2" "12" "0" (sold_as "401.00 10 20250114 1000" ∷ bought_as "400.00 2 20250115 2100" ∷ sold_as "410.00 6 20250115 0900" ∷ sold_as "450.00 6 20250115 0900" ∷ [])
    ∷ customer "W2" "0" "3" "0" (sold "420.00 3" ∷ [])
    ∷ [])

-- W2, W1, P1, and the trades of each: of W1 the one at 410.00 comes first, and stays before that at 450.00
abbrev pub three : List ℕ
three = 3 ∷ 2 ∷ 0 ∷ []

abbrev of_w1 : List ℕ
of_w1 = 2 ∷ 1 ∷ 3 ∷ 0 ∷ []

abbrev pub orders : List (List ℕ)
orders = (0 ∷ []) ∷ of_w1 ∷ (0 ∷ []) ∷ []

abbrev pub moved : List ℕ
moved = regrouped four (each_reindexed (groups_at four three) orders)

-- a program that finds the newest by their places in the book: a customer's trades, the last first
abbrev held_by_place : List (List ℕ) → List Customer → List Customer
held_by_place [] cs = []
held_by_place (g ∷ gs) [] = []
held_by_place (g ∷ gs) (c ∷ cs) = record { code = c.code; seats = c.seats; trades = reverse (map trade_at (trades_of g)) } ∷ held_by_place gs cs

abbrev pub by_place_of : List ℕ → Verdict → Verdict
by_place_of s (Refused n place) = Refused n place
by_place_of s (Accepted terms cs) = Accepted terms (held_by_place (parts_of s).groups cs)

pub record Shown : Type 0 where
  pub accepted : (answer four 200).number ≡ 0
  pub chosen : Chosen (outcome_of four).lines three
  pub in_order : All2 Reindexes (groups_at four three) orders
  pub is : moved ≡ book gold
      (customer "W2" "0" "3" "0" (sold "420.00 3" ∷ [])
      ∷ customer "W1" "2" "12" "0" (sold_as "410.00 6 20250115 0900" ∷ bought_as "400.00 2 20250115 2100" ∷ sold_as "450.00 6 20250115 0900" ∷ sold_as "401.00 10 20250114 1000" ∷ [])
      ∷ customer "P1" "4" "0" "4" (bought "440.00 4" ∷ [])
      ∷ [])
  pub before : listing four ≡ bytes "total 4\nleft 0\nP1 P 4\nN1 N 0\nW1 1 4\nW2 2 0\n"
  pub after : listing moved ≡ bytes "total 4\nleft 0\nW2 2 0\nW1 1 4\nP1 P 4\n"
  -- by place W1 is tier 1 in the one order and tier 3 in the other, and its lots move to W2
  pub by_place : listing_of (by_place_of four (judge four)) ≡ listing four
  pub by_other_place : listing_of (by_place_of moved (judge moved)) ≡ bytes "total 4\nleft 0\nW2 2 3\nW1 3 1\nP1 P 4\n"

pub below_four : (P : ℕ → Type 0) → P 0 → P 1 → P 2 → P 3 → (i : ℕ) → i < 4 → P i
below_four P a b c d zero h = a
below_four P a b c d (suc zero) h = b
below_four P a b c d (suc (suc zero)) h = c
below_four P a b c d (suc (suc (suc zero))) h = d
below_four P a b c d (suc (suc (suc (suc i)))) h = absurd (omega arith)

three_chosen : Chosen (outcome_of four).lines three
unfolding outcome_of written_of figure_of opening_of stamp_of is_code fields_of within step judge gain_from total_gain standing left_over_of rank share_of share line_of quantity after cascade outcome
three_chosen =
    let in-it : (i : ℕ) → among i three ≡ true → among i three ≡ false → (get_or (outcome_of four).lines i nobody).standing ≡ Neither =
    λ i e f. absurd (omega (arith, ap one_if e, ap one_if f)) in
    record {
      below = (omega arith, (omega arith, (omega arith, tt)));
      once = (refl, (refl, (refl, tt)));
      bystanders = below_four (λ i. among i three ≡ false → (get_or (outcome_of four).lines i nobody).standing ≡ Neither) (in-it 0 refl) (λ e. refl) (in-it 2 refl) (in-it 3 refl);
    }

trades_in_order : All2 Reindexes (groups_at four three) orders
unfolding parts_of written_of figure_of opening_of stamp_of
trades_in_order = (
  as_they_stand _ 1,
  (
    record {
      below = (omega arith, (omega arith, (omega arith, (omega arith, tt))));
      all = below_four (λ i. among i of_w1 ≡ true) refl refl refl refl;
      order = ((λ e. omega arith, (λ e. omega arith, (λ e. omega arith, tt))), ((λ e. omega arith, (λ e. omega arith, tt)), ((λ e. omega arith, tt), (tt, tt))));
    },
    (as_they_stand _ 1, tt),
  ),
)

pub trades_shown : Shown
unfolding answer report reported reported_seat seat_lots regrouped parts_of outcome_of written_of figure_of opening_of stamp_of is_code fields_of within step judge gain_from total_gain standing left_over_of rank share_of share line_of quantity after cascade outcome digits listing
trades_shown = record { accepted = refl; chosen = three_chosen; in_order = trades_in_order; is = refl; before = refl; after = refl; by_place = refl; by_other_place = refl }

-- and so demand 3 says
pub trades_stay : Stays four moved three 200
trades_stay = by_indices four 200 trades_shown.accepted three trades_shown.chosen orders trades_shown.in_order
