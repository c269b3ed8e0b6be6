-- Demand 3 of a call for columns (request [10]): rearranged customers, each with its trades rearranged too, have the same values at their new places.
-- Assumes nothing.
use Rattle.std.specs.Prelude.{ℕ, ◌≤◌, ◌≡◌, List, [], ◌++◌, length, drop}
use Rattle.std.proofs.Common.{sym, ap₂, ◌∙◌, arith}
use Rattle.std.proofs.Math.Path.{ap}
use Rattle.rules.specs.declared.Terms.{Terms}
use Rattle.rules.specs.Book.{Customer, judge}
use Rattle.rules.specs.Cascade.{outcome}
use Rattle.rules.specs.Answer.{Answer as Answer01}
use Rattle.laws.specs.Sums.{sum_one}
use Rattle.laws.specs.All2.{All2}
use Rattle.consequences.specs.Rearranged.{parts_of, picked, regrouped, Chosen, Retraded}
use Rattle.consequences.specs.Picks.{length_picked, sum_chosen_le}
use Rattle.consequences.specs.Rearrange.{rearranged_accepted}
use Rattle.columns.specs.View.{Runs, view, places_of}
use Rattle.promises.specs.Outcomes.{no_customer, outcome_of}
use Rattle.promises.specs.ViewCall.{ViewCall, book_of, lent_to, left_by, of_contract, Seen, standings_many, offered_many, pending_many, offsets_many, seen_answer}
use Rattle.promises.specs.InColumns.{in_runs, seen_by}
use Rattle.promises.specs.PickedView.{picked_front, some, below, standings_picked, offered_picked, pending_picked, offsets_picked}

-- Demand 3, of two calls: the second book is the first with its customers rearranged, or some of standing N left out, each with its trades in some
-- order that keeps equal stamps as they are, and its runs have no fewer places
pub record Moved (c d : ViewCall) (is : List ℕ) (hs : List (List ℕ)) : Type 0 where
  pub trades : All2 Retraded (picked [] (parts_of (book_of c)).groups is) hs
  pub book : book_of d ≡ regrouped (book_of c) hs
  pub places : places_of (lent_to c) ≤ places_of (lent_to d)

-- the second call is accepted too, and leaves in each run the values that the first left there, each at its customer's new place
pub record SameValues (c d : ViewCall) (is : List ℕ) : Type 0 where
  pub accepted : d.answer.number ≡ 0
  pub size : d.answer.length ≡ length is
  pub standings : (left_by d).standings ≡ picked 0 (left_by c).standings is ++ drop (length is) (lent_to d).standings
  pub offered : (left_by d).offered ≡ picked 0 (left_by c).offered is ++ drop (length is) (lent_to d).offered
  pub pending : (left_by d).pending ≡ picked 0 (left_by c).pending is ++ drop (length is) (lent_to d).pending
  pub offsets : (left_by d).offsets ≡ picked 0 (left_by c).offsets is ++ drop (length is) (lent_to d).offsets

module _ (c d : ViewCall) (is : List ℕ) (hs : List (List ℕ)) (same : Moved c d is hs) (f : Seen (book_of c) (places_of (lent_to c))) (chosen : Chosen (outcome f.terms f.customers).lines is) where
  abbrev terms : Terms
  terms = f.terms

  abbrev cs : List Customer
  cs = f.customers

  abbrev now : List Customer
  now = some terms cs is chosen

  still_seen : Seen (book_of d) (places_of (lent_to d))
  still_seen =
      record {
        terms = terms;
        customers = now;
        judged = ap judge same.book ∙ rearranged_accepted (book_of c) terms cs f.judged is (below terms cs is chosen) chosen.once no_customer hs same.trades;
        enough = omega (
          arith,
          sum_chosen_le (λ c. 1) no_customer cs is (below terms cs is chosen) chosen.once,
          sum_one cs,
          sum_one now,
          f.enough,
          same.places,
        );
      }

  -- one run
  moved : (run : Runs → List ℕ) → length (run (view terms cs)) ≡ length cs → run (view terms now) ≡ picked 0 (run (view terms cs)) is →
      run (left_by c) ≡ run (view terms cs) ++ drop (length cs) (run (lent_to c)) → run (left_by d) ≡ run (view terms now) ++ drop (length now) (run (lent_to d)) →
      run (left_by d) ≡ picked 0 (run (left_by c)) is ++ drop (length is) (run (lent_to d))
  moved run many same-picked before after =
      let front = picked_front (run (view terms cs)) (drop (length cs) (run (lent_to c))) is (rw many (below terms cs is chosen)) in
      after
      ∙ ap₂ (λ (l : List ℕ) (m : ℕ). l ++ drop m (run (lent_to d)))
      (same-picked ∙ sym (ap (λ (l : List ℕ). picked 0 l is) before ∙ front))
      (length_picked no_customer cs is)

  same_values : SameValues c d is
  unfolding still_seen
  same_values =
      let v = in_runs c f in
      let w = in_runs d still_seen in
      let e = seen_answer (book_of d) (places_of (lent_to d)) still_seen (λ v. v.standings) (standings_many terms now) in
      record {
        accepted = (of_contract d).number ∙ ap (λ (a : Answer01). a.number) e;
        size = w.size ∙ length_picked no_customer cs is;
        standings = moved (λ v. v.standings) (standings_many terms cs) (standings_picked terms cs is chosen) v.standings w.standings;
        offered = moved (λ v. v.offered) (offered_many terms cs) (offered_picked terms cs is chosen) v.offered w.offered;
        pending = moved (λ v. v.pending) (pending_many terms cs) (pending_picked terms cs is chosen) v.pending w.pending;
        offsets = moved (λ v. v.offsets) (offsets_many terms cs) (offsets_picked terms cs is chosen) v.offsets w.offsets;
      }

pub demand_3_columns :
    (c d : ViewCall) (is : List ℕ) (hs : List (List ℕ)) → Chosen (outcome_of (book_of c)).lines is → Moved c d is hs → c.answer.number ≡ 0 → SameValues c d is
unfolding outcome_of
demand_3_columns c d is hs chosen same h = let f = seen_by c h in same_values c d is hs same f (rw f.judged at chosen)
