-- Demands 1 and 2 of a call for columns (request [10]). 1: "Refused: no place of any run is altered", and number and place are the table's, with 11 for a run
-- of too few places. 2: accepted, the view of the customers stands in the runs' first places, and "the rest as they were".
-- Assumes nothing.
use Rattle.std.specs.Prelude.{ℕ, ◌<◌, ◌≡◌, true, length, drop, ltb}
use Rattle.std.proofs.Math.Path.{refl, ap}
use Rattle.std.proofs.Common.{subst, sym, ◌∙◌, arith}
use mathlib.Core.List.{List, ◌++◌}
use borrow.Author.Tests.{ltb-true, ltb-false}
use Rattle.rules.specs.declared.Terms.{Terms}
use Rattle.rules.specs.Refusal as refusal
use Rattle.rules.specs.Book.{Customer, Verdict, Refused, Accepted, judge}
use Rattle.rules.specs.Answer.{refused, lent}
use Rattle.rules.specs.Answer.{Answer as Answer01}
use Rattle.laws.specs.ByTest.{by_test}
use Rattle.columns.specs.View.{Runs, runs, view, places_of, viewed_of, viewed}
use Rattle.promises.specs.Given.{Given}
use Rattle.promises.specs.Refused.{refused_exactly}
use Rattle.promises.specs.ViewCall.{ViewCall, book_of, lent_to, left_by, of_contract, Seen, seen, standings_many, offered_many, pending_many, offsets_many, seen_answer, seen_run}

-- Demand 2
pub record InRuns (c : ViewCall) (terms : Terms) (customers : List Customer) : Type 0 where
  pub place : c.answer.place ≡ 0
  pub size : c.answer.length ≡ length customers
  pub standings : (left_by c).standings ≡ (view terms customers).standings ++ drop (length customers) (lent_to c).standings
  pub offered : (left_by c).offered ≡ (view terms customers).offered ++ drop (length customers) (lent_to c).offered
  pub pending : (left_by c).pending ≡ (view terms customers).pending ++ drop (length customers) (lent_to c).pending
  pub offsets : (left_by c).offsets ≡ (view terms customers).offsets ++ drop (length customers) (lent_to c).offsets

pub in_runs : (c : ViewCall) (f : Seen (book_of c) (places_of (lent_to c))) → InRuns c f.terms f.customers
in_runs c f =
    let s = book_of c in
    let room = places_of (lent_to c) in
    let v = of_contract c in
    let e = seen_answer s room f (λ v. v.standings) (standings_many f.terms f.customers) in
    record {
      place = v.place ∙ ap (λ (a : Answer01). a.place) e;
      size = v.length ∙ ap (λ (a : Answer01). a.length) e;
      standings = v.standings ∙ seen_run s room f (λ v. v.standings) (standings_many f.terms f.customers) _;
      offered = v.offered ∙ seen_run s room f (λ v. v.offered) (offered_many f.terms f.customers) _;
      pending = v.pending ∙ seen_run s room f (λ v. v.pending) (pending_many f.terms f.customers) _;
      offsets = v.offsets ∙ seen_run s room f (λ v. v.offsets) (offsets_many f.terms f.customers) _;
    }

pub seen_by : (c : ViewCall) → c.answer.number ≡ 0 → Seen (book_of c) (places_of (lent_to c))
seen_by c h = seen (book_of c) (places_of (lent_to c)) (sym (of_contract c).number ∙ h)

pub demand_2_columns : (c : ViewCall) → c.answer.number ≡ 0 → (f : Seen (book_of c) (places_of (lent_to c))) × InRuns c f.terms f.customers
demand_2_columns c h = let f = seen_by c h in (f, in_runs c f)

-- Demand 1: 1 to 10 and 12 by the table, or 11 with a sound book
pub data WhyNot (s : List ℕ) (room : ℕ) : ℕ → ℕ → Type 0 where
  by_the_book : {n place : ℕ} → Given s n place → WhyNot s room n place
  no_room : {terms : Terms} {cs : List Customer} → judge s ≡ Accepted terms cs → room < length cs → WhyNot s room refusal.no_room (length cs)

pub record Unaltered (c : ViewCall) : Type 0 where
  pub why : WhyNot (book_of c) (places_of (lent_to c)) c.answer.number c.answer.place
  pub none : c.answer.length ≡ 0
  pub as_lent : left_by c ≡ lent_to c

module _ (c : ViewCall) where
  abbrev s : List ℕ
  s = book_of c

  abbrev room : ℕ
  room = places_of (lent_to c)

  -- all four runs are refused
  record Refuses (n place : ℕ) : Type 0 where
    standings : viewed s room (λ v. v.standings) ≡ refused n place
    offered : viewed s room (λ v. v.offered) ≡ refused n place
    pending : viewed s room (λ v. v.pending) ≡ refused n place
    offsets : viewed s room (λ v. v.offsets) ≡ refused n place

  unaltered : (n place : ℕ) → WhyNot s room n place → Refuses n place → Unaltered c
  unaltered n place w r =
      let v = of_contract c in
      let number : c.answer.number ≡ n = v.number ∙ ap (λ (a : Answer01). a.number) r.standings in
      let at : c.answer.place ≡ place = v.place ∙ ap (λ (a : Answer01). a.place) r.standings in
      let kept : (a : Answer01) (entry exit : List ℕ) → a ≡ refused n place → exit ≡ lent a entry → exit ≡ entry = λ a entry exit e f. f ∙ ap (λ (b : Answer01). lent b entry) e in
      let standings = kept _ (lent_to c).standings (left_by c).standings r.standings v.standings in
      let offered = kept _ (lent_to c).offered (left_by c).offered r.offered v.offered in
      let pending = kept _ (lent_to c).pending (left_by c).pending r.pending v.pending in
      let offsets = kept _ (lent_to c).offsets (left_by c).offsets r.offsets v.offsets in
      record {
        why = subst (λ (x : ℕ). WhyNot s room x c.answer.place) (sym number) (subst (λ (x : ℕ). WhyNot s room n x) (sym at) w);
        none = v.length ∙ ap (λ (a : Answer01). a.length) r.standings;
        as_lent = λ i. runs (standings i) (offered i) (pending i) (offsets i);
      }

  -- 11 for one run, of a book with more customers than places
  few : (terms : Terms) (cs : List Customer) → judge s ≡ Accepted terms cs → ltb room (length cs) ≡ true → (run : Runs → List ℕ) → length (run (view terms cs)) ≡ length cs →
      viewed s room run ≡ refused refusal.no_room (length cs)
  unfolding viewed
  few terms cs e q run many = rw (e, many, q)

  pub demand_1_columns : 0 < c.answer.number → Unaltered c
  unfolding viewed
  demand_1_columns h = go (judge s) refl
    where
      go : (v : Verdict) → judge s ≡ v → Unaltered c
      go (Refused n place) e =
          let r : (run : Runs → List ℕ) → viewed s room run ≡ refused n place = λ run. ap (λ (v : Verdict). viewed_of room v run) e in
          unaltered n place (by_the_book ((refused_exactly s n place).0 e)) (record { standings = r _; offered = r _; pending = r _; offsets = r _ })
      go (Accepted terms cs) e =
          by_test (ltb room (length cs))
          (λ q. unaltered refusal.no_room (length cs) (no_room e (ltb-true _ _ q)) (record {
            standings = few terms cs e q _ (standings_many terms cs);
            offered = few terms cs e q _ (offered_many terms cs);
            pending = few terms cs e q _ (pending_many terms cs);
            offsets = few terms cs e q _ (offsets_many terms cs);
          }))
          (λ q. let f : Seen s room = record { terms = terms; customers = cs; judged = e; enough = ltb-false _ _ q } in
          let z : c.answer.number ≡ 0 = (of_contract c).number ∙ ap (λ (a : Answer01). a.number) (seen_answer s room f (λ v. v.standings) (standings_many terms cs)) in
          absurd (omega arith))
