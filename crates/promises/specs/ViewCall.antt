-- A call of `frundavel_columns` that has come back, as far as its contract in the source allows: see `Call`. An accepted one was handed a book that the rules
-- accept and runs with a place for each customer, and then the view of the customers stands in the runs' first places.
-- Assumes nothing.
use Rattle.std.specs.Prelude.{ℕ, ◌≤◌, List, ◌++◌, map, length, drop}
use Rattle.std.proofs.Math.Path.{◌≡◌, refl, sym, ap}
use Rattle.std.proofs.Common.{◌∙◌, arith}
use Rattle.std.proofs.Math.Bool.{true}
use contract.Lifetimes.{Lfts}
use denote.Triple.Entry.{Args}
use denote.Triple.Clauses.{AtExit}
use Rattle.std.proofs.Math.ListN.{length-map}
use Rattle.std.proofs.Math.Dec.{ltb}
use borrow.Author.Tests.{le-ltb, ltb-false}
use Rattle.rules.specs.declared.Terms.{Terms}
use Rattle.rules.specs.Refusal as refusal
use Rattle.rules.specs.Book.{Customer, Verdict, Refused, Accepted, judge}
use Rattle.rules.specs.Cascade.{Line, line_of, pending_of, outcome}
use Rattle.rules.specs.Report.{letter}
use Rattle.rules.specs.Answer.{lent}
use Rattle.laws.specs.ByTest.{by_test}
use Rattle.laws.specs.Sane.{refused_above}
use Rattle.consequences.specs.Lines.{lines_many}
use Rattle.answers.specs.declared.Answer.{Answer}
use Rattle.cascade.specs.State.{offset_of}
use Rattle.columns.specs.Layouts.{standing_of, offered_of}
use Rattle.columns.specs.View.{Runs, runs, view, places_of, viewed_of, viewed, Viewed}
use Rattle.frundavel.proofs as frundavel
use Rattle.frundavel.specs.contracts as frundavel_contracts

pub record ViewCall : Type 0 where
  pub lifetimes : Lfts 5
  pub arguments : Args frundavel_contracts.frundavel_columns.signature lifetimes
  pub answer : Answer
  pub exit : AtExit frundavel_contracts.frundavel_columns.ended lifetimes
  pub contract : frundavel.frundavel_columns.Reads.Learnt lifetimes arguments answer exit

-- the book; the four runs as they were lent, and as they are left
module _ (c : ViewCall) where
  abbrev pub book_of : List ℕ
  book_of = c.arguments.0.now

  abbrev pub lent_to : Runs
  lent_to = let a = c.arguments in runs a.1.0.now a.1.1.0.now a.1.1.1.0.now a.1.1.1.1.0.now

  abbrev pub left_by : Runs
  left_by = let e = c.exit in runs e.1.0.now e.1.1.0.now e.1.1.1.0.now e.1.1.1.1.0.now

  pub of_contract : Viewed (viewed book_of (places_of lent_to)) lent_to left_by c.answer
  of_contract = c.contract

-- a book that is accepted with so many places
pub record Seen (s : List ℕ) (room : ℕ) : Type 0 where
  pub terms : Terms
  pub customers : List Customer
  pub judged : judge s ≡ Accepted terms customers
  pub enough : length customers ≤ room

-- each run of a view has a place for each customer
module _ (terms : Terms) (cs : List Customer) where
  lines_length : {A : Type 0} (f : Line → A) → length (map f (map (line_of terms) cs)) ≡ length cs
  lines_length f = length-map (map (line_of terms) cs) f ∙ length-map cs (line_of terms)

  pub standings_many : length (view terms cs).standings ≡ length cs
  unfolding view
  standings_many = length-map (map standing_of (map (line_of terms) cs)) letter ∙ lines_length standing_of

  pub offered_many : length (view terms cs).offered ≡ length cs
  unfolding view
  offered_many = lines_length offered_of

  pub pending_many : length (view terms cs).pending ≡ length cs
  unfolding view
  pending_many = lines_length pending_of

  pub offsets_many : length (view terms cs).offsets ≡ length cs
  unfolding view
  offsets_many = length-map (outcome terms cs).lines offset_of ∙ lines_many terms cs

module _ (s : List ℕ) (room : ℕ) where
  -- number 0 is an accepted book's, and nothing but its runs' room can make it 11
  pub seen : (viewed s room (λ v. v.standings)).number ≡ 0 → Seen s room
  unfolding viewed
  seen h = go (judge s) refl
    where
      go : (v : Verdict) → judge s ≡ v → Seen s room
      go (Refused n place) e =
          let z : n ≡ 0 = ap (λ (v : Verdict). (viewed_of room v (λ r. r.standings)).number) (sym e) ∙ h in
          absurd (omega (arith, refused_above s n place e))
      go (Accepted terms cs) e = by_test (ltb room (length cs)) few (λ q. record { terms = terms; customers = cs; judged = e; enough = ltb-false _ _ q })
        where
          few : ltb room (length cs) ≡ true → Seen s room
          few q = let z : ◌≡◌ {A = ℕ} 11 0 = sym (rw (e, standings_many terms cs, q) refl) ∙ h in absurd (omega arith)

  module _ (f : Seen s room) (run : Runs → List ℕ) (many : length (run (view f.terms f.customers)) ≡ length f.customers) where
    pub seen_answer : viewed s room run ≡ record { number = refusal.accepted; place = 0; length = length f.customers; report = run (view f.terms f.customers) }
    unfolding viewed
    seen_answer = rw (f.judged, many, le-ltb room (length f.customers) f.enough)

    pub seen_run : (entry : List ℕ) → lent (viewed s room run) entry ≡ run (view f.terms f.customers) ++ drop (length f.customers) entry
    seen_run entry = rw (seen_answer, many)
