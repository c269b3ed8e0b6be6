-- What an accepted answer says of a book: the outcome whose report stands in the buffer.
-- Assumes nothing.
use Rattle.std.specs.Prelude.{ℕ, ◌≤◌, ◌≡◌, refl, Bool, true, false, List, [], length, ltb}
use Rattle.std.proofs.Common.{sym, ap, ◌∙◌, le-ltb, ltb-false, arith}
use Rattle.rules.specs.declared.Terms.{Terms}
use Rattle.rules.specs.Book.{Customer, Verdict, Refused, Accepted, judge}
use Rattle.rules.specs.Cascade.{Outcome, outcome}
use Rattle.rules.specs.Report.{report}
use Rattle.rules.specs.Answer.{answer_of, answer}
use Rattle.laws.specs.Sane.{refused_above}

-- nobody, where an index is none of the book's
abbrev pub no_customer : Customer
no_customer = record { code = []; seats = []; trades = [] }

abbrev pub outcome_in : Verdict → Outcome
outcome_in (Refused n place) = record { total = 0; residue = 0; lines = [] }
outcome_in (Accepted terms cs) = outcome terms cs

-- the total, the residue and the customers' lines of a book, in its order; nothing where the book is refused
unfoldable pub outcome_of : List ℕ → Outcome
outcome_of s = outcome_in (judge s)

-- a book that is accepted with so much room: its customers, and a report that fits
pub record Fits (s : List ℕ) (room : ℕ) : Type 0 where
  pub terms : Terms
  pub customers : List Customer
  pub judged : judge s ≡ Accepted terms customers
  pub room_enough : length (report (outcome terms customers)) ≤ room

pub accepted_fits : (s : List ℕ) (room : ℕ) → (answer s room).number ≡ 0 → Fits s room
unfolding answer
accepted_fits s room h = go (judge s) refl
  where
    go : (v : Verdict) → judge s ≡ v → Fits s room
    go (Refused n place) e =
        let z : n ≡ 0 = ap (λ (v : Verdict). (answer_of room v).number) (sym e) ∙ h in
        absurd (omega (arith, refused_above s n place e))
    go (Accepted terms cs) e = enough (ltb room (length (report (outcome terms cs)))) refl
      where
        enough : (b : Bool) → ltb room (length (report (outcome terms cs))) ≡ b → Fits s room
        enough true q = let z : ◌≡◌ {A = ℕ} 11 0 = sym (rw (e, q) refl) ∙ h in absurd (omega arith)
        enough false q = record { terms = terms; customers = cs; judged = e; room_enough = ltb-false _ _ q }

pub fits_accepted : (s : List ℕ) (room : ℕ) → Fits s room → (answer s room).number ≡ 0
unfolding answer
fits_accepted s room f = rw (f.judged, le-ltb room (length (report (outcome f.terms f.customers))) f.room_enough)

-- the report in the buffer is the outcome's
pub fits_report : (s : List ℕ) (room : ℕ) → Fits s room → (answer s room).report ≡ report (outcome_of s)
unfolding answer outcome_of
fits_report s room f = rw (f.judged, le-ltb room (length (report (outcome f.terms f.customers))) f.room_enough)
