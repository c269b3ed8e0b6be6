-- Demands 1 and 2 of a call, for what it returns and leaves in the buffer, whatever the book and whatever stood in the buffer: they follow from its
-- contract in the source, which has no `requires` (`Asked`).
-- Assumes nothing.
use Rattle.std.specs.Prelude.{ℕ, ◌<◌, ◌≡◌, List, ◌++◌, length, drop, ltb}
use Rattle.std.proofs.Math.Path.{refl}
use Rattle.std.proofs.Common.{sym, ◌∙◌, arith}
use borrow.Author.Tests.{le-ltb}
use Rattle.rules.specs.declared.Terms.{Terms}
use Rattle.rules.specs.Book.{Customer, Verdict, Refused, Accepted, judge}
use Rattle.rules.specs.Cascade.{outcome}
use Rattle.rules.specs.Report.{report}
use Rattle.rules.specs.Answer.{answer}
use Rattle.answers.specs.declared.Answer.{Answer}
use Rattle.answers.specs.Answered.{Answered}
use Rattle.promises.specs.Call.{Call, book_of, lent_to, left_by}
use Rattle.laws.specs.ByTest.{by_test}
use Rattle.promises.specs.Outcomes.{Fits, accepted_fits}
use Rattle.promises.specs.Numbers.{Why, number_exactly}

-- Demand 1: "A book that breaks the rules gets the number and place that the rules give it, and the report buffer is untouched."
pub record Untouched (s entry : List ℕ) (r : Answer) (exit : List ℕ) : Type 0 where
  pub why : Why s (length entry) r.number r.place
  pub none : r.length ≡ 0
  pub buffer : exit ≡ entry

-- Demand 2: "Each customer's standing and offset lots, the total and the residue are exactly those of Article 24 as document 01 completes it": the
-- report of the outcome stands at the front of the buffer, and all else is as it was.
pub record Reported (s entry : List ℕ) (r : Answer) (exit : List ℕ) : Type 0 where
  pub terms : Terms
  pub customers : List Customer
  pub judged : judge s ≡ Accepted terms customers
  pub place : r.place ≡ 0
  pub size : r.length ≡ length (report (outcome terms customers))
  pub buffer : exit ≡ report (outcome terms customers) ++ drop (length (report (outcome terms customers))) entry

-- from what the contract says
module _ (s entry : List ℕ) (r : Answer) (exit : List ℕ) (a : Answered (answer s (length entry)) r entry exit) where
  -- a refusal leaves the buffer as it was, whatever its number
  kept : (v : Verdict) → judge s ≡ v → 0 < r.number → (r.length ≡ 0) × (exit ≡ entry)
  unfolding answer
  kept (Refused n place) e h = (a.length ∙ rw e refl, a.buffer ∙ rw e refl)
  kept (Accepted terms cs) e h =
      by_test (ltb (length entry) (length (report (outcome terms cs))))
      (λ long. (a.length ∙ rw (e, long) refl, a.buffer ∙ rw (e, long) refl))
      (λ short. let z : r.number ≡ 0 = a.number ∙ rw (e, short) refl in absurd (omega arith))

  untouched : 0 < r.number → Untouched s entry r exit
  untouched h =
      let k = kept (judge s) refl h in
      record { why = (number_exactly s (length entry) r.number r.place h).0 (sym a.number, sym a.place); none = k.0; buffer = k.1 }

  reported_so : Fits s (length entry) → Reported s entry r exit
  unfolding answer
  reported_so f =
      let short = le-ltb (length entry) (length (report (outcome f.terms f.customers))) f.room_enough in
      record {
        terms = f.terms;
        customers = f.customers;
        judged = f.judged;
        place = a.place ∙ rw (f.judged, short) refl;
        size = a.length ∙ rw (f.judged, short) refl;
        buffer = a.buffer ∙ rw (f.judged, short) refl;
      }

  reported : r.number ≡ 0 → Reported s entry r exit
  reported h = reported_so (accepted_fits s (length entry) (sym a.number ∙ h))

pub demand_1 : (c : Call) → 0 < c.answer.number → Untouched (book_of c) (lent_to c) c.answer (left_by c)
demand_1 c = untouched (book_of c) (lent_to c) c.answer (left_by c) c.contract

pub demand_2 : (c : Call) → c.answer.number ≡ 0 → Reported (book_of c) (lent_to c) c.answer (left_by c)
demand_2 c = reported (book_of c) (lent_to c) c.answer (left_by c) c.contract
