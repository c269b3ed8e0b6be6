-- The whole table, of a call: the number and place that it returns are those that the table gives its book and the length of its buffer, and it returns
-- 0 where the book is sound and the report fits, and nowhere else. Its contract says that its numbers are the answer's, so what holds of those holds here.
-- Assumes nothing.
use Rattle.std.specs.Prelude.{ℕ, ◌≤◌, ◌<◌, ◌≡◌, List, ◌↔◌, length}
use Rattle.std.proofs.Common.{sym, ◌∙◌}
use Rattle.rules.specs.declared.Terms.{Terms}
use Rattle.rules.specs.Refusal as refusal
use Rattle.rules.specs.Book.{Customer}
use Rattle.rules.specs.Cascade.{outcome}
use Rattle.rules.specs.Report.{report}
use Rattle.rules.specs.Answer.{answer}
use Rattle.answers.specs.Answered.{Answered}
use Rattle.promises.specs.Call.{Call, book_of, lent_to, left_by}
use Rattle.promises.specs.Outcomes.{Fits, accepted_fits, fits_accepted}
use Rattle.promises.specs.Given.{SoundBook}
use Rattle.promises.specs.Refused.{accepted_exactly}
use Rattle.promises.specs.Numbers.{Why, number_exactly}

-- a sound book, and a report that fits the room
pub record SoundFits (s : List ℕ) (room : ℕ) : Type 0 where
  pub terms : Terms
  pub customers : List Customer
  pub sound : SoundBook s terms customers
  pub room_enough : length (report (outcome terms customers)) ≤ room

module _ (s : List ℕ) (room : ℕ) where
  fits_sound : Fits s room → SoundFits s room
  fits_sound f =
      record {
        terms = f.terms;
        customers = f.customers;
        sound = (accepted_exactly s f.terms f.customers).0 f.judged;
        room_enough = f.room_enough;
      }

  sound_fits : SoundFits s room → Fits s room
  sound_fits f =
      record {
        terms = f.terms;
        customers = f.customers;
        judged = (accepted_exactly s f.terms f.customers).1 f.sound;
        room_enough = f.room_enough;
      }

module _ (c : Call) where
  of_contract : Answered (answer (book_of c) (length (lent_to c))) c.answer (lent_to c) (left_by c)
  of_contract = c.contract

  pub call_exactly : (n place : ℕ) → refusal.accepted < n → ((c.answer.number ≡ n) × (c.answer.place ≡ place)) ↔ Why (book_of c) (length (lent_to c)) n place
  call_exactly n place h =
      let exactly = number_exactly (book_of c) (length (lent_to c)) n place h in (
        λ e. exactly.0 (sym of_contract.number ∙ e.0, sym of_contract.place ∙ e.1),
        λ w. let gets = exactly.1 w in (of_contract.number ∙ gets.0, of_contract.place ∙ gets.1),
      )

  pub accepted_call_exactly : (c.answer.number ≡ refusal.accepted) ↔ SoundFits (book_of c) (length (lent_to c))
  accepted_call_exactly = (
    λ e. fits_sound (book_of c) (length (lent_to c)) (accepted_fits (book_of c) (length (lent_to c)) (sym of_contract.number ∙ e)),
    λ f. of_contract.number ∙ fits_accepted (book_of c) (length (lent_to c)) (sound_fits (book_of c) (length (lent_to c)) f),
  )
