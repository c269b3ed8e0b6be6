-- The whole table: what a call on a book, with a buffer of so many bytes, is given, 11 too. "Number 11 is last": it is given to a book that is sound.
-- Every book is given a number or is sound, and the answer says one thing of it: so a call gets what the table gives it, and nothing else.
-- Assumes nothing.
use Rattle.std.specs.Prelude.{ℕ, ◌<◌, false, ◌≡◌, List, ◌↔◌, length, ltb}
use Rattle.std.proofs.Math.Path.{refl}
use Rattle.std.proofs.Common.{sym, subst, ◌∙◌, arith}
use borrow.Author.Tests.{ltb-true, lt-ltb}
use Rattle.rules.specs.declared.Terms.{Terms}
use Rattle.rules.specs.Refusal as refusal
use Rattle.rules.specs.Book.{Customer}
use Rattle.rules.specs.Cascade.{outcome}
use Rattle.rules.specs.Report.{report}
use Rattle.rules.specs.Answer.{answer}
use Rattle.laws.specs.ByTest.{by_test}
use Rattle.promises.specs.Given.{Given, SoundBook, Decided, refused, accepted}
use Rattle.promises.specs.Refused.{decided, refused_exactly, accepted_exactly}

module _ (s : List ℕ) (room : ℕ) where
  pub data Why : ℕ → ℕ → Type 0 where
    -- 1 to 10, 12 and 13
    by_the_book : {n place : ℕ} → Given s n place → Why n place
    -- 11: "the report is longer than the lent buffer", "the length needed"
    no_room :
        {terms : Terms} {cs : List Customer} →
        SoundBook s terms cs → room < length (report (outcome terms cs)) → Why refusal.no_room (length (report (outcome terms cs)))

  -- what a call is answered
  abbrev Gets : ℕ → ℕ → Type 0
  Gets n place = ((answer s room).number ≡ n) × ((answer s room).place ≡ place)

  why_gets : {n place : ℕ} → Why n place → Gets n place
  unfolding answer
  why_gets (by_the_book {n = n} {place = place} g) = let e = (refused_exactly s n place).1 g in (rw e refl, rw e refl)
  why_gets (no_room {terms = terms} {cs = cs} b h) =
      let e = (accepted_exactly s terms cs).1 b in
      let long = lt-ltb room (length (report (outcome terms cs))) h in
      (rw (e, long) refl, rw (e, long) refl)

  fits_gets : {terms : Terms} {cs : List Customer} → SoundBook s terms cs → ltb room (length (report (outcome terms cs))) ≡ false → (answer s room).number ≡ refusal.accepted
  unfolding answer
  fits_gets {terms = terms} {cs = cs} b short = rw ((accepted_exactly s terms cs).1 b, short) refl

  -- The answer to a book with so much room has a number, and a place, exactly when the table gives them; of a call, `call-exactly`.
  pub number_exactly : (n place : ℕ) → refusal.accepted < n → (((answer s room).number ≡ n) × ((answer s room).place ≡ place)) ↔ Why n place
  number_exactly n place h = (λ e. go e (decided s), λ w. why_gets w)
    where
      agree : {m at : ℕ} → Gets n place → Why m at → Why n place
      agree {m = m} e w = let a = why_gets w in subst (λ (x : ℕ). Why x place) (sym a.0 ∙ e.0) (subst (Why m) (sym a.1 ∙ e.1) w)

      go : Gets n place → Decided s → Why n place
      go e (refused g) = agree e (by_the_book g)
      go e (accepted {terms = terms} {cs = cs} b) =
          by_test (ltb room (length (report (outcome terms cs))))
          (λ long. agree e (no_room b (ltb-true _ _ long)))
          (λ short. let z = fits_gets b short in let y = e.0 in absurd (omega arith))
