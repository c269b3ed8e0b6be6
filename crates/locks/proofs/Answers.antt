-- What is read ahead, and what is answered of a list by what it was judged to be.
-- Assumes nothing.
use Rattle.std.specs.Prelude.{ℕ, ◌∷◌, [], ◌≤◌, ◌<◌, ◌≡◌, true, List, map, length, Option, Some, None, Result, MatchOption}
use Rattle.std.proofs.Common.{sym, ap, ◌∙◌, arith}
use denote.Bor.{Bor}
use Rattle.rules.specs.Answer.{fitted}
use Rattle.answers.specs.Answered.{Answered}
use Rattle.answers.specs.Answering.{too_small, fits, refused_so}
use Rattle.days.specs.declared.Mark.TheVariants.{Unlocked}
use Rattle.days.specs.declared.Day.{Day}
use Rattle.days.specs.declared.DayList.{DayList}
use Rattle.days.specs.declared.refusal.Refusal.{Refusal}
use Rattle.days.specs.declared.refusal.ListRule.{ListRule}
use Rattle.days.specs.Refusal.{number_of}
use Rattle.days.specs.Lines.{feeds}
use Rattle.days.specs.Listed.{verdict_of, judge}
use Rattle.days.specs.Places.{days_of, days_left, IsTaken, IsNotTaken}
use Rattle.days.specs.Passing.{days_good}
use Rattle.days.specs.Heads.{taken_left}
use Rattle.days.specs.Few.{accepted_few}
use Rattle.writing.specs.Written.{written}
use Rattle.locks.specs.Ladder.{steps}
use Rattle.locks.specs.Listing.{rung_of, answer_of, ladder_in, ladder}
use Rattle.locks.specs.Climbing.{rungs_in, rungs_length, with_ahead, Countable}

-- a day was read ahead, or none is left
pub read_ahead : (r : Option (Result Day ListRule)) {xs ys : List (Result Day ListRule)} → MatchOption r ((xs ≡ []) × (ys ≡ [])) (λ x. xs ≡ x ∷ ys) → (xs ≡ with_ahead r ys) × (r ≡ None → ys ≡ [])
read_ahead None (e, h) = (e ∙ sym h, λ n. h)
read_ahead (Some x) e = (e, λ n. cc)

module _ (items : List (Result Day ListRule)) (count : ℕ) (c : Countable items count) (entry : List ℕ) where
  size : length (rungs_in items) ≡ count
  unfolding steps
  size = rungs_length Unlocked 0 (days_of items) ∙ ap (λ l. length (days_of l)) c.read ∙ ap length (days_good c.days) ∙ c.size

  pub no_room : length entry < count → Answered (fitted (length entry) (rungs_in items)) (record { number = 11; place = count; length = 0 }) entry entry
  no_room h = too_small (rungs_in items) entry count (sym size) h

  pub with_room : {exit : List ℕ} → count ≤ length entry → exit ≡ written 0 (rungs_in items) entry →
      Answered (fitted (length entry) (rungs_in items)) (record { number = 0; place = 0; length = count }) entry exit
  with_room {exit} h e = fits (rungs_in items) entry exit count (omega (arith, size)) e (omega (arith, size))

-- judged to be refused, or taken
module _ (total : ℕ) (s : Bor (List ℕ)) where
  pub countable : (list : DayList) → feeds s.now ≤ total → IsTaken true s (verdict_of true total s.now) list → Countable (days_left list.days) list.count
  countable list all t =
      let (ds, read, size, v) = taken_left true total s list t in
      record { days = ds; read = read; size = size; few = omega (arith, size, accepted_few true total s.now list.metal ds all v) }

  pub taken : (list : DayList) (room : ℕ) → IsTaken true s (verdict_of true total s.now) list → ladder_in total s.now room ≡ fitted room (rungs_in (days_left list.days))
  unfolding ladder_in
  taken list room t =
      let (ds, read, size, v) = taken_left true total s list t in
      ap (answer_of room) v ∙ ap (λ (l : List Day). fitted room (map rung_of (steps l))) (sym (ap days_of read ∙ days_good ds))

  pub refused : (r : Refusal) (room : ℕ) (entry : List ℕ) → IsNotTaken (verdict_of true total s.now) r →
      Answered (ladder_in total s.now room) (record { number = number_of r.rule; place = r.place; length = 0 }) entry entry
  unfolding ladder_in
  refused r room entry v = rw v (refused_so (number_of r.rule) r.place entry)

pub all_feeds : (s : List ℕ) (total room : ℕ) → total ≡ feeds s → ladder_in total s room ≡ ladder s room
unfolding ladder_in ladder judge
all_feeds s total room e = ap (λ n. answer_of room (verdict_of true n s)) e
