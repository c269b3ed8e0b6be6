-- What is answered of a list, by what it was judged to be.
-- Assumes nothing.
use Rattle.std.specs.Prelude.{ℕ, ◌≤◌, ◌<◌, ◌≡◌, false, List, [], length, Result}
use Rattle.std.proofs.Common.{sym, ap, ◌∙◌, arith}
use denote.Bor.{Bor}
use Rattle.rules.specs.Answer.{fitted}
use Rattle.answers.specs.Answered.{Answered}
use Rattle.answers.specs.Answering.{too_small, fits, refused_so}
use Rattle.days.specs.declared.Metal.{Metal}
use Rattle.days.specs.declared.Day.{Day}
use Rattle.days.specs.declared.DayList.{DayList}
use Rattle.days.specs.declared.refusal.Refusal.{Refusal}
use Rattle.days.specs.declared.refusal.ListRule.{ListRule}
use Rattle.days.specs.Refusal.{number_of}
use Rattle.days.specs.Lines.{feeds}
use Rattle.days.specs.Listed.{verdict_of, judge}
use Rattle.days.specs.Places.{days_of, days_left, IsTaken, IsNotTaken}
use Rattle.days.specs.Passing.{days_good}
use Rattle.days.specs.Heads.{taken_left}
use Rattle.writing.specs.Written.{written}
use Rattle.watch.specs.Watch.{spans}
use Rattle.watch.specs.Moves.{answer_of, moves_in, moves}
use Rattle.watch.specs.Filling.{spans_in, spans_length, Countable}

module _ (metal : Metal) (items : List (Result Day ListRule)) (count : ℕ) (c : Countable items count) (entry : List ℕ) where
  size : length (spans_in metal items) ≡ count
  unfolding spans
  size = spans_length metal [] (days_of items) ∙ ap (λ l. length (days_of l)) c.read ∙ ap length (days_good c.days) ∙ c.size

  pub no_room : length entry < count → Answered (fitted (length entry) (spans_in metal items)) (record { number = 11; place = count; length = 0 }) entry entry
  no_room h = too_small (spans_in metal items) entry count (sym size) h

  pub with_room : {exit : List ℕ} → count ≤ length entry → exit ≡ written 0 (spans_in metal items) entry →
      Answered (fitted (length entry) (spans_in metal items)) (record { number = 0; place = 0; length = count }) entry exit
  with_room {exit} h e = fits (spans_in metal items) entry exit count (omega (arith, size)) e (omega (arith, size))

-- judged to be refused, or taken
module _ (total : ℕ) (s : Bor (List ℕ)) where
  pub countable : (list : DayList) → IsTaken false s (verdict_of false total s.now) list → Countable (days_left list.days) list.count
  countable list t = let (ds, read, size, v) = taken_left false total s list t in record { days = ds; read = read; size = size }

  pub taken : (list : DayList) (room : ℕ) → IsTaken false s (verdict_of false total s.now) list → moves_in total s.now room ≡ fitted room (spans_in list.metal (days_left list.days))
  unfolding moves_in
  taken list room t =
      let (ds, read, size, v) = taken_left false total s list t in
      ap (answer_of room) v ∙ ap (λ (l : List Day). fitted room (spans list.metal l)) (sym (ap days_of read ∙ days_good ds))

  pub refused : (r : Refusal) (room : ℕ) (entry : List ℕ) → IsNotTaken (verdict_of false total s.now) r →
      Answered (moves_in total s.now room) (record { number = number_of r.rule; place = r.place; length = 0 }) entry entry
  unfolding moves_in
  refused r room entry v = rw v (refused_so (number_of r.rule) r.place entry)

pub all_feeds : (s : List ℕ) (total room : ℕ) → total ≡ feeds s → moves_in total s room ≡ moves s room
unfolding moves_in moves judge
all_feeds s total room e = ap (λ n. answer_of room (verdict_of false n s)) e
