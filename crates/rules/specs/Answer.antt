-- docs/RULES.md, section 13. Document 01: "A call on a book and a lent report buffer returns a number, a place and a length."
-- Assumes nothing.
use Rattle.std.specs.Prelude.{ℕ, List, [], ◌++◌, cond, length, drop, ltb}
use Rattle.rules.specs.Refusal as refusal
use Rattle.rules.specs.Book.{Verdict, Refused, Accepted, judge}
use Rattle.rules.specs.Cascade.{outcome}
use Rattle.rules.specs.Report.{report}

pub record Answer : Type 0 where
  pub number : ℕ
  pub place : ℕ
  pub length : ℕ
  pub report : List ℕ

-- "Refused: length 0, and no byte of the report buffer is altered."
abbrev pub refused : ℕ → ℕ → Answer
refused n place = record { number = n; place = place; length = 0; report = [] }

-- "Accepted: 0, place 0, the report's length"; "11: the report is longer than the lent buffer; the length needed". "Number 11 is last."
abbrev pub fitted : ℕ → List ℕ → Answer
fitted room r = cond (ltb room (length r)) (refused refusal.no_room (length r)) (record { number = refusal.accepted; place = 0; length = length r; report = r })

abbrev pub answer_of : ℕ → Verdict → Answer
answer_of room (Refused n place) = refused n place
answer_of room (Accepted terms cs) = fitted room (report (outcome terms cs))

-- the answer for a book and a buffer of so many bytes
unfoldable pub answer : List ℕ → ℕ → Answer
answer s room = answer_of room (judge s)

-- the lent buffer after the call: "bytes of the buffer after the report are as they were"
abbrev pub lent : Answer → List ℕ → List ℕ
lent a buffer = a.report ++ drop (length a.report) buffer
