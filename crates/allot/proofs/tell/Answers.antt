-- The listing, and of a refused book the words that go with its number.
-- Assumes nothing.
use Rattle.std.proofs.Common.{ℕ, arith, rules, subst}
use Rattle.rules.specs.Text.{bytes}
use Rattle.rules.specs.Book.{judge}
use Rattle.writing.specs.Written.{Wrote}
use Rattle.reasons.specs.Reason.{said}
use Rattle.allot.proofs.Tells.{short, refused, accepted}
use Rattle.allot.proofs.tell.Goals as goal

pub returns-then-listed-eq-ACCEPTED-clause-listed_2 : goal.returns-then-listed-eq-ACCEPTED-clause-listed_2
returns-then-listed-eq-ACCEPTED-clause-listed_2 c =
    (accepted c.args.book.now c.args.words.now c.list-listed.result.number c.list-listed.result.place c.list-listed.ensures.judged c.if-listed-eq-ACCEPTED.true).0

pub returns-then-listed-eq-ACCEPTED-clause-status_value : goal.returns-then-listed-eq-ACCEPTED-clause-status_value
returns-then-listed-eq-ACCEPTED-clause-status_value c =
    (accepted c.args.book.now c.args.words.now c.list-listed.result.number c.list-listed.result.place c.list-listed.ensures.judged c.if-listed-eq-ACCEPTED.true).1

pub put_said-requires : goal.put_said-requires
put_said-requires c = omega (arith, short c.list-listed.result.number c.list-listed.result.place c.field_at-field.result (search rules) (search rules), c.requires.in_bounds_2)

pub returns-clause-listed_2 : goal.returns-clause-listed_2
returns-clause-listed_2 c =
    (refused c.args.book.now c.args.words.now c.put_said.new.out c.list-listed.result.number c.list-listed.result.place c.put_said.result (judge c.args.book.now)
    c.list-listed.ensures.judged c.if-listed-eq-ACCEPTED.false
    (subst (λ (k : ℕ). Wrote 0 (said (bytes "allot") c.list-listed.result.number c.list-listed.result.place k) c.args.words.now c.put_said.new.out c.put_said.result) c.field_at-field.ensures c.put_said.ensures)
    (omega (arith, short c.list-listed.result.number c.list-listed.result.place c.field_at-field.result (search rules) (search rules), c.requires.in_bounds_2, c.put_said.ensures.next))).0
