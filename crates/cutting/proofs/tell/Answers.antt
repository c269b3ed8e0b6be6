-- What is told by the verdict.
-- Assumes nothing.
use Rattle.std.proofs.Common.{arith, refl, rules}
use Rattle.cutting.proofs.Telling.{refused_so, rowed_so, said_fits, refusal_fits, listed_so, lines_so, nothing_listed}
use Rattle.cutting.proofs.tell.Goals as goal

pub put_refusal-requires : goal.put_refusal-requires
put_refusal-requires c = omega (arith, refusal_fits c.answer_of-answer.result.number (search rules), c.requires.in_bounds)

pub put_said-requires : goal.put_said-requires
put_said-requires c = omega (arith, said_fits c.answer_of-answer.result.number (search rules), c.requires.in_bounds_2)

pub returns-then-answer-ne-ACCEPTED-clause-listed : goal.returns-then-answer-ne-ACCEPTED-clause-listed
returns-then-answer-ne-ACCEPTED-clause-listed c =
    rw (refused_so c.args.input.now c.answer_of-answer.new.cuts c.answer_of-answer.result c.answer_of-answer.ensures c.if-answer-ne-ACCEPTED.true) (listed_so c.put_refusal.ensures refl (omega (arith, refusal_fits c.answer_of-answer.result.number (search rules), c.requires.in_bounds)))

pub returns-then-answer-ne-ACCEPTED-clause-listed_2 : goal.returns-then-answer-ne-ACCEPTED-clause-listed_2
returns-then-answer-ne-ACCEPTED-clause-listed_2 c =
    rw (refused_so c.args.input.now c.answer_of-answer.new.cuts c.answer_of-answer.result c.answer_of-answer.ensures c.if-answer-ne-ACCEPTED.true) (listed_so c.put_said.ensures refl (omega (arith, said_fits c.answer_of-answer.result.number (search rules), c.requires.in_bounds_2)))

pub returns-then-answer-ne-ACCEPTED-clause-status_value : goal.returns-then-answer-ne-ACCEPTED-clause-status_value
returns-then-answer-ne-ACCEPTED-clause-status_value c =
    rw (refused_so c.args.input.now c.answer_of-answer.new.cuts c.answer_of-answer.result c.answer_of-answer.ensures c.if-answer-ne-ACCEPTED.true) refl

pub slice_bounds-cuts-end : goal.slice_bounds-cuts-end
slice_bounds-cuts-end c = omega (arith, (rowed_so c.args.input.now c.answer_of-answer.new.cuts c.answer_of-answer.result c.answer_of-answer.ensures c.if-answer-ne-ACCEPTED.false).few)

pub put_rows-requires-clause-room : goal.put_rows-requires-clause-room
put_rows-requires-clause-room c =
    let w = rowed_so c.args.input.now c.answer_of-answer.new.cuts c.answer_of-answer.result c.answer_of-answer.ensures c.if-answer-ne-ACCEPTED.false in
    rw (lines_so c.args.input.now _ c.behind_lines-seats.ensures.1, w.shown) (omega (arith, w.room, c.requires.in_bounds))

pub put_rows-requires-clause-cuts_in_bounds : goal.put_rows-requires-clause-cuts_in_bounds
put_rows-requires-clause-cuts_in_bounds c =
    let w = rowed_so c.args.input.now c.answer_of-answer.new.cuts c.answer_of-answer.result c.answer_of-answer.ensures c.if-answer-ne-ACCEPTED.false in
    rw (lines_so c.args.input.now _ c.behind_lines-seats.ensures.1, w.shown) w.lines

pub returns-clause-listed : goal.returns-clause-listed
returns-clause-listed c =
    let w = rowed_so c.args.input.now c.answer_of-answer.new.cuts c.answer_of-answer.result c.answer_of-answer.ensures c.if-answer-ne-ACCEPTED.false in
    let wrote = rw (lines_so c.args.input.now _ c.behind_lines-seats.ensures.1, w.shown) at c.put_rows.ensures in
    rw w.is (listed_so wrote refl (omega (arith, w.room, c.requires.in_bounds)))

pub returns-clause-listed_2 : goal.returns-clause-listed_2
returns-clause-listed_2 c =
    let w = rowed_so c.args.input.now c.answer_of-answer.new.cuts c.answer_of-answer.result c.answer_of-answer.ensures c.if-answer-ne-ACCEPTED.false in
    rw w.is (nothing_listed c.args.words.now)

pub returns-clause-status_value : goal.returns-clause-status_value
returns-clause-status_value c =
    let w = rowed_so c.args.input.now c.answer_of-answer.new.cuts c.answer_of-answer.result c.answer_of-answer.ensures c.if-answer-ne-ACCEPTED.false in
    rw w.is refl
