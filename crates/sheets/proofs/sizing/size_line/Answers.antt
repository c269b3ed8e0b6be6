-- By the form of the line.
use Rattle.sheets.proofs.Fitting.{one_sized, four_sized}
use Rattle.sheets.proofs.sizing.size_line.Goals as goal

pub returns-in_ok-judge_one-in-Some-One : goal.returns-in_ok-judge_one-in-Some-One
returns-in_ok-judge_one-in-Some-One c =
    one_sized c.args.mark c.args.sheet.now c.args.at c.in-Some-One.tag c.in-Some-One.end (rw c.in-Some-One.field-0-is at c.in-Some-One.ensures) c.in_ok-judge_one-in-Some-One.ensures

pub returns-in_ok-judge_four-in-Some-Four : goal.returns-in_ok-judge_four-in-Some-Four
returns-in_ok-judge_four-in-Some-Four c =
    let p = c.in-Some-Four.parts in
    four_sized c.args.mark c.args.sheet.now c.args.at c.in-Some-Four.tag p.first p.second p.third p.end (rw c.in-Some-Four.field-0-is at c.in-Some-Four.ensures) _ c.in_ok-judge_four-in-Some-Four.ensures c.size_of_four.ensures
