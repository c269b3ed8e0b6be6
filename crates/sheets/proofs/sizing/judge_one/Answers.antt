-- By the letter.
use Rattle.std.proofs.Common.{sym, ◌∙◌}
use Rattle.sheets.proofs.Numbers.{one_carried, one_other, one_figured}
use Rattle.sheets.proofs.sizing.judge_one.Goals as goal

pub returns-then-carried : goal.returns-then-carried
returns-then-carried c = one_carried c.args.mark c.args.tag c.args.value.now (sym c.carried.ensures ∙ c.if-carried.true)

pub returns-then-not-figured : goal.returns-then-not-figured
returns-then-not-figured c =
    one_other c.args.mark c.args.tag c.args.value.now (sym c.carried.ensures ∙ c.if-carried.false) (sym c.figured.ensures ∙ c.if-not-figured.true)

pub returns : goal.returns
returns c =
    one_figured c.args.mark c.args.tag c.args.value.now (sym c.carried.ensures ∙ c.if-carried.false) (sym c.figured.ensures ∙ c.if-not-figured.false)
    c.judge_figures.result c.judge_figures.ensures
