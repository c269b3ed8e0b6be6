-- A value is carried over, or its marks become points.
use Rattle.std.proofs.Common.{sym, ◌∙◌}
use Rattle.sheets.proofs.Carries.{one_wrote, figure_wrote}
use Rattle.sheets.proofs.putting.put_one.Goals as goal

pub returns-then-carried : goal.returns-then-carried
returns-then-carried c = one_wrote c.args.mark c.args.tag c.args.value.now (sym c.carried.ensures ∙ c.if-carried.true) c.put_field.ensures.0

pub returns-else-carried : goal.returns-else-carried
returns-else-carried c = figure_wrote c.args.mark c.args.tag c.args.value.now (sym c.carried.ensures ∙ c.if-carried.false) c.put_field-else-carried.ensures.0
