-- A code ends at a blank.
-- Assumes nothing.
use Rattle.std.proofs.Common.{◌∙◌}
use Rattle.cutting.proofs.Rows.{to_blank, past_blank}
use Rattle.cutting.proofs.around_blank.Goals as goal

pub returns-clause-code : goal.returns-clause-code
returns-clause-code c = c.parts.ensures.before ∙ to_blank c.args.line.now

pub returns-clause-lots : goal.returns-clause-lots
returns-clause-lots c = c.parts.ensures.behind ∙ past_blank c.args.line.now
