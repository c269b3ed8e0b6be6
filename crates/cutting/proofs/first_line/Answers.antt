-- A line ends at a line feed.
-- Assumes nothing.
use Rattle.std.proofs.Common.{◌∙◌}
use Rattle.cutting.proofs.Rows.{to_feed, past_feed}
use Rattle.cutting.proofs.first_line.Goals as goal

pub returns-clause-line : goal.returns-clause-line
returns-clause-line c = c.parts.ensures.before ∙ to_feed c.args.text.now

pub returns-clause-behind : goal.returns-clause-behind
returns-clause-behind c = c.parts.ensures.behind ∙ past_feed c.args.text.now
