-- The bytes up to the first blank and those behind it, by its place.
-- Assumes nothing.
use Rattle.std.proofs.Common.{sym, ◌∙◌}
use Rattle.days.proofs.Firsts.{front_some, behind_some, front_none, behind_none}
use Rattle.days.proofs.line.cut.Goals as goal

pub returns-in-Some-clause-front : goal.returns-in-Some-clause-front
returns-in-Some-clause-front c = front_some " " c.args.v.now _ (sym c.first_at.ensures ∙ c.in-Some.is)

pub returns-in-Some-clause-behind : goal.returns-in-Some-clause-behind
returns-in-Some-clause-behind c = behind_some " " c.args.v.now _ (sym c.first_at.ensures ∙ c.in-Some.is)

pub returns-in-None-clause-front : goal.returns-in-None-clause-front
returns-in-None-clause-front c = front_none " " c.args.v.now (sym c.first_at.ensures ∙ c.in-None.is)

pub returns-in-None-clause-behind : goal.returns-in-None-clause-behind
returns-in-None-clause-behind c = behind_none " " c.args.v.now (sym c.first_at.ensures ∙ c.in-None.is)
