-- The bytes before the first line feed are a metal's name, or none.
-- Assumes nothing.
use Rattle.std.proofs.Common.{sym, ◌∙◌}
use Rattle.days.proofs.Nexts.{head_none, head_by}
use Rattle.days.proofs.read_head.Goals as goal

pub returns-in_err-end : goal.returns-in_err-end
returns-in_err-end c = let e = head_none c.args.s.now (sym c.first_at.ensures ∙ c.in_err-end.was) in let r = c.from_residual.ensures in cc

pub returns-in_err-metal : goal.returns-in_err-metal
returns-in_err-metal c =
    let e = head_by c.args.s.now _ (sym c.first_at.ensures ∙ c.in_ok-end.was) _ (sym c.metal_of.ensures ∙ c.in_err-metal.was) in
    let r = c.from_residual-in_err-metal.ensures in cc

pub returns : goal.returns
returns c = head_by c.args.s.now _ (sym c.first_at.ensures ∙ c.in_ok-end.was) _ (sym c.metal_of.ensures ∙ c.in_ok-metal.was)
