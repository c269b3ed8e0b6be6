-- No line is to be passed any more.
use Rattle.std.proofs.Common.{◌∙◌, drop, sym, arith}
use Rattle.reasons.proofs.Texts.{all_left}
use Rattle.reasons.proofs.behind_lines.Goals as goal

pub returns-then-left-eq0 : goal.returns-then-left-eq0
returns-then-left-eq0 c =
    let rest = drop c.loop-i.i c.args.text.now in
    (omega arith, sym (all_left c.loop-i.left rest c.if-left-eq0.true) ∙ c.loop-i.invariant)
