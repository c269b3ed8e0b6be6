-- What stands around the first byte of the kind.
-- Assumes nothing.
use Rattle.std.proofs.Common.{arith, ap, sym, ◌+◌, ◌-◌, ◌∙◌, take, drop, nat_eq, length, length-drop, drop_of_length-le}
use Rattle.std.proofs.Math.Seq.{take_all}
use Rattle.cutting.proofs.Rows.{found, missed}
use Rattle.cutting.proofs.parts.Goals as goal

pub returns-in-Some-clause-before : goal.returns-in-Some-clause-before
returns-in-Some-clause-before c =
    ap (λ n. take n c.args.text.now) (found (λ b. nat_eq b c.args.kind) c.args.text.now c.in-Some.at (sym c.place_of.ensures ∙ c.in-Some.is)).0

pub returns-in-Some-clause-behind : goal.returns-in-Some-clause-behind
returns-in-Some-clause-behind c =
    let text = c.args.text.now in
    let at = c.in-Some.at in
    take_all (length text - (at + 1)) (drop (at + 1) text) (omega (arith, length-drop (at + 1) text))
    ∙ ap (λ n. drop (n + 1) text) (found (λ b. nat_eq b c.args.kind) text at (sym c.place_of.ensures ∙ c.in-Some.is)).0

pub returns-in-None-clause-before : goal.returns-in-None-clause-before
returns-in-None-clause-before c =
    sym (take_all _ c.args.text.now (omega (arith, missed (λ b. nat_eq b c.args.kind) c.args.text.now (sym c.place_of.ensures ∙ c.in-None.is))))

pub returns-in-None-clause-behind : goal.returns-in-None-clause-behind
returns-in-None-clause-behind c =
    sym (drop_of_length-le c.args.text.now (omega (arith, missed (λ b. nat_eq b c.args.kind) c.args.text.now (sym c.place_of.ensures ∙ c.in-None.is))))
