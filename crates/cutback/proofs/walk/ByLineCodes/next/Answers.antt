-- The code of the first line, and the lines behind it.
-- Assumes nothing.
use Rattle.std.specs.Prelude.{◌≡◌, ◌<◌, ◌+◌, ◌∷◌, length, take, drop}
use Rattle.std.proofs.Common.{sym, ap, ◌∙◌, arith, drop_of_length-le}
use Rattle.std.proofs.lemmas.Grind.{common_steps}
use Rattle.cutback.specs.Lines.{codes_ahead}
use Rattle.cutback.proofs.Places.{head_short, codes_cons, take_rest, lines_short}
use Rattle.cutback.proofs.walk.ByLineCodes.next.Goals as goal
use Rattle.cutback.proofs.walk.ByLineCodes.next.Goals.{then-line-text, else-line-text}

pub line_end-line-requires : goal.line_end-line-requires
line_end-line-requires c = omega (arith, c.code_end-end.ensures, head_short c.args.self.now.text.now)

pub slice_bounds-result-end : goal.slice_bounds-result-end
slice_bounds-result-end c = grind (arith, common_steps, c.code_end-end.ensures, head_short c.args.self.now.text.now)

pub returns-clause-taken : goal.returns-clause-taken
returns-clause-taken c =
    let s = c.args.self.now.text.now in
    let line = c.line_end-line.result in
    let some : 0 < length s = grind (arith, common_steps) in
    let rest : c.if-line-text.self.now ≡ drop (line + 1) s =
    elim c.if-line-text.branch [
      | then-line-text w ↦ ap (λ b. b.now) w.self-is ∙ take_rest s (line + 1)
      | else-line-text w ↦ ap (λ b. b.now) w.self-is ∙ sym (drop_of_length-le s (omega (arith, w.if-line-text.false)))
    ] in
    codes_cons s _ line some c.code_end-end.ensures c.line_end-line.ensures
    ∙ ap (λ t. take c.code_end-end.result s ∷ codes_ahead t) (sym rest)

pub returns-clause-few : goal.returns-clause-few
returns-clause-few c = omega (arith, lines_short c.args.self.now.text.now)
