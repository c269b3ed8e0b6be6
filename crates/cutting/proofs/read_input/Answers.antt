-- Each part of the input is what its line says.
-- Assumes nothing.
use Rattle.std.proofs.Common.{subst, length}
use Rattle.answers.specs.Answered.{Answered}
use Rattle.cutback.specs.Judge.{Verdict, answer_of}
use Rattle.cutting.proofs.Telling.{read_so}
use Rattle.cutting.proofs.read_input.Goals as goal

pub returns : goal.returns
returns c =
    subst (λ (v : Verdict). Answered (answer_of (length c.args.cuts.now) v) c.cut_lines.result c.args.cuts.now c.cut_lines.new.cuts)
    (read_so c.args.input.now _ _ _ _ _ _ _ _ c.first_line.ensures.line c.first_line.ensures.behind c.first_line-2.ensures.line c.first_line-2.ensures.behind c.first_line-3.ensures.line c.first_line-3.ensures.behind
    c.grams_of.ensures c.read_lots-count.ensures.1)
    c.cut_lines.ensures
