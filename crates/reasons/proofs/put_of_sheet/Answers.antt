use Rattle.std.proofs.Common.{ℕ, subst}
use Rattle.writing.specs.Written.{Wrote}
use Rattle.reasons.specs.Lines.{line_of}
use Rattle.reasons.specs.Reason.{sheet}
use Rattle.reasons.proofs.put_of_sheet.Goals as goal

pub returns : goal.returns
returns c =
    let a = c.args in
    subst (λ (k : ℕ). Wrote a.at (line_of k sheet) a.out.now c.put_line.new.out c.put_line.result) c.line_from-line.ensures c.put_line.ensures
