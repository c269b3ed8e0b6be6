-- Behind what was passed the text goes on as behind the lines that are left.
use Rattle.std.proofs.Common.{◌≡◌, drop}
use Rattle.reasons.specs.Lines.{behind_lines}
use Rattle.reasons.proofs.behind_lines.Given as goal

abbrev pub invariant-loop-i : goal.invariant-loop-i
invariant-loop-i l = behind_lines l.left (drop l.i l.text) ≡ behind_lines l.k l.text
