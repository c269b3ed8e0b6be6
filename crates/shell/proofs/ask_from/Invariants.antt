-- No place is told but that of a word from `first` on.
-- Assumes nothing.
use Rattle.shell.specs.Shell.{Among}
use Rattle.shell.proofs.ask_from.Given as goal

abbrev pub invariant-loop-i : goal.invariant-loop-i
invariant-loop-i l = Among l.first l.count l.seen.asked
