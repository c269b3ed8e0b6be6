-- The bytes before this one are done, and the others are as they were.
-- Assumes nothing.
use Rattle.std.proofs.Common.{◌≡◌}
use Rattle.laws.specs.Filled.{filled}
use Rattle.shell.specs.Shell.{visible_at}
use Rattle.shell.proofs.make_visible.Given as goal

abbrev pub invariant-loop-byte : goal.invariant-loop-byte
invariant-loop-byte l = l.name ≡ filled (visible_at l.initial.name) l.byte-index l.initial.name
