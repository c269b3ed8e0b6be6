-- What stood before `done` stays, and the buffer is as long as it was.
-- Assumes nothing.
use Rattle.std.proofs.Common.{◌≡◌, length, take}
use Rattle.shell.proofs.read_more.Given as goal

abbrev pub invariant-loop : goal.invariant-loop
invariant-loop g l = (take l.done l.buffer ≡ take l.done l.initial.buffer) × (length l.buffer ≡ length l.initial.buffer)
