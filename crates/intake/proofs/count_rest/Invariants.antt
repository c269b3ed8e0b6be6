-- Line feeds are only added.
-- Assumes nothing.
use Rattle.std.proofs.Common.{◌≤◌, ◌≡◌, length}
use Rattle.intake.proofs.count_rest.Given as goal

abbrev pub invariant-loop : goal.invariant-loop
invariant-loop g l = (l.initial.total ≤ l.total) × (length l.part ≡ 4096)
