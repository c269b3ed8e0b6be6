-- `store::part_newer` meets its contract: by its two tests.
-- Assumes nothing.
mod Named
use native.Mathlib.Omega.{arith}
use borrow.Author.Tests.{le-leb, lt-leb}
use Prim.Native.Nat.{◌+◌}
use Rattle.store.proofs.part_newer.Statement.{statement}
use Rattle.store.proofs.part_newer.Proof.Named.{returns, returns-2, returns-3, returns-4}
use Rattle.store.proofs.part_newer.Tie as tie

pub part_newer_spec : {M : Type 1} → statement M
part_newer_spec = tie.close (tie.spec returns returns-2 returns-3 returns-4)
