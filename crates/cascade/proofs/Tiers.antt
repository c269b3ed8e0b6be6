-- The state after tiers 1 to k, which the next tier takes.
-- Assumes nothing.
use Prim.Native.Nat.{ℕ, zero, suc, ◌+◌, ◌*◌}
use mathlib.Core.Path.{◌≡◌, refl}
use native.Mathlib.Omega.{arith}
use Rattle.cascade.specs.declared.Cascade.{Cascade}
use Rattle.cascade.specs.Columns.{Columns}
use Rattle.cascade.specs.State.{after_tier, Steady}
use Rattle.cascade.specs.After.{steady_wider, steady_after}

abbrev pub tiers : ℕ → Columns → Cascade → Cascade
tiers zero c st = st
tiers (suc k) c st = after_tier (suc k) c (tiers k c st)

pub tiers_next : (k : ℕ) (c : Columns) (st : Cascade) → tiers (k + 1) c st ≡ after_tier (k + 1) c (tiers k c st)
tiers_next k c st = let e : k + 1 ≡ suc k = omega arith in rw e refl

pub steady : (k : ℕ) (c : Columns) (st : Cascade) → Steady 0 c st → Steady (k * 1_024_000_000) c (tiers k c st)
steady zero c st s = steady_wider (omega arith) s
steady (suc k) c st s = steady_wider (omega arith) (steady_after (suc k) c (tiers k c st) (steady k c st s))
