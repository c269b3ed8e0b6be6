-- A weight is at most the stake.
-- Assumes nothing.
use Prim.Native.Nat.{ℕ, ◌-◌, ◌≤◌}
use mathlib.Core.Bool.{Bool, true, false, cond}
use native.Mathlib.Omega.{arith}
use lib.Dec.{eqb}
use Rattle.cascade.specs.State.{weight_in}

pub weight_le : (k standing stake offset : ℕ) → weight_in k standing stake offset ≤ stake
weight_le k standing stake offset = go (eqb standing k) (cond (eqb k 0) offset 0)
  where
    go : (b : Bool) (n : ℕ) → cond b (stake - n) 0 ≤ stake
    go true n = omega arith
    go false n = omega arith
