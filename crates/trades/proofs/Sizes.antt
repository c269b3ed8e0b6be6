-- Small things that the readers' proofs share. A trade's lots on a side are at most its lots, and a gain so far with one more gain is exact in an i64.
-- Assumes nothing.
use Prim.Native.Nat.{ℕ, ◌+◌, ◌*◌, ◌^◌, ◌≤◌, ◌<◌}
use mathlib.Core.Path.{◌≡◌, refl, sym}
use mathlib.Core.Bool.{Bool, true, false, cond, not}
use native.Mathlib.Nat.{le_refl}
use native.Mathlib.Omega.{arith}
use lib.IntN.{ℤ, nat_abs, ◌+ℤ◌}
use mir.Syntax.{w64}
use mir.Val.{SFits, to_z, of_z}
use Rattle.rules.specs.declared.Trade.{Trade}
use Rattle.rules.specs.Book.{on_side}
use Rattle.laws.specs.Exact.{Exact, small_fits, of_int, op_fits, of_op, size_add}
use Rattle.laws.specs.Gains.{lots_on}

-- a negated test
pub not_true : (b : Bool) → not b ≡ true → b ≡ false
not_true true h = sym h
not_true false h = refl

pub not_false : (b : Bool) → not b ≡ false → b ≡ true
not_false true h = refl
not_false false h = sym h

pub lots_on_most : (long : Bool) (t : Trade) → lots_on long t ≤ t.lots.0
lots_on_most long t = go (on_side long t)
  where
    go : (b : Bool) → cond b t.lots.0 0 ≤ t.lots.0
    go true = le_refl t.lots.0
    go false = omega arith

-- a sum of lots below 2^36 at the highest price, and one gain more of such lots
module _ (gain : ℕ) (g : ℤ) (sum n : ℕ) (h : nat_abs (to_z w64 gain) ≤ 9999999 * sum) (k : nat_abs g ≤ 9999999 * n) (few : sum + n ≤ 68719476736) where
  now : Exact gain (to_z w64 gain)
  now = record { num = refl }

  more : Exact (of_z w64 g) g
  more = of_int g (small_fits g (omega arith))

  room : nat_abs (to_z w64 gain +ℤ g) < 2 ^ 63
  room = omega (arith, size_add (to_z w64 gain) g)

  pub sum_fits : SFits w64 (to_z w64 gain +ℤ to_z w64 (of_z w64 g))
  sum_fits = op_fits now more ◌+ℤ◌ room

  pub sum_is : to_z w64 (of_z w64 (to_z w64 gain +ℤ to_z w64 (of_z w64 g))) ≡ to_z w64 gain +ℤ g
  sum_is = (of_op now more ◌+ℤ◌ room).num

  pub sum_size : nat_abs (to_z w64 (of_z w64 (to_z w64 gain +ℤ to_z w64 (of_z w64 g)))) ≤ 9999999 * (sum + n)
  sum_size = rw sum_is (omega (arith, size_add (to_z w64 gain) g))
