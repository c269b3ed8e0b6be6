-- Each side is (x - y) * n of two prices, which are below 10,000,000 apart, and at most 4,000,000 lots, so that the product is below 4.0e13.
use Rattle.std.proofs.Common.{◌≡◌, ℕ, Bool, true, false, ◌≤◌, ℤ, pos, ◌-ℤ◌, ◌*ℤ◌, to_z, of_z, arith}
use Rattle.std.specs.Int.{w64}
use Rattle.rules.specs.declared.Fen.{Fen}
use Rattle.rules.specs.Standing.{gain_of}
use Rattle.laws.specs.Exact.{of_nat, of_op, size_minus, size_mul}
use Rattle.laws.specs.Gains.{gain_size}
use Rattle.gain.specs.Ranges.{AtPrice, Gained}
use Rattle.gain.proofs.gain_of.Goals as goal

times : (x y n : ℕ) → x ≤ 9_999_999 → y ≤ 9_999_999 → n ≤ 4_000_000 →
    to_z w64 (of_z w64 (to_z w64 (of_z w64 (to_z w64 x -ℤ to_z w64 y)) *ℤ to_z w64 n)) ≡ (pos x -ℤ pos y) *ℤ pos n
times x y n hx hy hn =
    let apart = size_minus x y 9_999_999 (omega arith) (omega arith) in
    let difference = of_op (of_nat x (omega arith)) (of_nat y (omega arith)) ◌-ℤ◌ (omega (arith, apart)) in
    (of_op difference (of_nat n (omega arith)) ◌*ℤ◌ (omega (arith, size_mul (pos x -ℤ pos y) (pos n) apart hn))).num

gained : (long : Bool) (s p : Fen) (n : ℕ) {gain : ℤ} → AtPrice s p n → gain ≡ gain_of long s p n → Gained long s p n gain
gained long s p n h e = record { exact = e; size = rw e (gain_size long s p n h.settlement h.price) }

pub returns-then-long : goal.returns-then-long
returns-then-long c = let h = c.requires in rw c.if-long.true (gained true _ _ _ h (times _ _ _ h.settlement h.price h.lots))

pub returns-else-long : goal.returns-else-long
returns-else-long c = let h = c.requires in rw c.if-long.false (gained false _ _ _ h (times _ _ _ h.price h.settlement h.lots))
