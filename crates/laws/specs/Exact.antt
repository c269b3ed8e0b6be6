-- Exact i64. The bits of an i64 stand for an integer (`Exact`), and an operation keeps that, without overflow, where the
-- exact result is below 2 ^ 63 in size. Sizes are naturals (`nat_abs`), so their bounds are arithmetic that `omega` reads.
-- Assumes nothing.
use Rattle.std.specs.Prelude.{◌≡◌, refl, Bool, true, false, ℕ, zero, suc, ◌+◌, ◌*◌, ◌^◌, ◌<◌, ◌≤◌, ltb, ℤ, pos, negsuc, neg_ℤ, nat_abs, ◌+ℤ◌, ◌-ℤ◌, ◌*ℤ◌}
use Rattle.std.proofs.Common.{sym, ap, subst, ◌∙◌, le_refl, mul-le-mul, mul-add, arith, ltb-true, ltb-false, SFits, to_z, of_z, to_z-of_z}
use Rattle.std.proofs.Math.IntN.{sub_ℕ, +ℤ_idl, neg_ℤ-+ℤ}
use Rattle.std.specs.Int.{w64}
use Rattle.std.proofs.Math.Facts.{to_z_pos}

-- ---- the size of an integer

-- x - y, for two naturals at most m apart
size_apart : (x y m : ℕ) → x ≤ y + m → y ≤ x + m → nat_abs (sub_ℕ x y) ≤ m
size_apart x y m h k = go (ltb x y) refl
  where
    go : (t : Bool) → ltb x y ≡ t → nat_abs (sub_ℕ x y) ≤ m
    go true e = rw e (omega (arith, ltb-true))
    go false e = rw e (omega (arith, ltb-false))

pub size_minus : (x y m : ℕ) → x ≤ y + m → y ≤ x + m → nat_abs (pos x -ℤ pos y) ≤ m
size_minus x zero m h k = omega arith
size_minus x (suc y) m h k = size_apart x (suc y) m h k

pub size_add : (x y : ℤ) → nat_abs (x +ℤ y) ≤ nat_abs x + nat_abs y
size_add (pos a) (pos b) = le_refl (a + b)
size_add (pos a) (negsuc b) = size_apart a (suc b) (a + suc b) (omega arith) (omega arith)
size_add (negsuc a) (pos b) = size_apart b (suc a) (suc a + b) (omega arith) (omega arith)
size_add (negsuc a) (negsuc b) = omega arith

pub size_neg : (x : ℤ) → nat_abs (neg_ℤ x) ≡ nat_abs x
size_neg (pos zero) = refl
size_neg (pos (suc n)) = refl
size_neg (negsuc n) = refl

size_times : (x y : ℤ) → nat_abs (x *ℤ y) ≡ nat_abs x * nat_abs y
size_times (pos a) (pos b) = refl
size_times (pos a) (negsuc b) = size_neg (pos (a * suc b))
size_times (negsuc a) (pos b) = size_neg (pos (suc a * b))
size_times (negsuc a) (negsuc b) = refl

pub size_mul : (x y : ℤ) {a b : ℕ} → nat_abs x ≤ a → nat_abs y ≤ b → nat_abs (x *ℤ y) ≤ a * b
size_mul x y h k = rw (size_times x y) (mul-le-mul h k)

-- a product with a sum of two naturals
pub mul-sum : (z : ℤ) (a b : ℕ) → z *ℤ pos (a + b) ≡ z *ℤ pos a +ℤ z *ℤ pos b
mul-sum (pos n) a b = ap pos (mul-add n a b)
mul-sum (negsuc n) a b =
    ap (λ (m : ℕ). neg_ℤ (pos m)) (mul-add (suc n) a b) ∙ neg_ℤ-+ℤ (pos (suc n * a)) (pos (suc n * b))

-- ---- the bits of an i64

pub record Exact (n : ℕ) (z : ℤ) : Type 0 where
  pub num : to_z w64 n ≡ z

pub small_fits : (z : ℤ) → nat_abs z < 2 ^ 63 → SFits w64 z
small_fits (pos n) h = record { sfits = omega arith }
small_fits (negsuc n) h = record { sfits = omega arith }

-- a cast of an unsigned number, or a literal
pub of_nat : (n : ℕ) → n < 2 ^ 63 → Exact n (pos n)
of_nat n h = record { num = to_z_pos w64 h }

-- a parameter, or what a call gave
pub of_int : (z : ℤ) → SFits w64 z → Exact (of_z w64 z) z
of_int z f = record { num = to_z-of_z f }

-- a sum, a difference or a product, and a test of two numbers
module _ {m n : ℕ} {x y : ℤ} (h : Exact m x) (k : Exact n y) where
  pub both : {A : Type 0} (f : ℤ → ℤ → A) → f (to_z w64 m) (to_z w64 n) ≡ f x y
  both f = λ i. f (h.num i) (k.num i)

  pub op_fits : (op : ℤ → ℤ → ℤ) → nat_abs (op x y) < 2 ^ 63 → SFits w64 (op (to_z w64 m) (to_z w64 n))
  op_fits op b = subst (SFits w64) (sym (both op)) (small_fits (op x y) b)

  pub of_op : (op : ℤ → ℤ → ℤ) → nat_abs (op x y) < 2 ^ 63 → Exact (of_z w64 (op (to_z w64 m) (to_z w64 n))) (op x y)
  of_op op b = record { num = to_z-of_z (op_fits op b) ∙ both op }

-- `-x`, which is 0 - x
module _ {n : ℕ} {x : ℤ} (h : Exact n x) (b : nat_abs x < 2 ^ 63) where
  zero_minus : nat_abs (pos 0 -ℤ x) < 2 ^ 63
  zero_minus = rw (+ℤ_idl (neg_ℤ x), size_neg x) b

  pub neg_fits : SFits w64 (pos 0 -ℤ to_z w64 n)
  neg_fits = op_fits (of_nat 0 (omega arith)) h ◌-ℤ◌ zero_minus

  pub of_neg : Exact (of_z w64 (pos 0 -ℤ to_z w64 n)) (neg_ℤ x)
  of_neg = record { num = (of_op (of_nat 0 (omega arith)) h ◌-ℤ◌ zero_minus).num ∙ +ℤ_idl (neg_ℤ x) }
