-- A code is at most 12 bytes.
-- Assumes nothing.
use Rattle.std.specs.Prelude.{ℕ, ◌≤◌, ◌≡◌, refl, List, Bool, true, false, ◌&&◌, length, leb}
use Rattle.std.proofs.Common.{arith, leb-true}
use Rattle.rules.specs.Limits.{longest_code}
use Rattle.rules.specs.Codes.{is_code, all_of_code}

no_true : false ≡ true → ⊥
no_true x = let z : ◌≡◌ {A = ℕ} 0 1 = cc in omega arith

pub code_length_lem : (v : List ℕ) → is_code v ≡ true → length v ≤ longest_code
unfolding is_code
code_length_lem v h = go (leb 1 (length v)) (leb (length v) longest_code) (all_of_code v) refl h
  where
    go : (a b c : Bool) → leb (length v) longest_code ≡ b → (a && b && c) ≡ true → length v ≤ longest_code
    go true true c e h = leb-true _ _ e
    go true false c e h = absurd (no_true h)
    go false b c e h = absurd (no_true h)
