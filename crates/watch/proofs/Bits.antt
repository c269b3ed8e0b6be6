-- How far two numbers are apart, and how large the bits of a span are.
-- Assumes nothing.
use Rattle.std.specs.Prelude.{ℕ, ◌+◌, ◌-◌, ◌*◌, ◌≤◌, ◌≡◌, min, max, Bool, true, false, cond, List, ltb}
use Rattle.std.specs.Int.{abs_diff}
use Rattle.std.proofs.Common.{arith}
use Rattle.watch.specs.declared.table.Row.{Row}
use Rattle.watch.specs.declared.span.Close.{Close}
use Rattle.watch.specs.Watch.{moved, grown}
use Rattle.watch.specs.Window.{price_at, interest_at, bits_in}

pub apart : (a b : ℕ) → abs_diff a b ≡ max a b - min a b
apart a b = omega arith

pub bits_most : (row : Row) (w : List Close) (n : ℕ) → bits_in row w n ≤ 9
unfolding bits_in
bits_most row w n = go (ltb row.days n) (moved row.price (price_at w 0) (price_at w row.days)) (grown row.interest (interest_at w 0) (interest_at w row.days))
  where
    go : (a x y : Bool) → cond a (cond x 1 0 + 8 * cond y 1 0) 0 ≤ 9
    go false x y = omega arith
    go true false false = omega arith
    go true false true = omega arith
    go true true false = omega arith
    go true true true = omega arith
