use Rattle.std.proofs.Common.{◌≡◌, ℕ, ◌<◌, map, take}
use Rattle.writing.specs.Written.{written}
use Rattle.sheets.proofs.spelling.put_each.Given as goal

abbrev pub invariant-loop-i : goal.invariant-loop-i
invariant-loop-i g l =
    (f : ℕ → ℕ) → ((x y : ℕ) → x < 256 → g.F.Fn.post l.fn.to (x, tt) y → y ≡ f x) → l.out ≡ written l.at (map f (take l.i l.s)) l.initial.out
