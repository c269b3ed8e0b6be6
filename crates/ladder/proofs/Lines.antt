-- The lines of a listing, by the rungs of its days.
-- Assumes nothing.
use Prim.Native.Nat.{ℕ, suc, ◌+◌}
use mathlib.Core.Path.{◌≡◌, refl, ap}
use mathlib.Core.List.{List, [], ◌∷◌, ◌++◌, map}
use native.Mathlib.Omega.{arith}
use lib.ListN.{length, length-append}
use Rattle.rules.specs.Text.{bytes}
use Rattle.rules.specs.Report.{digits}
use Rattle.intake.specs.Rolled.{lines_by}
use Rattle.locks.specs.declared.Step.{Step}
use Rattle.locks.specs.Listing.{step_words, day_line, day_lines, listed}
use Rattle.locks.specs.Rungs.{step_of}

pub line_size : (k : ℕ) (step : Step) → length (day_line k step) ≡ length (digits k) + length (step_words step) + 1
unfolding day_line
line_size k step = simp length-append (omega arith)

pub line_joined : (k : ℕ) (step : Step) → digits k ++ step_words step ++ bytes "\n" ≡ day_line k step
unfolding day_line
line_joined k step = refl

-- the line of a rung
abbrev pub rung_line : ℕ → ℕ → List ℕ
rung_line k rung = day_line k (step_of rung)

pub lines_same : (k : ℕ) (rungs : List ℕ) → lines_by rung_line k rungs ≡ day_lines k (map step_of rungs)
lines_same k [] = refl
lines_same k (rung ∷ rungs) = ap (λ (l : List ℕ). day_line k (step_of rung) ++ l) (lines_same (suc k) rungs)

mapped : (rungs : List ℕ) → length (map step_of rungs) ≡ length rungs
mapped [] = refl
mapped (rung ∷ rungs) = ap suc (mapped rungs)

pub listed_size : (rungs : List ℕ) → length (listed (map step_of rungs)) ≡ 6 + length (digits (length rungs)) + length (lines_by rung_line 1 rungs)
unfolding listed
listed_size rungs = simp length-append (omega (arith, ap (λ (n : ℕ). length (digits n)) (mapped rungs), ap length (lines_same 1 rungs)))

pub listed_joined : (rungs : List ℕ) → bytes "days " ++ digits (length rungs) ++ bytes "\n" ++ lines_by rung_line 1 rungs ≡ listed (map step_of rungs)
unfolding listed
listed_joined rungs = rw (mapped rungs, lines_same 1 rungs)
