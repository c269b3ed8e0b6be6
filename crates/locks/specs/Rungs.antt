-- The step that a rung stands for, and that it is the step it was made of.
-- Assumes nothing.
use Rattle.std.specs.Prelude.{ℕ, ◌+◌, ◌*◌, ◌/◌, ◌%◌, ◌≡◌, refl, List, [], ◌∷◌, map, cond, eqb}
use Rattle.std.proofs.Common.{arith}
use Rattle.locks.specs.declared.Raise.TheVariants.{Holds, Fails, NoDay, NoLimit, NoNextLimit}
use Rattle.locks.specs.declared.Step.{Step}
use Rattle.locks.specs.declared.Step.TheVariants.{NotLocked, First, Same, Reverse}
use Rattle.locks.specs.Listing.{rung_of}

abbrev pub first_at : ℕ → Step
first_at kind =
    cond (eqb kind 1) (First Holds)
    (cond (eqb kind 2) (First Fails)
    (cond (eqb kind 3) (First NoDay)
    (cond (eqb kind 4) (First NoLimit)
    (cond (eqb kind 5) (First NoNextLimit) NotLocked))))

abbrev pub step_at : ℕ → ℕ → Step
step_at kind days = cond (eqb kind 6) (Same days) (cond (eqb kind 7) Reverse (first_at kind))

unfoldable pub step_of : ℕ → Step
step_of rung = step_at (rung % 256) (rung / 256)

pub step_rung : (step : Step) → step_of (rung_of step) ≡ step
unfolding step_of
step_rung NotLocked = refl
step_rung (First Holds) = refl
step_rung (First Fails) = refl
step_rung (First NoDay) = refl
step_rung (First NoLimit) = refl
step_rung (First NoNextLimit) = refl
step_rung (Same days) =
    let kind : (6 + 256 * days) % 256 ≡ 6 = omega arith in
    let above : (6 + 256 * days) / 256 ≡ days = omega arith in
    rw (kind, above)
step_rung Reverse = refl

pub steps_rungs : (ss : List Step) → map step_of (map rung_of ss) ≡ ss
steps_rungs [] = refl
steps_rungs (step ∷ ss) = rw (step_rung step, steps_rungs ss)
