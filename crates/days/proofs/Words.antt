-- Two words have the same bytes, as std tests it and as a definition has it.
-- Assumes nothing.
use Rattle.std.specs.Prelude.{ℕ, ◌≡◌, refl, List, [], ◌∷◌, ◌&&◌, eqb}
use Rattle.std.proofs.Common.{ap}
use lib.Pointwise.{pointwise}
use Rattle.rules.specs.Codes.{same}

pub same_tested : (v w : List ℕ) → pointwise eqb v w ≡ same v w
same_tested [] [] = refl
same_tested [] (y ∷ w) = refl
same_tested (x ∷ v) [] = refl
same_tested (x ∷ v) (y ∷ w) = ap (λ b. eqb x y && b) (same_tested v w)
