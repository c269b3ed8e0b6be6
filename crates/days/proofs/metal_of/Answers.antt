-- Assumes nothing.
use Rattle.std.specs.Prelude.{◌≡◌, false}
use Rattle.std.proofs.Common.{sym, ◌∙◌}
use Rattle.rules.specs.Text.{bytes}
use Rattle.rules.specs.Codes.{same}
use Rattle.days.proofs.Words.{same_tested}
use Rattle.days.proofs.metal_of.Goals as goal

pub returns-else-eq-2 : goal.returns-else-eq-2
returns-else-eq-2 c =
    let name = c.args.name.now in
    let gold : same name (bytes "gold") ≡ false = sym (same_tested name (bytes "gold")) ∙ rw c.as_slice.ensures at (sym c.eq.ensures) ∙ c.if-eq.false in
    let silver : same name (bytes "silver") ≡ false = sym (same_tested name (bytes "silver")) ∙ rw c.as_slice-else-eq.ensures at (sym c.eq-else-eq.ensures) ∙ c.if-eq-2.false in
    simp (gold, silver)
