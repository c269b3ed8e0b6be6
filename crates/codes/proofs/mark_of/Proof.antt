-- `codes::mark_of` meets its contract.
-- Assumes nothing.
use mathlib.Core.Path.{refl}
use Rattle.codes.specs.Codes.{mark_of}
use Rattle.codes.proofs.mark_of.Statement.{statement}
use Rattle.codes.proofs.mark_of.Tie as tie

returns : tie.Need-returns
unfolding mark_of
returns c = refl

pub mark_of_spec : {M : Type 1} → statement M
mark_of_spec = tie.close (tie.spec returns)
