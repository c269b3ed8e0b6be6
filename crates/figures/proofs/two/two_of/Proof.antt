-- `figures::two::two_of` meets its contract: a digit is not below "0".
-- Assumes nothing.
use Rattle.std.proofs.Common.{ℕ, ◌+◌, List, get_or, arith, rules}
use Rattle.figures.specs.Two.{DigitsAt}
use Rattle.figures.proofs.Twos.{Two, two}
use Rattle.figures.proofs.two.two_of.Statement.{statement}
use Rattle.figures.proofs.two.two_of.Tie as tie

both : (v : List ℕ) (i : ℕ) → DigitsAt v i → Two (get_or v i 0) (get_or v (i + 1) 0)
both v i h = two _ _ h.digits

shared-slice-read-tens : tie.Need-bounds-v-i
shared-slice-read-tens c = search rules

cast-tens : tie.Need-overflow_cast-tens
cast-tens c = let t = both _ _ c.requires in omega arith

cast-tens-2 : tie.Need-overflow_cast-tens-2
cast-tens-2 c = search rules

sub-tens : tie.Need-overflow_sub-tens
sub-tens c = let t = both _ _ c.requires in omega arith

add-ones : tie.Need-overflow_add-ones
add-ones c = search rules

shared-slice-read-ones : tie.Need-bounds-v-i-2
shared-slice-read-ones c = search rules

cast-ones : tie.Need-overflow_cast-ones
cast-ones c = let t = both _ _ c.requires in omega arith

cast-ones-2 : tie.Need-overflow_cast-ones-2
cast-ones-2 c = search rules

sub-ones : tie.Need-overflow_sub-ones
sub-ones c = let t = both _ _ c.requires in omega arith

mul-result : tie.Need-overflow_mul-result
mul-result c = let t = both _ _ c.requires in omega arith

add-result : tie.Need-overflow_add-result
add-result c = let t = both _ _ c.requires in omega arith

returns : tie.Need-returns
returns c = search rules

pub two_of_spec : {M : Type 1} → statement M
two_of_spec =
    tie.close
    (tie.spec
    shared-slice-read-tens
    cast-tens
    cast-tens-2
    sub-tens
    add-ones
    shared-slice-read-ones
    cast-ones
    cast-ones-2
    sub-ones
    mul-result
    add-result
    returns)
