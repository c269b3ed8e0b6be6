-- Nothing divided is no whole lot, and no remainder.
-- Assumes nothing.
use mathlib.Core.Path.{◌≡◌}
use native.Mathlib.Nat.{mod-lt, zero-div, zero-mod}
use native.Mathlib.Omega.{arith}
use borrow.Author.Rules.{rules}
use Rattle.division.proofs.part_of.Statement.{statement}
use Rattle.division.proofs.part_of.Tie as tie

returns : tie.Need-returns-then-product-eq0
returns c = let e : c.args.product ≡ 0 = omega arith in rw (e, zero-div, zero-mod) (omega arith)

div-result : tie.Need-nonzero_div-result
div-result c = search rules

mul-result : tie.Need-overflow_mul-result
mul-result c = search rules

rem-result : tie.Need-nonzero_rem-result
rem-result c = search rules

sub-result : tie.Need-overflow_sub-result
sub-result c = omega (arith, mod-lt c.args.product {m = c.args.sum} (omega arith))

add-result : tie.Need-overflow_add-result
add-result c = search rules

returns-2 : tie.Need-returns
returns-2 c = search rules

pub part_of_spec : {M : Type 1} → statement M
part_of_spec =
    tie.close (tie.spec returns div-result mul-result rem-result sub-result add-result returns-2)
