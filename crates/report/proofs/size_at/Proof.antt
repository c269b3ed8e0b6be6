-- A byte fits.
-- Assumes nothing.
use Prim.Native.Nat.{◌-◌}
use native.Mathlib.Omega.{arith}
use borrow.Author.Rules.{rules}
use Rattle.report.proofs.size_at.Statement.{statement}
use Rattle.report.proofs.size_at.Tie as tie

sub-result : tie.Need-overflow_sub-result
sub-result c = search rules

shared-slice-read-result : tie.Need-bounds-book-start
shared-slice-read-result c = search rules

cast-result : tie.Need-overflow_cast-result
cast-result c = omega (arith, c.shared_slice_known-1.given (c.args.start - 1))

returns : tie.Need-returns
returns c = search rules

pub size_at_spec : {M : Type 1} → statement M
size_at_spec = tie.close (tie.spec sub-result shared-slice-read-result cast-result returns)
