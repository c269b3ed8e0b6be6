-- `figures::number::digit_of` meets its contract: below "0" the difference wraps round to a number far above 9.
-- Assumes nothing.
use Rattle.std.proofs.Common.{rules}
use Rattle.figures.proofs.Runs.{digit_of_wrapped}
use Rattle.figures.proofs.number.digit_of.Statement.{statement}
use Rattle.figures.proofs.number.digit_of.Tie as tie

cast-wrapping-sub-u64 : tie.Need-overflow_cast-wrapping_sub_u64
cast-wrapping-sub-u64 c = search rules

wrapping-sub-u64-requires : tie.Need-wrapping_sub_u64-requires
wrapping-sub-u64-requires c κs = search rules

returns : tie.Need-returns
returns c = digit_of_wrapped _ _ (search rules) (search rules) c.wrapping_sub_u64.ensures

pub digit_of_spec : {M : Type 1} → statement M
digit_of_spec = tie.close (tie.spec cast-wrapping-sub-u64 wrapping-sub-u64-requires returns)
