-- `figures::two::two_by` meets its contract: `Twos` says what is left of two bytes.
-- Assumes nothing.
mod Named
use Rattle.std.proofs.Common.{rules}
use Rattle.figures.proofs.Twos.{no_ones, two_wrapped}
use Rattle.figures.proofs.two.two_by.Statement.{statement}
use Rattle.figures.proofs.two.two_by.Proof.Named.{returns, returns-2}
use Rattle.figures.proofs.two.two_by.Tie as tie

digit-of-requires : tie.Need-digit_of-requires
digit-of-requires c κs = search rules

mul-wrapping-sub-u64 : tie.Need-overflow_mul-tens
mul-wrapping-sub-u64 c = search rules

add-wrapping-sub-u64 : tie.Need-overflow_add-tens
add-wrapping-sub-u64 c = search rules

wrapping-sub-u64-requires : tie.Need-wrapping_sub_u64-requires
wrapping-sub-u64-requires c κs = search rules

pub two_by_spec : {M : Type 1} → statement M
two_by_spec =
    tie.close
    (tie.spec
    digit-of-requires
    returns
    mul-wrapping-sub-u64
    add-wrapping-sub-u64
    wrapping-sub-u64-requires
    returns-2)
