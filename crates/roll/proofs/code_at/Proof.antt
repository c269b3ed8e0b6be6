-- `roll::code_at` meets its contract: 10, 5 and 7 in the definition's order.
-- Assumes nothing.
mod Named
use borrow.Author.Rules.{rules}
use Rattle.roll.proofs.code_at.Statement.{statement}
use Rattle.roll.proofs.code_at.Proof.Named.{returns, returns-2, returns-3, returns-4}
use Rattle.roll.proofs.code_at.Tie as tie

sub-read-code : tie.Need-slice_bounds-read_code-count
sub-read-code c = search rules

part-read-code-start : tie.Need-slice_bounds-read_code-start
part-read-code-start c = search rules

part-read-code-end : tie.Need-slice_bounds-read_code-end
part-read-code-end c = search rules

read-code-requires : tie.Need-read_code-requires
read-code-requires c κs = search rules

enum-known-key : tie.Need-enum_known-key
enum-known-key c = search rules

known-requires : tie.Need-known-requires
known-requires c κs = search rules

enum_told : tie.Need-enum_told-1
enum_told c = search rules

pub code_at_spec : {M : Type 1} → statement M
code_at_spec =
    tie.close
    (tie.spec
    returns
    sub-read-code
    part-read-code-start
    part-read-code-end
    read-code-requires
    enum-known-key
    known-requires
    returns-2
    enum_told
    returns-3
    returns-4)
