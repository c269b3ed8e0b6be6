-- The value that is read is the field's.
-- Assumes nothing.
use mathlib.Core.Path.{sym, ap, ◌∙◌}
use borrow.Author.Rules.{rules}
use Rattle.laws.specs.SeatFields.{lots_said}
use Rattle.seats.proofs.lots_in.Statement.{statement}
use Rattle.seats.proofs.lots_in.Tie as tie

add-read-held : tie.Need-overflow_add-from
add-read-held c = search rules

sub-read-held : tie.Need-slice_bounds-read_held-count
sub-read-held c = search rules

part-read-held-start : tie.Need-slice_bounds-read_held-start
part-read-held-start c = search rules

part-read-held-end : tie.Need-slice_bounds-read_held-end
part-read-held-end c = search rules

read-held-requires : tie.Need-read_held-requires
read-held-requires c κs = search rules

enum-known-lots : tie.Need-enum_known-lots
enum-known-lots c = search rules

enum_told : tie.Need-enum_told-1
enum_told c = search rules

enum-told-2 : tie.Need-enum_told-in-Malformed
enum-told-2 c = search rules

returns : tie.Need-returns-in-Value
returns c = ap lots_said (sym c.in-Value.is ∙ c.read_held.ensures)

returns-2 : tie.Need-returns-in-Comma
returns-2 c = ap lots_said (sym c.in-Comma.is ∙ c.read_held.ensures)

returns-3 : tie.Need-returns-in-Malformed
returns-3 c = ap lots_said (sym c.in-Malformed.is ∙ c.read_held.ensures)

pub lots_in_spec : {M : Type 1} → statement M
lots_in_spec =
    tie.close
    (tie.spec
    add-read-held
    sub-read-held
    part-read-held-start
    part-read-held-end
    read-held-requires
    enum-known-lots
    enum_told
    enum-told-2
    returns
    returns-2
    returns-3)
