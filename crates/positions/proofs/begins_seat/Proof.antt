-- `positions::begins_seat` meets its contract: the field that is found, or none.
-- Assumes nothing.
use mathlib.Core.Path.{sym, ◌∙◌}
use lib.ListN.{drop}
use Rattle.rules.specs.Fields.{fields_of}
use Rattle.fields.specs.Laws.{stands}
use Rattle.positions.proofs.Found.{begins_short, begins_found}
use borrow.Author.Rules.{rules}
use Rattle.positions.proofs.begins_seat.Statement.{statement}
use Rattle.positions.proofs.begins_seat.Tie as tie

field-at-requires : tie.Need-field_at-requires
field-at-requires c κs = search rules

enum-known-tag : tie.Need-enum_known-tag
enum-known-tag c = search rules

enum_told : tie.Need-enum_told-1
enum_told c = search rules

returns : tie.Need-returns-in-Field
returns c =
    let a = c.args in
    let k = stands a.book.now a.at _ _ _ (sym c.field_at.ensures ∙ c.in-Field.is) in
    sym (begins_found a.book.now a.at _ _ _ k)

returns-2 : tie.Need-returns-in-Short
returns-2 c =
    let f = c in
    let a = f.args in
    sym (begins_short a.at (fields_of (drop a.at a.book.now)) (sym f.field_at.ensures ∙ c.in-Short.is))

pub begins_seat_spec : {M : Type 1} → statement M
begins_seat_spec = tie.close (tie.spec field-at-requires enum-known-tag enum_told returns returns-2)
