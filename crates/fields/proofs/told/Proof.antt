-- `fields::told` meets its contract: one answer for each of a figure's variants.
-- Assumes nothing.
use borrow.Author.Rules.{rules}
use mathlib.Core.Path.{◌∙◌}
use Rattle.fields.proofs.told.Statement.{statement}
use Rattle.fields.proofs.told.Tie as tie

enum-known-figure : tie.Need-enum_known-figure
enum-known-figure c = search rules

enum_told : tie.Need-enum_told-1
enum_told c = search rules

no-figure-requires : tie.Need-no_figure-requires
no-figure-requires c κs = search rules

enum-told-2 : tie.Need-enum_told-in-Malformed
enum-told-2 c = search rules

no-figure-requires-2 : tie.Need-no_figure-requires-in-Malformed
no-figure-requires-2 c κs = search rules

returns : tie.Need-returns-in-Value
returns c = simp c.in-Value.is

returns-2 : tie.Need-returns-in-Comma
returns-2 c = c.no_figure.ensures ∙ simp c.in-Comma.is

returns-3 : tie.Need-returns-in-Malformed
returns-3 c = c.no_figure-in-Malformed.ensures ∙ simp c.in-Malformed.is

pub told_spec : {M : Type 1} → statement M
told_spec =
    tie.close
    (tie.spec
    enum-known-figure
    enum_told
    no-figure-requires
    enum-told-2
    no-figure-requires-2
    returns
    returns-2
    returns-3)
