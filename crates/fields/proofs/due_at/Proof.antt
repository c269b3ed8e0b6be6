-- `fields::due_at` meets its contract: 2 where nothing whole was found, 3 where the tag is another.
-- Assumes nothing.
use borrow.Author.Rules.{rules}
use borrow.Author.Tests.{eq-eqb, ne_eqb}
use mathlib.Core.Path.{sym, ◌∙◌}
use Rattle.fields.proofs.due_at.Statement.{statement}
use Rattle.fields.proofs.due_at.Tie as tie

field-at-requires : tie.Need-field_at-requires
field-at-requires c κs = search rules

enum-known-found : tie.Need-enum_known-found
enum-known-found c = search rules

enum_told : tie.Need-enum_told-1
enum_told c = search rules

not-there-requires : tie.Need-not_there-requires
not-there-requires c κs = search rules

returns : tie.Need-returns-in_default
returns c = let b = c in c.not_there.ensures ∙ simp (sym b.field_at.ensures ∙ c.in_default.is)

not-there-requires-2 : tie.Need-not_there-requires-then-found-tag
not-there-requires-2 c κs = search rules

returns-2 : tie.Need-returns-then-found-tag
returns-2 c =
    let k = c in
    c.not_there-then-found-tag.ensures ∙ simp (sym k.field_at.ensures ∙ k.in-Field.is, ne_eqb _ _ c.if-found-tag.true)

returns-3 : tie.Need-returns
returns-3 c =
    let k = c in
    simp (sym k.field_at.ensures ∙ k.in-Field.is, eq-eqb _ _ c.if-found-tag.false)

pub due_at_spec : {M : Type 1} → statement M
due_at_spec =
    tie.close
    (tie.spec
    field-at-requires
    enum-known-found
    enum_told
    not-there-requires
    returns
    not-there-requires-2
    returns-2
    returns-3)
