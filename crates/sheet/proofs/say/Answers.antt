-- Nothing of an accepted book, and of a refusal its line.
-- Assumes nothing.
use Rattle.std.proofs.Common.{arith, rules}
use Rattle.sheet.proofs.Tells.{short, accepted, refused}
use Rattle.sheet.proofs.say.Goals as goal

pub returns-then-found-eq-ACCEPTED-clause-listed : goal.returns-then-found-eq-ACCEPTED-clause-listed
returns-then-found-eq-ACCEPTED-clause-listed c =
    accepted c.args.book.now c.args.words.now c.args.found.number c.args.found.place c.if-found-eq-ACCEPTED.true

pub put_said-requires : goal.put_said-requires
put_said-requires c =
    omega (arith, short c.args.found.number c.args.found.place c.field_at-field.result (search rules) (search rules), c.requires)

pub returns-clause-listed : goal.returns-clause-listed
returns-clause-listed c =
    refused c.args.book.now c.args.words.now c.put_said.new.out c.args.found.number c.args.found.place c.field_at-field.result c.put_said.result
    c.if-found-eq-ACCEPTED.false c.field_at-field.ensures c.put_said.ensures
    (omega (arith, short c.args.found.number c.args.found.place c.field_at-field.result (search rules) (search rules), c.requires, c.put_said.ensures.next))
