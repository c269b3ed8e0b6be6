-- The lines of a refusal have room, and stand at the front of their buffers.
-- Assumes nothing.
use Rattle.std.proofs.Common.{arith, refl, rules}
use Rattle.intake.specs.Telling.{short, refusal_short, put_so}
use Rattle.intake.proofs.tell_refused.Goals as goal

pub put_refusal-requires : goal.put_refusal-requires
put_refusal-requires c = omega (arith, refusal_short c.args.number c.args.place (search rules) (search rules))

pub put_said-requires : goal.put_said-requires
put_said-requires c =
    omega (arith, short c.args.name.now c.args.number c.args.place c.requires.name_bound (search rules) (search rules))

pub returns-clause-put : goal.returns-clause-put
returns-clause-put c =
    put_so c.put_refusal.ensures refl (omega (arith, refusal_short c.args.number c.args.place (search rules) (search rules)))

pub returns-clause-put_2 : goal.returns-clause-put_2
returns-clause-put_2 c =
    put_so c.put_said.ensures refl (omega (arith, short c.args.name.now c.args.number c.args.place c.requires.name_bound (search rules) (search rules)))
