-- The program's name, the number, the place and the words join.
use Rattle.std.proofs.Common.{arith}
use Rattle.writing.specs.Written.{join}
use Rattle.reasons.specs.Sizes.{said_length}
use Rattle.reasons.proofs.put_said.Goals as goal

pub returns : goal.returns
returns c =
    let size = said_length c.args.program.now c.args.number c.args.place c.args.field in
    join c.put_bytes-what.ensures
    (join c.put_worded-spot.ensures (join c.put_worded-end.ensures c.put_why.ensures (omega (arith, size))) (omega (arith, size)))
    (omega arith)
