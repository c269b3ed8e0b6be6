-- The two fields join.
use Rattle.std.proofs.Common.{arith}
use Rattle.writing.specs.Written.{join}
use Rattle.entries.proofs.put_head.Goals as goal

pub returns : goal.returns
returns c = join c.put_number_field-second.ensures c.put_number_field.ensures (omega arith)
