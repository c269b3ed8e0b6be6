-- The three fields join.
use Rattle.std.proofs.Common.{arith}
use Rattle.writing.specs.Written.{join}
use Rattle.entries.proofs.put_reported.Goals as goal

pub returns : goal.returns
returns c = join (join c.put_field-second.ensures c.put_standing_field-third.ensures (omega arith)) c.put_number_field.ensures (omega arith)
