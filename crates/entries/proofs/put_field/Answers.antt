-- The tag and length join with the value.
use Rattle.std.proofs.Common.{arith}
use Rattle.writing.specs.Written.{join}
use Rattle.entries.proofs.put_field.Goals as goal

pub returns : goal.returns
returns c = join c.put_tag-value.ensures c.put_bytes.ensures (omega arith)
