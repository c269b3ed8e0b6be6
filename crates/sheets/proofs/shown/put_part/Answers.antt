-- A semicolon, and the value behind it.
use Rattle.std.proofs.Common.{arith}
use Rattle.writing.specs.Written.{join}
use Rattle.sheets.proofs.shown.put_part.Goals as goal

pub returns : goal.returns
returns c = join c.put_byte-begin.ensures c.put_bytes.ensures (omega arith)
