-- Three bytes written behind one another are three bytes.
use Rattle.std.proofs.Common.{arith}
use Rattle.writing.specs.Written.{join}
use Rattle.writing.proofs.put_three.Goals as goal

pub returns : goal.returns
returns c = join (join c.put_byte-second.ensures c.put_byte-third.ensures (omega arith)) c.put_byte.ensures (omega arith)
