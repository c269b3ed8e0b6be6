-- The mark, the words and the line's end join.
use Rattle.std.proofs.Common.{arith}
use Rattle.writing.specs.Written.{join}
use Rattle.reasons.proofs.put_why.Goals as goal

pub returns : goal.returns
returns c = join c.put_bytes-words.ensures (join c.put_reason-end.ensures c.put_byte.ensures (omega arith)) (omega arith)
