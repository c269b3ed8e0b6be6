-- Two lines and what is left of the third join.
use Rattle.std.proofs.Common.{append_assoc, arith}
use Rattle.writing.specs.Written.{join}
use Rattle.printing.proofs.put_printed_head.Goals as goal

pub returns : goal.returns
returns c =
    let all = join (join c.put_worded-second.ensures c.put_worded-end.ensures (omega arith)) c.put_byte.ensures (omega arith) in
    simp append_assoc (simp append_assoc at all)
