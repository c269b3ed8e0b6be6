-- The parts of a row join.
-- Assumes nothing.
use Rattle.std.proofs.Common.{arith, append_assoc}
use Rattle.writing.specs.Written.{join}
use Rattle.cutting.proofs.put_row.Goals as goal

pub returns : goal.returns
returns c =
    let all = join (join c.put_bytes-blank.ensures c.put_worded-feed.ensures (omega arith)) c.put_byte.ensures (omega arith) in
    simp append_assoc at all
