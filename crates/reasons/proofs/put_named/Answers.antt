-- What stands before the name and the name join.
use Rattle.std.proofs.Common.{arith}
use Rattle.writing.specs.Written.{join}
use Rattle.reasons.specs.Reason.{with_field}
use Rattle.reasons.proofs.put_named.Goals as goal

pub returns : goal.returns
unfolding with_field
returns c = join c.put_line-name.ensures c.put_line.ensures (omega arith)
