-- By the tag.
use Rattle.std.proofs.Common.{sym, arith}
use Rattle.writing.specs.Written.{join, written_nothing}
use Rattle.sheets.proofs.Tags.{as_same, shown_i}
use Rattle.sheets.proofs.shown.put_shown.Goals as goal

pub returns-in-73 : goal.returns-in-73
returns-in-73 c = as_same (shown_i c.args.tag c.args.mark c.args.value.now c.in-73.is) (join c.put_byte-part.ensures c.put_part.ensures (omega arith))

pub returns-in-81 : goal.returns-in-81
returns-in-81 c = rw c.in-81.is (join c.put_part-lots.ensures c.put_byte.ensures (omega arith))

pub returns-in-90 : goal.returns-in-90
returns-in-90 c = rw c.in-90.is (record { whole = sym (written_nothing c.args.at c.args.out.now); next = omega arith })
