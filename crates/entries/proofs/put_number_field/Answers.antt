-- The tag and length join with the digits.
use Rattle.std.proofs.Common.{arith}
use Rattle.writing.specs.Written.{join}
use Rattle.entries.proofs.put_number_field.Goals as goal

pub returns : goal.returns
returns c = rw (← c.digits_length-count.ensures.0) (join c.put_tag-value.ensures c.fill_digits.ensures (omega arith))
