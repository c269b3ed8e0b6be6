-- The tag and length join with the letter.
use Rattle.std.proofs.Common.{arith}
use Rattle.writing.specs.Written.{join}
use Rattle.entries.proofs.put_standing_field.Goals as goal

pub returns : goal.returns
returns c = rw (← c.letter_of.ensures) (join c.put_tag-value.ensures c.put_byte.ensures (omega arith))
