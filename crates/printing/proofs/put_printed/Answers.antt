-- The parts join; the letter is written with its blanks, and the definition has them one after the other.
use Rattle.std.proofs.Common.{append_assoc, arith}
use Rattle.writing.specs.Written.{join}
use Rattle.printing.proofs.put_printed.Goals as goal

pub returns : goal.returns
returns c =
    let named = join c.put_bytes-blank.ensures c.put_three-number.ensures (omega arith) in
    let all = join (join named c.put_digits-feed.ensures (omega arith)) c.put_byte.ensures (omega arith) in
    rw (← c.letter_of.ensures) (simp append_assoc (simp append_assoc at all))
