-- Two words join.
-- Assumes nothing.
use Rattle.std.proofs.Common.{sym, ap, arith}
use Rattle.writing.specs.Written.{join}
use Rattle.locks.specs.Listing.{step_words}
use Rattle.intake.specs.Telling.{same_wrote}
use Rattle.ladder.proofs.listing.put_step.Goals as goal

pub returns-in-First : goal.returns-in-First
returns-in-First c = same_wrote (sym (ap step_words c.in-First.is)) (join c.put_bytes-word.ensures c.put_raise.ensures (omega (arith, c.requires)))
