-- A word, or nothing.
-- Assumes nothing.
use Rattle.std.proofs.Common.{sym, arith}
use Rattle.writing.specs.Written.{join}
use Rattle.intake.specs.Telling.{same_wrote, nothing}
use Rattle.moves.proofs.Lines.{word_met}
use Rattle.moves.proofs.listing.put_span.Goals as goal

pub returns-then-not-met : goal.returns-then-not-met
returns-then-not-met c = let a = c.args in same_wrote (sym (word_met a.name.now a.days c.if-not-met.true)) (nothing a.at a.out.now)

pub returns : goal.returns
returns c =
    let a = c.args in
    same_wrote (sym (word_met a.name.now a.days c.if-not-met.false)) (join c.put_bytes-digit.ensures c.put_byte.ensures (omega (arith, c.requires)))
