-- Three words join.
-- Assumes nothing.
use Rattle.std.proofs.Common.{ap, arith, length}
use Rattle.writing.specs.Written.{join}
use Rattle.watch.specs.Moves.{kind}
use Rattle.intake.specs.Telling.{same_wrote}
use Rattle.moves.proofs.Lines.{word_met, kind_size}
use Rattle.moves.proofs.listing.put_kind.Goals as goal

pub put_span-second-requires : goal.put_span-second-requires
put_span-second-requires c =
    let a = c.args in
    omega (arith, kind_size a.name.now a.byte, ap length (word_met a.name.now 51 c.is_set.ensures))

pub put_span-third-requires : goal.put_span-third-requires
put_span-third-requires c =
    let a = c.args in
    omega (arith, kind_size a.name.now a.byte, ap length (word_met a.name.now 51 c.is_set.ensures), ap length (word_met a.name.now 52 c.is_set-2.ensures), c.put_span-second.ensures.next)

pub put_span-requires : goal.put_span-requires
put_span-requires c =
    let a = c.args in
    omega (
      arith,
      kind_size a.name.now a.byte,
      ap length (word_met a.name.now 51 c.is_set.ensures),
      ap length (word_met a.name.now 52 c.is_set-2.ensures),
      ap length (word_met a.name.now 53 c.is_set-3.ensures),
      c.put_span-second.ensures.next,
      c.put_span-third.ensures.next,
    )

pub returns : goal.returns
unfolding kind
returns c =
    let a = c.args in
    let one = same_wrote (word_met a.name.now 51 c.is_set.ensures) c.put_span-second.ensures in
    let two = same_wrote (word_met a.name.now 52 c.is_set-2.ensures) c.put_span-third.ensures in
    let three = same_wrote (word_met a.name.now 53 c.is_set-3.ensures) c.put_span.ensures in
    join (join one two (omega (arith, c.requires))) three (omega (arith, c.requires))
