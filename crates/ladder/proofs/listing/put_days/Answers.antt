-- The first line, and the lines of the days behind it.
-- Assumes nothing.
use Rattle.std.proofs.Common.{ap, arith, refl, length, ◌+◌}
use Rattle.writing.specs.Written.{join}
use Rattle.intake.specs.Telling.{same_wrote}
use Rattle.intake.specs.Rolled.{rolled_none, rolled_more, rolled_room, rolled_all}
use Rattle.locks.specs.declared.Step.{Step}
use Rattle.locks.specs.Listing.{day_line}
use Rattle.ladder.proofs.Lines.{listed_size, listed_joined}
use Rattle.ladder.proofs.listing.put_days.Goals as goal

pub put_worded-count-requires : goal.put_worded-count-requires
put_worded-count-requires c = omega (arith, listed_size c.args.rungs.now, c.requires)

pub put_byte-at-requires : goal.put_byte-at-requires
put_byte-at-requires c = omega (arith, listed_size c.args.rungs.now, c.requires, c.put_worded-count.ensures.next)

pub loop-i-init : goal.loop-i-init
loop-i-init c = record { long = refl; rolled = rolled_none _ _ _ _ }

pub put_day-at-requires : goal.put_day-at-requires
put_day-at-requires c =
    let behind = rolled_room c.loop-i.invariant.rolled c.loop-i-test.true (omega (arith, listed_size c.args.rungs.now, c.requires, c.put_worded-count.ensures.next, c.put_byte-at.ensures.next)) in
    omega (arith, behind, ap (λ (x : Step). length (day_line (c.loop-i.i + 1) x)) c.step_of.ensures)

pub loop-i-preserved : goal.loop-i-preserved
loop-i-preserved c =
    let line = same_wrote (ap (λ (x : Step). day_line (c.loop-i.i + 1) x) c.step_of.ensures) c.put_day-at.ensures in
    record {
      long = omega arith;
      rolled = rolled_more c.loop-i.invariant.rolled c.loop-i-test.true (omega (arith, listed_size c.args.rungs.now, c.requires, c.put_worded-count.ensures.next, c.put_byte-at.ensures.next)) line;
    }

pub returns : goal.returns
returns c =
    let head = join c.put_worded-count.ensures c.put_byte-at.ensures (omega arith) in
    same_wrote (listed_joined c.args.rungs.now) (join head (rolled_all c.loop-i.invariant.rolled c.loop-i-test.false) (omega arith))
