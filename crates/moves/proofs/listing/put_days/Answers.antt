-- The first line, and the lines of the days behind it.
-- Assumes nothing.
use Rattle.std.proofs.Common.{arith, refl}
use Rattle.writing.specs.Written.{join}
use Rattle.intake.specs.Telling.{same_wrote}
use Rattle.intake.specs.Rolled.{rolled_none, rolled_more, rolled_room, rolled_all}
use Rattle.moves.proofs.Lines.{lines_same, listed_joined, listing_fits}
use Rattle.moves.proofs.listing.put_days.Goals as goal

pub put_worded-count-requires : goal.put_worded-count-requires
put_worded-count-requires c = let f = listing_fits c.args.bytes.now c.args.out.now c.requires.bytes_len_bound c.requires.listing_room_in_bounds in omega (arith, f)

pub put_byte-at-requires : goal.put_byte-at-requires
put_byte-at-requires c =
    let f = listing_fits c.args.bytes.now c.args.out.now c.requires.bytes_len_bound c.requires.listing_room_in_bounds in
    omega (arith, f, c.put_worded-count.ensures.next)

pub loop-i-init : goal.loop-i-init
loop-i-init c = record { long = refl; rolled = rolled_none _ _ _ _ }

pub put_day-at-requires : goal.put_day-at-requires
put_day-at-requires c =
    let f = listing_fits c.args.bytes.now c.args.out.now c.requires.bytes_len_bound c.requires.listing_room_in_bounds in
    omega (arith, rolled_room c.loop-i.invariant.rolled c.loop-i-test.true (omega (arith, f, c.put_worded-count.ensures.next, c.put_byte-at.ensures.next)))

pub loop-i-preserved : goal.loop-i-preserved
loop-i-preserved c =
    let f = listing_fits c.args.bytes.now c.args.out.now c.requires.bytes_len_bound c.requires.listing_room_in_bounds in
    record {
      long = omega arith;
      rolled = rolled_more c.loop-i.invariant.rolled c.loop-i-test.true (omega (arith, f, c.put_worded-count.ensures.next, c.put_byte-at.ensures.next)) c.put_day-at.ensures;
    }

pub returns : goal.returns
returns c =
    let f = listing_fits c.args.bytes.now c.args.out.now c.requires.bytes_len_bound c.requires.listing_room_in_bounds in
    let head = join c.put_worded-count.ensures c.put_byte-at.ensures (omega arith) in
    listed_joined c.args.bytes.now (join head (same_wrote (lines_same 1 c.args.bytes.now) (rolled_all c.loop-i.invariant.rolled c.loop-i-test.false)) (omega arith))
