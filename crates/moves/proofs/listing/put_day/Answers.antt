-- Nothing, or a number, the spans and a line feed.
-- Assumes nothing.
use Rattle.std.proofs.Common.{arith}
use Rattle.writing.specs.Written.{join}
use Rattle.intake.specs.Telling.{same_wrote, nothing}
use Rattle.moves.proofs.Lines.{no_line, line_of, line_size}
use Rattle.moves.proofs.listing.put_day.Goals as goal

pub returns-then-byte-eq0 : goal.returns-then-byte-eq0
returns-then-byte-eq0 c = let a = c.args in same_wrote (no_line a.day a.byte c.if-byte-eq0.true) (nothing a.at a.out.now)

pub put_digits-prices-requires : goal.put_digits-prices-requires
put_digits-prices-requires c = omega (arith, line_size c.args.day c.args.byte c.if-byte-eq0.false)

pub put_kind-interests-requires : goal.put_kind-interests-requires
put_kind-interests-requires c = omega (arith, line_size c.args.day c.args.byte c.if-byte-eq0.false, c.put_digits-prices.ensures.next)

pub put_kind-end-requires : goal.put_kind-end-requires
put_kind-end-requires c = omega (arith, line_size c.args.day c.args.byte c.if-byte-eq0.false, c.put_digits-prices.ensures.next, c.put_kind-interests.ensures.next)

pub put_byte-requires : goal.put_byte-requires
put_byte-requires c =
    omega (arith, line_size c.args.day c.args.byte c.if-byte-eq0.false, c.put_digits-prices.ensures.next, c.put_kind-interests.ensures.next, c.put_kind-end.ensures.next)

pub returns : goal.returns
returns c =
    let spans = join c.put_digits-prices.ensures c.put_kind-interests.ensures (omega (arith, c.requires)) in
    same_wrote (line_of c.args.day c.args.byte c.if-byte-eq0.false) (join (join spans c.put_kind-end.ensures (omega (arith, c.requires))) c.put_byte.ensures (omega (arith, c.requires)))
