-- To write what is left behind what is there is to write the whole book.
use Rattle.std.proofs.Common.{arith}
use Rattle.sheets.proofs.Left.{left_all, left_ready, left_next, left_size, left_end}
use Rattle.sheets.proofs.reading.put_lines.Goals as goal

pub loop-at-init : goal.loop-at-init
loop-at-init c = left_all c.args.mark c.args.sheet.now c.args.start c.args.out.now c.requires

pub put_line-line-requires : goal.put_line-line-requires
put_line-line-requires c = left_ready c.loop-at.invariant c.loop-at-test.true c.requires.short c.requires.unlike c.requires.room

pub loop-at-smaller : goal.loop-at-smaller
loop-at-smaller c = omega (arith, c.put_line-line.ensures.forward, c.put_line-line.ensures.within)

pub loop-at-preserved : goal.loop-at-preserved
loop-at-preserved c = left_next c.loop-at.invariant c.loop-at-test.true c.requires.room c.put_line-line.ensures

pub put_three-requires : goal.put_three-requires
put_three-requires c = omega (arith, c.requires.room, left_size c.loop-at.invariant c.loop-at-test.false, c.loop-at.invariant.long)

pub returns : goal.returns
returns c = left_end c.loop-at.invariant c.loop-at-test.false c.put_three.ensures
