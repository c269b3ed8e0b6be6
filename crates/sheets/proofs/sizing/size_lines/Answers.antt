-- One line more, good or bad; and the end.
use Rattle.std.proofs.Common.{arith}
use Rattle.sheets.proofs.Adding.{added_none, adds_good, adds_bad, adds_end}
use Rattle.sheets.proofs.sizing.size_lines.Goals as goal

pub loop-at-init : goal.loop-at-init
loop-at-init c = record { inside = omega arith; lines = omega arith; few = omega arith; added = added_none _ }

pub overflow_add-total : goal.overflow_add-total
overflow_add-total c =
    let f = c.in-Ok.ensures in
    let i = c.loop-at.invariant in
    omega (arith, f.forward, f.within, f.small)

pub loop-at-smaller : goal.loop-at-smaller
loop-at-smaller c = omega (arith, c.in-Ok.ensures.forward, c.in-Ok.ensures.within)

pub loop-at-preserved : goal.loop-at-preserved
loop-at-preserved c =
    let f = c.in-Ok.ensures in
    record {
      inside = f.within;
      lines = omega (arith, f.forward);
      few = omega (arith, f.forward, f.small);
      added = adds_good _ _ _ _ _ _ c.loop-at.invariant.added c.loop-at-test.true _ _ f;
    }

pub returns-in-Err : goal.returns-in-Err
returns-in-Err c = adds_bad _ _ _ _ _ _ c.loop-at.invariant.added c.loop-at-test.true _ c.in-Err.ensures

pub returns : goal.returns
returns c = adds_end _ _ _ _ _ _ c.loop-at.invariant.added c.loop-at-test.false
