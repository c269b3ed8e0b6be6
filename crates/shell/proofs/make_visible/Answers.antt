-- One byte more is done at each turn.
-- Assumes nothing.
use Rattle.std.proofs.Common.{◌≡◌, ◌∙◌, ap, arith, get_or}
use Rattle.laws.specs.Filled.{filled_more, filled_next}
use Rattle.shell.specs.Shell.{visible, visible_at}
use Rattle.shell.proofs.make_visible.Goals as goal

pub loop-byte-preserved : goal.loop-byte-preserved
loop-byte-preserved c =
    let v = c.args.name.now in
    let i = c.loop-byte.byte-index in
    let same : get_or c.loop-byte.name i 0 ≡ get_or v i 0 = rw c.loop-byte.invariant (filled_next (visible_at v) i v 0) in
    let e : c.visible.result ≡ visible_at v i = c.visible.ensures ∙ ap visible same in
    rw (e, c.loop-byte.invariant) (filled_more (visible_at v) i v 0 (omega arith))
