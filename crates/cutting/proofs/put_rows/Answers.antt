-- The rows that are put and those still to come are all of them.
-- Assumes nothing.
use Rattle.std.proofs.Common.{arith, ap, ◌∙◌, refl}
use Rattle.rules.specs.Opening.{up_to_blank}
use Rattle.cutting.proofs.Rows.{put_none, put_all, row_room, put_more}
use Rattle.cutting.proofs.put_rows.Goals as goal

pub loop-cut-init : goal.loop-cut-init
loop-cut-init c = put_none _ _ _

pub put_row-here-requires : goal.put_row-here-requires
put_row-here-requires c =
    row_room c.loop-cut.invariant c.requires.cuts_in_bounds (omega arith)
    (c.around_blank.ensures.code ∙ ap up_to_blank c.first_line.ensures.line) c.first_line.ensures.behind refl (omega (arith, c.requires.room))

pub loop-cut-preserved : goal.loop-cut-preserved
loop-cut-preserved c =
    put_more c.loop-cut.invariant c.requires.cuts_in_bounds (omega arith)
    (c.around_blank.ensures.code ∙ ap up_to_blank c.first_line.ensures.line) c.first_line.ensures.behind refl (omega (arith, c.requires.room)) c.put_row-here.ensures

pub returns : goal.returns
returns c = put_all c.loop-cut.invariant (omega arith)
