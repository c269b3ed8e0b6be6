-- What is counted and what is left are all, and what is counted is no more than the bytes passed.
use Rattle.std.proofs.Common.{◌-◌, sym, ◌∙◌, arith}
use Rattle.fields.specs.Laws.{stands}
use Rattle.sheets.specs.Shown.{size_most}
use Rattle.sheets.proofs.Fields.{over, size_field, size_none}
use Rattle.sheets.proofs.shown.sheet_size.Goals as goal

pub loop-tag-smaller : goal.loop-tag-smaller
loop-tag-smaller c = let t = stands c.args.book.now c.loop-tag.at _ _ _ (sym c.field_at.ensures ∙ c.in-Field.is) in omega (arith, t.order, t.inside, t.begins)

pub loop-tag-preserved : goal.loop-tag-preserved
loop-tag-preserved c =
    let t = stands c.args.book.now c.loop-tag.at _ _ _ (sym c.field_at.ensures ∙ c.in-Field.is) in
    let m = size_most c.in-Field.tag (c.in-Field.end - c.in-Field.start) in
    (t.inside, omega (arith, t.order, t.begins, c.shown_size-size.ensures, m), omega (arith, c.shown_size-size.ensures, size_field t, c.loop-tag.invariant.2))

pub returns : goal.returns
returns c =
    let s = c.args.book.now in
    omega (arith, c.loop-tag.invariant.2, size_none s c.loop-tag.at (over s c.loop-tag.at (sym c.field_at.ensures ∙ c.in_default.is)))
