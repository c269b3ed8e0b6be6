-- To write the fields that are left behind those that are there is to write all of them.
use Rattle.std.proofs.Common.{◌+◌, ◌-◌, ◌≤◌, length, take, drop, List, ℕ, sym, ap, ◌∙◌, arith}
use Rattle.rules.specs.Fields.{fields_of}
use Rattle.fields.specs.Laws.{stands}
use Rattle.writing.specs.Written.{written, written_length, written_nothing}
use Rattle.sheets.specs.Write.{shown}
use Rattle.sheets.specs.Shown.{shown_size, shown_length, fields_length}
use Rattle.sheets.proofs.Fields.{over, rest_field, rest_none, size_field, size_none, onward}
use Rattle.sheets.proofs.shown.put_fields.Goals as goal

pub put_shown-next-requires : goal.put_shown-next-requires
put_shown-next-requires c =
    let t = stands c.args.book.now c.loop-tag.from _ _ _ (sym c.field_at.ensures ∙ c.in-Field.is) in
    omega (arith, c.loop-tag.invariant.1, c.loop-tag.invariant.2, ap (shown_size c.in-Field.tag) t.size, size_field t, c.requires)

pub slice_bounds-put_shown-end : goal.slice_bounds-put_shown-end
slice_bounds-put_shown-end c = let t = stands c.args.book.now c.loop-tag.from _ _ _ (sym c.field_at.ensures ∙ c.in-Field.is) in t.inside

pub loop-tag-smaller : goal.loop-tag-smaller
loop-tag-smaller c = let t = stands c.args.book.now c.loop-tag.from _ _ _ (sym c.field_at.ensures ∙ c.in-Field.is) in omega (arith, t.order, t.inside, t.begins)

pub loop-tag-preserved : goal.loop-tag-preserved
loop-tag-preserved c =
    let t = stands c.args.book.now c.loop-tag.from _ _ _ (sym c.field_at.ensures ∙ c.in-Field.is) in
    let v = take (c.in-Field.end - c.in-Field.start) (drop c.in-Field.start c.args.book.now) in
    let tag = c.in-Field.tag in
    let wrote = c.put_shown-next.ensures in
    let size = shown_length c.args.mark tag v in
    let part = ap (shown_size tag) t.size in
    let fits : c.loop-tag.next + length (shown c.args.mark tag v) ≤ length c.loop-tag.out =
    omega (arith, c.loop-tag.invariant.1, c.loop-tag.invariant.2, size, part, size_field t, c.requires) in (
      t.inside,
      ap length wrote.whole ∙ written_length c.loop-tag.next (shown c.args.mark tag v) c.loop-tag.out fits ∙ c.loop-tag.invariant.1,
      omega (arith, wrote.next, c.loop-tag.invariant.2, size, part, size_field t),
      onward c.loop-tag.next (shown c.args.mark tag v) _ _ c.loop-tag.out _ _ wrote (omega (arith, fits)) (rest_field c.args.mark c.args.book.now t) ∙ c.loop-tag.invariant.3,
    )

pub returns : goal.returns
returns c =
    let s = c.args.book.now in
    let o = over s c.loop-tag.from (sym c.field_at.ensures ∙ c.in_default.is) in
    record {
      whole = sym (ap (λ (r : List ℕ). written c.loop-tag.next r c.loop-tag.out) (rest_none c.args.mark s c.loop-tag.from o) ∙ written_nothing c.loop-tag.next c.loop-tag.out) ∙ c.loop-tag.invariant.3;
      next = omega (arith, c.loop-tag.invariant.2, size_none s c.loop-tag.from o, fields_length c.args.mark (fields_of s));
    }
