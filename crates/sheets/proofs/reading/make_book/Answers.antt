-- Too long, no mark line, or the lines behind it.
use Rattle.std.proofs.Common.{refl, sym, ◌∙◌, subst}
use Rattle.sheets.specs.Read.{Read}
use Rattle.sheets.specs.Making.{Makes}
use Rattle.sheets.proofs.Answering.{read_long, read_short, bad_makes}
use Rattle.sheets.proofs.Begins.{comma_lines, point_lines, no_lines}
use Rattle.sheets.proofs.reading.make_book.Goals as goal

pub returns-then-sheet-gt-LONGEST_BOOK : goal.returns-then-sheet-gt-LONGEST_BOOK
returns-then-sheet-gt-LONGEST_BOOK c = bad_makes _ c.args.book.now _ (read_long c.args.sheet.now c.if-sheet-gt-LONGEST_BOOK.true)

pub make_lines-requires : goal.make_lines-requires
make_lines-requires c = ((comma_lines c.args.sheet.now (sym c.starts_with.ensures.value ∙ c.if-starts_with.true)).1, c.if-sheet-gt-LONGEST_BOOK.false, refl)

pub returns-then-starts_with : goal.returns-then-starts_with
returns-then-starts_with c =
    let s = c.args.sheet.now in
    subst (λ (r : Read). Makes r c.args.book.now c.make_lines.new.book c.make_lines.result)
    (sym (read_short s c.if-sheet-gt-LONGEST_BOOK.false ∙ (comma_lines s (sym c.starts_with.ensures.value ∙ c.if-starts_with.true)).0)) c.make_lines.ensures

pub make_lines-requires-then-starts_with-2 : goal.make_lines-requires-then-starts_with-2
make_lines-requires-then-starts_with-2 c = ((point_lines c.args.sheet.now (sym c.starts_with-2.ensures.value ∙ c.if-starts_with-2.true)).1, c.if-sheet-gt-LONGEST_BOOK.false, refl)

pub returns-then-starts_with-2 : goal.returns-then-starts_with-2
returns-then-starts_with-2 c =
    let s = c.args.sheet.now in
    subst (λ (r : Read). Makes r c.args.book.now c.make_lines-then-starts_with-2.new.book c.make_lines-then-starts_with-2.result)
    (sym (read_short s c.if-sheet-gt-LONGEST_BOOK.false ∙ (point_lines s (sym c.starts_with-2.ensures.value ∙ c.if-starts_with-2.true)).0)) c.make_lines-then-starts_with-2.ensures

pub returns : goal.returns
returns c =
    bad_makes _ c.args.book.now _
    (read_short c.args.sheet.now c.if-sheet-gt-LONGEST_BOOK.false
    ∙ no_lines c.args.sheet.now (sym c.starts_with.ensures.value ∙ c.if-starts_with.false) (sym c.starts_with-2.ensures.value ∙ c.if-starts_with-2.false))
