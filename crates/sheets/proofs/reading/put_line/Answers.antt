-- By the form of the line, which is one: it was judged.
use Rattle.sheets.proofs.Puts.{is_line}
use Rattle.sheets.proofs.reading.put_line.Goals as goal

pub unwrap-requires : goal.unwrap-requires
unwrap-requires c = is_line c.args.mark c.args.sheet.now c.args.at c.args.place c.args.out.now c.requires c.line_at.result c.line_at.ensures
