-- `allotment::write_lines` meets its contract: what is written is the report, which fits.
-- Assumes nothing.
use Rattle.report.specs.Sheet.{sheet, report_bytes}
use Rattle.answers.specs.Answering.{fits}
use borrow.Author.Rules.{rules}
use Rattle.allotment.proofs.write_lines.Statement.{statement}
use Rattle.allotment.proofs.write_lines.Tie as tie

put-sheet-requires : tie.Need-put_sheet-length-requires
put-sheet-requires c κs = search rules

same_length : tie.Need-shape_of-report
same_length c = search rules

returns : tie.Need-returns
returns c =
    let p = c in
    let s = p in
    let a = s.args in
    fits (report_bytes (sheet a.book.now a.starts.now a.standings.now a.offset.now a.count a.total a.residue)) a.report.now _ p.put_sheet-length.result s.requires.1 p.put_sheet-length.ensures.whole p.put_sheet-length.ensures.next

pub write_lines_spec : {M : Type 1} → statement M
write_lines_spec = tie.close (tie.spec put-sheet-requires same_length returns)
