-- `allotment::report_lines` meets its contract: no report is longer than a buffer that every report fits; else 11 where it is longer than the buffer.
-- Assumes nothing.
use Rattle.report.specs.Sheet.{sheet, report_bytes}
use Rattle.answers.specs.Answering.{too_small}
use borrow.Author.Rules.{rules}
use Rattle.allotment.proofs.report_lines.Statement.{statement}
use Rattle.allotment.proofs.report_lines.Tie as tie

write-lines-requires : tie.Need-write_lines-requires
write-lines-requires c κs = search rules

same_length : tie.Need-shape_of-report-then-report-ge-REPORT_ROOM
same_length c = search rules

returns : tie.Need-returns-then-report-ge-REPORT_ROOM
returns c = search rules

report-length-requires : tie.Need-report_length-needed-requires
report-length-requires c κs = search rules

returns-2 : tie.Need-returns-then-report-needed
returns-2 c =
    let l = c in
    let a = l.args in
    too_small (report_bytes (sheet a.book.now a.starts.now a.standings.now a.offset.now a.count a.total a.residue)) a.report.now l.report_length-needed.result l.report_length-needed.ensures c.if-report-needed.true

write-lines-requires-2 : tie.Need-write_lines-requires-2
write-lines-requires-2 c κs = search rules

same-length-2 : tie.Need-shape_of-report
same-length-2 c = search rules

returns-3 : tie.Need-returns
returns-3 c = search rules

pub report_lines_spec : {M : Type 1} → statement M
report_lines_spec =
    tie.close
    (tie.spec
    write-lines-requires
    same_length
    returns
    report-length-requires
    returns-2
    write-lines-requires-2
    same-length-2
    returns-3)
