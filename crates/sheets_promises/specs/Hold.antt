-- The tables of sheets hold, all of their cases, by computation.
-- Assumes nothing.
use Rattle.rules.specs.Figures.{written_of, figure_of}
use Rattle.rules.specs.Stamp.{stamp_of}
use Rattle.rules.specs.Opening.{opening_of}
use Rattle.rules.specs.Codes.{is_code}
use Rattle.rules.specs.Fields.{fields_of}
use Rattle.rules.specs.Book.{within, step, judge}
use Rattle.cases.specs.Case.{so}
use Rattle.days.specs.Lines.{lines_of}
use Rattle.sheets.specs.Line.{parts_of, line_of}
use Rattle.sheets.specs.Read.{lines_from, sheet_from, read}
use Rattle.sheets.specs.Write.{field_in, sheet_of}
use Rattle.sheets.specs.Answers.{to_book, to_sheet}
use Rattle.sheets_promises.specs.Case.{AllHold, done, ◌&◌}
use Rattle.sheets_promises.specs.Cases.{books_made_of, sheets_refused, lines_refused, marks_refused, rooms_and_books}

pub books_made : AllHold books_made_of
unfolding books_made_of written_of figure_of opening_of stamp_of is_code fields_of within step judge lines_of parts_of line_of lines_from sheet_from read to_book
books_made =
    so & so & so & so & so & so & so & so & so & so & so & so & so & so & so & so & so & so & so & so
    & so & so & so & so & so & so & so & so & so & so & so & so & so & done

pub sheets_refused_lem : AllHold sheets_refused
unfolding sheets_refused lines_of parts_of line_of lines_from sheet_from read to_book
sheets_refused_lem = so & so & so & so & so & so & so & so & so & so & so & so & done

pub lines_refused_lem : AllHold lines_refused
unfolding lines_refused lines_of parts_of line_of lines_from sheet_from read to_book
lines_refused_lem =
    so & so & so & so & so & so & so & so & so & so & so & so & so & so & so & so & so & so & so & so
    & so & so & so & so & so & so & so & so & so & so & so & done

pub marks_refused_lem : AllHold marks_refused
unfolding marks_refused lines_of parts_of line_of lines_from sheet_from read to_book
marks_refused_lem = so & so & so & so & so & so & so & so & so & so & so & so & so & so & so & so & so & so & so & done

pub rooms_and_books_lem : AllHold rooms_and_books
unfolding rooms_and_books written_of figure_of opening_of stamp_of is_code fields_of within step judge lines_of parts_of line_of lines_from sheet_from read to_book field_in sheet_of to_sheet
rooms_and_books_lem = so & so & so & so & so & so & so & so & so & so & so & so & so & so & so & so & done
