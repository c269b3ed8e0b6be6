-- What is written fits the buffer.
-- Assumes nothing.
use Rattle.std.proofs.Common.{arith}
use Rattle.sheets.specs.Inside.{sheet_fits}
use Rattle.sheet.proofs.write_sheet.Goals as goal

pub finish_told-requires-clause-listed_in_bounds : goal.finish_told-requires-clause-listed_in_bounds
finish_told-requires-clause-listed_in_bounds c =
    omega (arith, c.say-told.ensures.length_value, c.book_to_sheet-found.ensures.length, sheet_fits c.args.book.now c.args.mark 120_000, c.book_to_sheet-found.auto.sheet)
