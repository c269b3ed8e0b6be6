-- What is written fits the buffer.
-- Assumes nothing.
use Rattle.std.proofs.Common.{length-take, arith}
use Rattle.sheets.specs.Inside.{book_fits}
use Rattle.sheet.proofs.read_sheet.Goals as goal

pub slice_bounds-book-end : goal.slice_bounds-book-end
slice_bounds-book-end c = omega (arith, c.sheet_to_book-found.ensures.length, book_fits c.args.sheet.now 120_000, c.sheet_to_book-found.auto.book)

pub slice_bounds-say-end : goal.slice_bounds-say-end
slice_bounds-say-end c = simp length-take (omega (arith, c.sheet_to_book-found.ensures.length, book_fits c.args.sheet.now 120_000, c.sheet_to_book-found.auto.book))

pub finish_told-requires-clause-listed_in_bounds : goal.finish_told-requires-clause-listed_in_bounds
finish_told-requires-clause-listed_in_bounds c =
    omega (arith, c.say-told.ensures.length_value, c.sheet_to_book-found.ensures.length, book_fits c.args.sheet.now 120_000, c.sheet_to_book-found.auto.book)
