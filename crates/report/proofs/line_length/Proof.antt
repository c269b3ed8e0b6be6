-- A customer's own fields and its seats': a number of 64 bits has at most 20 digits.
-- Assumes nothing.
use native.Mathlib.Omega.{arith}
use Rattle.laws.specs.Digits.{digits_length_20}
use Rattle.report.proofs.Lines.{due_is, line_size}
use borrow.Author.Rules.{rules}
use Rattle.report.proofs.line_length.Statement.{statement}
use Rattle.report.proofs.line_length.Tie as tie

size-at-requires : tie.Need-size_at-size-requires
size-at-requires c κs = search rules

reported-length-requires : tie.Need-reported_length-own-requires
reported-length-requires c κs = search rules

add-seats-length : tie.Need-overflow_add-start
add-seats-length c = search rules

seats-length-requires : tie.Need-seats_length-requires
seats-length-requires c κs =
    due_is c.requires c.size_at-size.ensures

add-result : tie.Need-overflow_add-result
add-result c =
    let s = c in omega (arith, digits_length_20 s.args.offset s.ranges.offset.fits, c.reported_length-own.ensures, c.seats_length.ensures.1, c.size_at-size.ensures, s.requires.short)

returns : tie.Need-returns
returns c =
    let s = c in
    let fits = digits_length_20 s.args.offset s.ranges.offset.fits in
    let size = c.size_at-size.ensures in
    let z = c.seats_length.ensures in
    (omega (arith, z.0, c.reported_length-own.ensures, line_size s.requires size), omega (arith, fits, z.1, c.reported_length-own.ensures, size, s.requires.short))

pub line_length_spec : {M : Type 1} → statement M
line_length_spec =
    tie.close
    (tie.spec
    size-at-requires
    reported-length-requires
    add-seats-length
    seats-length-requires
    add-result
    returns)
