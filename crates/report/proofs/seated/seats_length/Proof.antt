-- An only seat has all of the offset; else each has the lots that the array says.
-- Assumes nothing.
use mathlib.Core.Path.{sym, ap, ◌∙◌}
use native.Mathlib.Omega.{arith}
use lib.ListN.{length}
use Rattle.seats.specs.Dealt.{seats_at}
use Rattle.seats.specs.Only.{Only, only}
use Rattle.report.proofs.SeatBytes.{each_dealt, only_short, only_length}
use borrow.Author.Rules.{rules}
use Rattle.report.proofs.seated.seats_length.Statement.{statement}
use Rattle.report.proofs.seated.seats_length.Tie as tie

abbrev start : tie.In-Found → tie.Start
start k = k.before.before.before

lone : (k : tie.In-Found) → Only (start k).args.book.now (start k).args.place k.in-Found.seat
lone k = only _ _ (sym k.only_seat.ensures ∙ k.in-Found.is)

only-seat-requires : tie.Need-only_seat-requires
only-seat-requires c κs = search rules

enum-known-seat : tie.Need-enum_known-seat
enum-known-seat c = search rules

sub-seat-length : tie.Need-overflow_sub-seat
sub-seat-length c =
    (lone c.before).ordered.code

seat-length-requires : tie.Need-seat_length-requires
seat-length-requires c κs =
    let k = c in omega (arith, only_short _ _ _ _ _ (start c.before).requires (lone c.before))

enum_told : tie.Need-enum_told-1
enum_told c = search rules

seat-lots-requires : tie.Need-seat_lots-lots-requires
seat-lots-requires c κs = search rules

each-length-requires : tie.Need-each_length-requires
each-length-requires c κs = search rules

returns : tie.Need-returns-in-Found
returns c =
    let k = c in
    let z = c.seat_length.ensures in
    (z.0 ∙ sym (only_length _ _ _ _ _ (start c.before.before).requires (lone c.before.before)), omega (arith, z.1, only_short _ _ _ _ _ (start c.before.before).requires (lone c.before.before)))

returns-2 : tie.Need-returns-in-NoSeat
returns-2 c =
    let a = c.args in
    let z = c.each_length.ensures in
    (z.0 ∙ ap length (each_dealt a.standing a.long a.offset (seats_at a.book.now a.place) c.seat_lots-lots.ensures), z.1)

pub seats_length_spec : {M : Type 1} → statement M
seats_length_spec =
    tie.close
    (tie.spec
    only-seat-requires
    enum-known-seat
    sub-seat-length
    seat-length-requires
    enum_told
    seat-lots-requires
    each-length-requires
    returns
    returns-2)
