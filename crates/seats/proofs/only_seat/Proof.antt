-- Two looks, each at a place.
-- Assumes nothing.
use mathlib.Core.Path.{sym, ap, ◌∙◌}
use borrow.Author.Rules.{rules}
use Rattle.seats.specs.Places.{alone, only_from}
use Rattle.seats.proofs.only_seat.Statement.{statement}
use Rattle.seats.proofs.only_seat.Tie as tie

next-seat-requires : tie.Need-next_seat-requires
next-seat-requires c κs = search rules

enum-known-seat : tie.Need-enum_known-seat
enum-known-seat c = search rules

enum_told : tie.Need-enum_told-1
enum_told c = search rules

returns : tie.Need-returns-in_default
returns c = sym (ap (only_from c.args.book.now) (sym c.next_seat.ensures ∙ c.in_default.is))

next-seat-requires-2 : tie.Need-next_seat-requires-2
next-seat-requires-2 c κs = search rules

enum-told-2 : tie.Need-enum_told-in-Found-next_seat
enum-told-2 c = search rules

enum-told-3 : tie.Need-enum_told-in-NoSeat
enum-told-3 c = search rules

returns-2 : tie.Need-returns-in-Found-next_seat
returns-2 c =
    let k = c in
    sym
    (ap (only_from k.args.book.now) (sym k.next_seat.ensures ∙ k.in-Found.is)
    ∙ ap (alone k.in-Found.seat) (sym c.next_seat-2.ensures ∙ c.in-Found-next_seat.is))

returns-3 : tie.Need-returns-in-NoSeat
returns-3 c =
    let k = c in
    sym
    (ap (only_from k.args.book.now) (sym k.next_seat.ensures ∙ k.in-Found.is)
    ∙ ap (alone k.in-Found.seat) (sym c.next_seat-2.ensures ∙ c.in-NoSeat.is))

pub only_seat_spec : {M : Type 1} → statement M
only_seat_spec =
    tie.close
    (tie.spec
    next-seat-requires
    enum-known-seat
    enum_told
    returns
    next-seat-requires-2
    enum-told-2
    enum-told-3
    returns-2
    returns-3)
