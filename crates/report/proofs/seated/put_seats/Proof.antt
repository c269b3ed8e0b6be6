-- An only seat has all of the offset; else each has the lots that the array says.
-- Assumes nothing.
use mathlib.Core.Path.{sym, subst, ◌∙◌}
use native.Mathlib.Omega.{arith}
use Rattle.writing.specs.Written.{Room, Wrote}
use Rattle.seats.specs.Dealt.{seats_at}
use Rattle.seats.specs.Only.{Only, only}
use Rattle.seats.specs.Walk.{code_size}
use Rattle.report.proofs.SeatBytes.{each_dealt, only_bytes, only_short}
use borrow.Author.Rules.{rules}
use Rattle.report.proofs.seated.put_seats.Statement.{statement}
use Rattle.report.proofs.seated.put_seats.Tie as tie

abbrev start : tie.In-Found → tie.Start
start k = k.before.before.before.before

lone : (k : tie.In-Found) → Only (start k).args.book.now (start k).args.place k.in-Found.seat
lone k = only _ _ (sym k.only_seat.ensures ∙ k.in-Found.is)

only-seat-requires : tie.Need-only_seat-requires
only-seat-requires c κs = search rules

enum-known-seat : tie.Need-enum_known-seat
enum-known-seat c = search rules

sub-put-seat : tie.Need-slice_bounds-put_seat-count
sub-put-seat c =
    (lone c.before).ordered.code

part-put-seat-start : tie.Need-slice_bounds-put_seat-start
part-put-seat-start c =
    let l = (lone c.before).ordered.code in search rules

part-put-seat-end : tie.Need-slice_bounds-put_seat-end
part-put-seat-end c =
    omega (arith, (lone c.before).ordered)

put-seat-requires : tie.Need-put_seat-requires
put-seat-requires c κs =
    let k = c in
    let s = start c.before.before in
    let a = s.args in
    let o = lone c.before.before in (
      omega (arith, only_short _ _ _ _ _ s.requires.0 o, code_size a.book.now o.ordered),
      subst (λ t. Room a.at t a.out.now) (only_bytes _ _ _ _ _ s.requires.0 o) s.requires.1,
    )

enum_told : tie.Need-enum_told-1
enum_told c = search rules

seat-lots-requires : tie.Need-seat_lots-lots-requires
seat-lots-requires c κs = search rules

put-each-requires : tie.Need-put_each-requires
put-each-requires c κs =
    let l = c in
    let s = l in
    let a = s.args in
    (s.requires.0.sane, subst (λ t. Room a.at t a.out.now) (sym (each_dealt a.standing a.long a.offset (seats_at a.book.now a.place) l.seat_lots-lots.ensures)) s.requires.1)

same_length : tie.Need-shape_of-out-in-Found
same_length c = search rules

returns : tie.Need-returns-in-Found
returns c =
    let w = c in
    let k = w in
    let a = (start c.before.before.before.before.before).args in
    subst (λ t. Wrote a.at t a.out.now w.put_seat.new.out w.put_seat.result) (sym (only_bytes _ _ _ _ _ (start c.before.before.before.before.before).requires.0 (lone c.before.before.before.before.before))) w.put_seat.ensures

same-length-2 : tie.Need-shape_of-out-in-NoSeat
same-length-2 c = search rules

returns-2 : tie.Need-returns-in-NoSeat
returns-2 c =
    let w = c in
    let l = w in
    let a = l.args in
    subst (λ t. Wrote a.at t a.out.now w.put_each.new.out w.put_each.result) (each_dealt a.standing a.long a.offset (seats_at a.book.now a.place) l.seat_lots-lots.ensures) w.put_each.ensures

pub put_seats_spec : {M : Type 1} → statement M
put_seats_spec =
    tie.close
    (tie.spec
    only-seat-requires
    enum-known-seat
    sub-put-seat
    part-put-seat-start
    part-put-seat-end
    put-seat-requires
    enum_told
    seat-lots-requires
    put-each-requires
    same_length
    returns
    same-length-2
    returns-2)
