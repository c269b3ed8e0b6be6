-- `positions::read_seats` meets its contract. The loop's invariant: what is read from the first seat on is what is read from here on.
-- Assumes nothing.
use Prim.Native.Nat.{ℕ, ◌+◌, ◌-◌, ◌<◌}
use mathlib.Core.Path.{◌≡◌, refl, sym, ap, subst, ◌∙◌}
use mathlib.Core.Bool.{true, false}
use native.Mathlib.Omega.{arith}
use lib.ListN.{take, drop, set}
use Rattle.rules.specs.Fields.{fields_of}
use Rattle.rules.specs.Limits.{most_seats}
use Rattle.rules.specs.declared.Position.{Position}
use Rattle.positions.specs.declared.PositionAt.TheVariants.{Read as ReadPosition}
use Rattle.positions.specs.declared.SeatAt.TheVariants.{Read as ReadSeat}
use Rattle.positions.specs.Seats.{begins_seat, plus, seat_of, seats_of}
use Rattle.positions.specs.Ranges.{Few}
use Rattle.positions.proofs.Turn.{Along, none_along, all_read, seat_refused, seat_few, seat_last, seat_more}
use borrow.Author.Rules.{rules}
use Rattle.positions.proofs.read_seats.Statement.{statement}
use Rattle.positions.proofs.read_seats.Tie as tie

abbrev invariant-loop-count : tie.invariant-loop-count
invariant-loop-count book terms first keys₀ sum₀ count₀ at₀ keys sum count at = Along book terms first keys sum count at

abbrev decreases-loop-count : tie.decreases-loop-count
decreases-loop-count book terms first keys₀ sum₀ count₀ at₀ keys sum count at = 4 - count

loop-holds : tie.Need-loop-count-init invariant-loop-count decreases-loop-count
loop-holds c = let a = c.args in none_along a.book.now a.terms a.first _ refl

read-seat-requires : tie.Need-read_seat-requires invariant-loop-count decreases-loop-count
read-seat-requires c κs = c.loop-count.invariant.most

enum-known-key : tie.Need-enum_known-key invariant-loop-count decreases-loop-count
enum-known-key c = search rules

mul-keys : tie.Need-offset_bounds-keys-count invariant-loop-count decreases-loop-count
mul-keys c = search rules

array-write-keys : tie.Need-bounds-keys-count invariant-loop-count decreases-loop-count
array-write-keys c = search rules

-- a seat was read
module _ (c : tie.In-Read invariant-loop-count decreases-loop-count) where
  abbrev start : tie.Start invariant-loop-count decreases-loop-count
  start = c.before.before.before.before.before.before

  abbrev turn : tie.At-loop-count invariant-loop-count decreases-loop-count
  turn = c.before.before.before.before

  abbrev key : ℕ
  key = c.in-Read.key

  abbrev held : Position
  held = c.in-Read.position

  abbrev next : ℕ
  next = c.in-Read.next

  read : seat_of start.args.book.now start.args.terms (take turn.loop-count.count turn.loop-count.keys) turn.loop-count.at ≡ ReadSeat key held next
  read = sym c.read_seat.ensures ∙ c.in-Read.is

  room : turn.loop-count.count < most_seats
  room = omega arith

  few : Few 1_000_000 held
  few = let l = turn.loop-count in seat_few start.args.book.now start.args.terms start.args.first l.keys l.sum l.count l.at l.invariant room key held next read

  last : begins_seat (fields_of (drop next start.args.book.now)) ≡ false → seats_of start.args.book.now start.args.terms start.args.first ≡ ReadPosition (plus turn.loop-count.sum held) next
  last e = let l = turn.loop-count in seat_last start.args.book.now start.args.terms start.args.first l.keys l.sum l.count l.at l.invariant room key held next read e

  more : begins_seat (fields_of (drop next start.args.book.now)) ≡ true → Along start.args.book.now start.args.terms start.args.first (set turn.loop-count.keys turn.loop-count.count key) (plus turn.loop-count.sum held) (turn.loop-count.count + 1) next
  more e = let l = turn.loop-count in seat_more start.args.book.now start.args.terms start.args.first l.keys l.sum l.count l.at l.invariant room key held next read e

add-requires : tie.Need-add-sum-requires invariant-loop-count decreases-loop-count
add-requires c κs =
    let f = (turn c).loop-count.invariant.few in
    (record { long = omega (arith, f.long); short = omega (arith, f.short); unfilled = omega (arith, f.unfilled) }, few c)

add-count : tie.Need-overflow_add-count invariant-loop-count decreases-loop-count
add-count c = search rules

enum-known-r : tie.Need-enum_known-r invariant-loop-count decreases-loop-count
enum-known-r c = search rules

returns : tie.Need-returns-in-Refused invariant-loop-count decreases-loop-count
returns c =
    let b = c in
    let l = b.loop-count in
    let a = b.args in
    sym (seat_refused a.book.now a.terms a.first l.keys l.sum l.count l.at l.invariant (omega arith) _ (sym b.read_seat.ensures ∙ c.in-Refused.is))

begins-seat-requires : tie.Need-begins_seat-requires invariant-loop-count decreases-loop-count
begins-seat-requires c κs = search rules

returns-2 : tie.Need-returns-then-not-begins_seat invariant-loop-count decreases-loop-count
returns-2 c =
    let t = c in
    ap (λ (p : Position). ReadPosition p (next c.before.before.before)) c.add-sum.ensures ∙ sym (last c.before.before.before (sym c.begins_seat.ensures ∙ c.if-not-begins_seat.true))

loop-less : tie.Need-loop-count-smaller invariant-loop-count decreases-loop-count
loop-less c = search rules

loop-again : tie.Need-loop-count-preserved invariant-loop-count decreases-loop-count
loop-again c =
    let t = c in
    let s = (start c.before.before.before).args in
    subst (λ (p : Position). Along s.book.now s.terms s.first (set (turn c.before.before.before).loop-count.keys (turn c.before.before.before).loop-count.count (key c.before.before.before)) p ((turn c.before.before.before).loop-count.count + 1) (next c.before.before.before))
    (sym c.add-sum.ensures) (more c.before.before.before (sym c.begins_seat.ensures ∙ c.if-not-begins_seat.false))

returns-3 : tie.Need-returns invariant-loop-count decreases-loop-count
returns-3 c = let l = c.loop-count in let a = c.args in sym (all_read a.book.now a.terms a.first l.keys l.sum l.count l.at l.invariant (omega arith))

pub read_seats_spec : {M : Type 1} → statement M
read_seats_spec =
    tie.close
    (tie.spec
    invariant-loop-count
    decreases-loop-count
    loop-holds
    read-seat-requires
    enum-known-key
    mul-keys
    array-write-keys
    add-requires
    add-count
    enum-known-r
    returns
    begins-seat-requires
    returns-2
    loop-less
    loop-again
    returns-3)
