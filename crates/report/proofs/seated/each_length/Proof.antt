-- The bytes so far are those of the seats before the place.
-- Assumes nothing.
use Prim.Native.Nat.{◌-◌, ◌*◌, ◌≤◌}
use mathlib.Core.Path.{◌≡◌, refl, sym, ap, ◌∙◌}
use native.Mathlib.Omega.{arith}
use borrow.Author.Rules.{rules}
use lib.ListN.{length}
use Rattle.rules.specs.Limits.{longest_code}
use Rattle.rules.specs.Division.{sum_of}
use Rattle.laws.specs.Sums.{up_to}
use Rattle.laws.specs.Indices.{sum_more}
use Rattle.seats.specs.Dealt.{seats_at}
use Rattle.seats.specs.Walk.{Behind, Next, behind_none, next, last, full}
use Rattle.report.specs.Sheet.{seat_piece, each_bytes}
use Rattle.report.proofs.First.{first_length}
use Rattle.report.proofs.SeatBytes.{each_first, piece_length, code_short}
use Rattle.report.proofs.seated.each_length.Statement.{statement}
use Rattle.report.proofs.seated.each_length.Tie as tie

abbrev invariant-loop-i : tie.invariant-loop-i
invariant-loop-i book place lots at₀ n₀ i₀ at n i =
    (i ≤ 4) × Behind book place i at × (n ≤ 38 * i) × (n ≡ sum_of (λ j. length (seat_piece (seats_at book place) lots j)) (up_to i))

abbrev decreases-loop-i : tie.decreases-loop-i
decreases-loop-i book place lots at₀ n₀ i₀ at n i =
    4 - i

abbrev start : tie.At-loop-i invariant-loop-i decreases-loop-i → tie.Start invariant-loop-i decreases-loop-i
start b = b.before.before

abbrev turn : tie.In-Found invariant-loop-i decreases-loop-i → tie.At-loop-i invariant-loop-i decreases-loop-i
turn k = k.before.before.before

-- the seat that was found is the next of them
sits : (k : tie.In-Found invariant-loop-i decreases-loop-i) → let a = (start (turn k)).args in Next a.book.now a.place (turn k).loop-i.i k.in-Found.seat
sits k = next _ _ (turn k).loop-i.invariant.1 (omega arith) (sym k.next_seat.ensures ∙ k.in-Found.is)

small : (k : tie.In-Found invariant-loop-i decreases-loop-i) → let p = k.in-Found.seat in p.end - p.start ≤ longest_code
small k = code_short _ _ (start (turn k)).requires (sits k)

-- all of them
all : (b : tie.At-loop-i invariant-loop-i decreases-loop-i) → let a = (start b).args in b.loop-i.i ≡ length (seats_at a.book.now a.place) →
    (b.loop-i.n ≡ length (each_bytes (seats_at a.book.now a.place) a.lots.now)) × (b.loop-i.n ≤ 152)
all b e =
    let a = (start b).args in
    let seats = seats_at a.book.now a.place in
    (b.loop-i.invariant.3 ∙ ap (λ i. sum_of (λ j. length (seat_piece seats a.lots.now j)) (up_to i)) e ∙ sym (ap length (each_first seats a.lots.now) ∙ first_length (seat_piece seats a.lots.now) (length seats)), omega arith)

loop-holds : tie.Need-loop-i-init invariant-loop-i decreases-loop-i
loop-holds c = (search rules, behind_none _ _, omega arith, refl)

next-seat-requires : tie.Need-next_seat-requires invariant-loop-i decreases-loop-i
next-seat-requires c κs = search rules

enum-known-seat : tie.Need-enum_known-seat invariant-loop-i decreases-loop-i
enum-known-seat c = search rules

enum_told : tie.Need-enum_told-1 invariant-loop-i decreases-loop-i
enum_told c = search rules

returns : tie.Need-returns-in_default invariant-loop-i decreases-loop-i
returns c =
    let b = c in
    all c.before.before.before (last _ _ b.loop-i.invariant.1 (omega arith) (sym c.next_seat.ensures ∙ c.in_default.is))

sub-seat-length : tie.Need-overflow_sub-seat invariant-loop-i decreases-loop-i
sub-seat-length c = (sits c.before).ordered.code

mul-seat-length : tie.Need-offset_bounds-lots-i invariant-loop-i decreases-loop-i
mul-seat-length c = search rules

element-copy-out-seat-length : tie.Need-bounds-lots-i invariant-loop-i decreases-loop-i
element-copy-out-seat-length c = search rules

seat-length-requires : tie.Need-seat_length-n-requires invariant-loop-i decreases-loop-i
seat-length-requires c κs = let k = c in omega (arith, small c.before.before.before)

add-n : tie.Need-overflow_add-n invariant-loop-i decreases-loop-i
add-n c = let k = c in omega (arith, small c.before.before.before.before, c.seat_length-n.ensures.1, (turn c.before.before.before.before).loop-i.invariant.2)

add-i : tie.Need-overflow_add-i invariant-loop-i decreases-loop-i
add-i c = search rules

loop-less : tie.Need-loop-i-smaller invariant-loop-i decreases-loop-i
loop-less c = search rules

loop-again : tie.Need-loop-i-preserved invariant-loop-i decreases-loop-i
loop-again c =
    let k = c in
    let b = turn c.before.before.before.before in
    let a = (start b).args in
    let e = c.seat_length-n.ensures in (
      omega arith,
      (sits c.before.before.before.before).behind,
      omega (arith, small c.before.before.before.before, e.1, b.loop-i.invariant.2),
      rw sum_more (omega (arith, b.loop-i.invariant.3, e.0, piece_length a.book.now a.place a.lots.now (sits c.before.before.before.before))),
    )

returns-2 : tie.Need-returns invariant-loop-i decreases-loop-i
returns-2 c = let b = c in all c.before (full _ _ b.loop-i.invariant.1 (omega arith))

pub each_length_spec : {M : Type 1} → statement M
each_length_spec =
    tie.close
    (tie.spec
    invariant-loop-i
    decreases-loop-i
    loop-holds
    next-seat-requires
    enum-known-seat
    enum_told
    returns
    sub-seat-length
    mul-seat-length
    element-copy-out-seat-length
    seat-length-requires
    add-n
    add-i
    loop-less
    loop-again
    returns-2)
