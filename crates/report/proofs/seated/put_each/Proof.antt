-- Behind the place stand the fields of the seats before the next, and those of the next join them.
-- Assumes nothing.
use Prim.Native.Nat.{◌-◌, ◌≤◌}
use mathlib.Core.Path.{◌≡◌, refl, sym, ap, subst, ◌∙◌}
use native.Mathlib.Omega.{arith}
use borrow.Author.Rules.{rules}
use lib.ListN.{length}
use Rattle.writing.specs.Written.{Room, Wrote, written_nothing}
use Rattle.seats.specs.Dealt.{seats_at}
use Rattle.seats.specs.Walk.{Behind, Next, behind_none, next, last, full, code_size}
use Rattle.report.specs.Sheet.{seat_piece, each_bytes}
use Rattle.report.proofs.First.{first, piece_room, piece_joins}
use Rattle.report.proofs.SeatBytes.{each_first, piece_is, code_short}
use Rattle.report.proofs.seated.put_each.Statement.{statement}
use Rattle.report.proofs.seated.put_each.Tie as tie

abbrev invariant-loop-i : tie.invariant-loop-i
invariant-loop-i out₀ at book place lots end₀ next₀ i₀ out end next i =
    (i ≤ 4) × Behind book place i next × (length out ≡ length out₀) × Wrote at (first (seat_piece (seats_at book place) lots) i) out₀ out end

abbrev decreases-loop-i : tie.decreases-loop-i
decreases-loop-i out₀ at book place lots end₀ next₀ i₀ out end next i = 4 - i

abbrev start : tie.At-loop-i invariant-loop-i decreases-loop-i → tie.Start invariant-loop-i decreases-loop-i
start b = b.before.before.before

abbrev turn : tie.In-Found invariant-loop-i decreases-loop-i → tie.At-loop-i invariant-loop-i decreases-loop-i
turn k = k.before.before.before

-- the seat that was found is the next of them
sits : (k : tie.In-Found invariant-loop-i decreases-loop-i) → let a = (start (turn k)).args in Next a.book.now a.place (turn k).loop-i.i k.in-Found.seat
sits k = next _ _ (turn k).loop-i.invariant.1 (omega arith) (sym k.next_seat.ensures ∙ k.in-Found.is)

-- they all fit
room : (s : tie.Start invariant-loop-i decreases-loop-i) → let a = s.args in let seats = seats_at a.book.now a.place in Room a.at (first (seat_piece seats a.lots.now) (length seats)) a.out.now
room s = let a = s.args in omega (arith, s.requires.1, ap length (each_first (seats_at a.book.now a.place) a.lots.now))

all : (b : tie.At-loop-i invariant-loop-i decreases-loop-i) → let a = (start b).args in b.loop-i.i ≡ length (seats_at a.book.now a.place) →
    Wrote a.at (each_bytes (seats_at a.book.now a.place) a.lots.now) a.out.now b.loop-i.out b.loop-i.end
all b e =
    let a = (start b).args in
    let seats = seats_at a.book.now a.place in
    rw (each_first seats a.lots.now, ← e) b.loop-i.invariant.3

loop-holds : tie.Need-loop-i-init invariant-loop-i decreases-loop-i
unfolding first
loop-holds c = let a = c.args in (search rules, behind_none _ _, refl, record { whole = sym (written_nothing a.at a.out.now); next = omega arith })

next-seat-requires : tie.Need-next_seat-requires invariant-loop-i decreases-loop-i
next-seat-requires c κs = search rules

enum-known-seat : tie.Need-enum_known-seat invariant-loop-i decreases-loop-i
enum-known-seat c = search rules

enum_told : tie.Need-enum_told-1 invariant-loop-i decreases-loop-i
enum_told c = search rules

same_length : tie.Need-shape_of-out-in_default invariant-loop-i decreases-loop-i
same_length c = search rules

returns : tie.Need-returns-in_default invariant-loop-i decreases-loop-i
returns c =
    let b = c in
    all c.before.before.before (last _ _ b.loop-i.invariant.1 (omega arith) (sym c.next_seat.ensures ∙ c.in_default.is))

sub-put-seat : tie.Need-slice_bounds-put_seat-count invariant-loop-i decreases-loop-i
sub-put-seat c = (sits c.before).ordered.code

part-put-seat-start : tie.Need-slice_bounds-put_seat-start invariant-loop-i decreases-loop-i
part-put-seat-start c = let l = (sits c.before).ordered.code in search rules

part-put-seat-end : tie.Need-slice_bounds-put_seat-end invariant-loop-i decreases-loop-i
part-put-seat-end c = omega (arith, (sits c.before).ordered)

mul-put-seat : tie.Need-offset_bounds-lots-i invariant-loop-i decreases-loop-i
mul-put-seat c = search rules

element-copy-out-put-seat : tie.Need-bounds-lots-i invariant-loop-i decreases-loop-i
element-copy-out-put-seat c = search rules

put-seat-requires : tie.Need-put_seat-end-requires invariant-loop-i decreases-loop-i
put-seat-requires c κs =
    let k = c in
    let b = turn c.before.before.before.before in
    let a = (start b).args in
    let n = sits c.before.before.before.before in (
      omega (arith, code_short a.book.now a.place (start b).requires.0 n, code_size a.book.now n.ordered),
      subst (λ t. Room b.loop-i.end t b.loop-i.out) (piece_is a.book.now a.place a.lots.now n) (piece_room (seat_piece (seats_at a.book.now a.place) a.lots.now) _ b.loop-i.i b.loop-i.invariant.3 (room (start b)) b.loop-i.invariant.2 n.below),
    )

add-i : tie.Need-overflow_add-i invariant-loop-i decreases-loop-i
add-i c = search rules

loop-less : tie.Need-loop-i-smaller invariant-loop-i decreases-loop-i
loop-less c = search rules

loop-again : tie.Need-loop-i-preserved invariant-loop-i decreases-loop-i
loop-again c =
    let k = c in
    let b = turn c.before.before.before.before.before.before.before in
    let a = (start b).args in
    let n = sits c.before.before.before.before.before.before.before in
    let w = c.put_seat-end in
    let put = subst (λ t. Wrote b.loop-i.end t b.loop-i.out w.new.out w.result) (sym (piece_is a.book.now a.place a.lots.now n)) w.ensures in
    (omega arith, n.behind, omega arith, piece_joins (seat_piece (seats_at a.book.now a.place) a.lots.now) b.loop-i.i b.loop-i.invariant.3 put (omega (arith, room (start b))))

same-length-2 : tie.Need-shape_of-out invariant-loop-i decreases-loop-i
same-length-2 c = search rules

returns-2 : tie.Need-returns invariant-loop-i decreases-loop-i
returns-2 c = let b = c in all c.before (full _ _ b.loop-i.invariant.1 (omega arith))

pub put_each_spec : {M : Type 1} → statement M
put_each_spec =
    tie.close
    (tie.spec
    invariant-loop-i
    decreases-loop-i
    loop-holds
    next-seat-requires
    enum-known-seat
    enum_told
    same_length
    returns
    sub-put-seat
    part-put-seat-start
    part-put-seat-end
    mul-put-seat
    element-copy-out-put-seat
    put-seat-requires
    add-i
    loop-less
    loop-again
    same-length-2
    returns-2)
