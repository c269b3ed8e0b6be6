-- Either way the bytes are those that the way names; in a report the seats' fields follow the customer's own.
-- Assumes nothing.
use Prim.Native.Nat.{◌+◌, ◌-◌, ◌≤◌}
use mathlib.Core.Path.{◌≡◌, sym, ap, subst}
use mathlib.Core.Bool.{Bool, false}
use native.Mathlib.Omega.{arith}
use lib.ListN.{length, take, drop, length-append}
use Rattle.writing.specs.Written.{Room, Wrote, join}
use Rattle.seats.specs.Dealt.{seats_at}
use Rattle.entries.specs.Entries.{own_bytes}
use Rattle.report.specs.Sheet.{line_from, line_bytes, seats_bytes}
use Rattle.report.proofs.Lines.{code_length_lem, due_is, printed_line, reported_line}
use borrow.Author.Rules.{rules}
use Rattle.report.proofs.put_line.Statement.{statement}
use Rattle.report.proofs.put_line.Tie as tie

abbrev from : tie.After-size_at → tie.Start
from z = z.before.before.before

-- in a report both parts fit
both : (z : tie.After-size_at) → (from z).args.listed ≡ false → let a = (from z).args in
    a.at + (length (own_bytes (take (a.start + z.size_at.result - a.start) (drop a.start a.book.now)) a.standing a.offset)
    + length (seats_bytes a.standing a.long a.offset (seats_at a.book.now (a.start + z.size_at.result)))) ≤ length a.out.now
both z e =
    let a = (from z).args in
    let room = subst (λ (b : Bool). Room a.at (line_bytes b (line_from a.book.now a.start a.standing a.offset)) a.out.now) e (from z).requires.1 in
    omega (
      arith,
      room,
      ap length (reported_line (from z).requires.0 z.size_at.ensures),
      length-append (own_bytes (take (a.start + z.size_at.result - a.start) (drop a.start a.book.now)) a.standing a.offset) (seats_bytes a.standing a.long a.offset (seats_at a.book.now (a.start + z.size_at.result))),
    )

size-at-requires : tie.Need-size_at-requires
size-at-requires c κs = search rules

add-end : tie.Need-overflow_add-end
add-end c = search rules

sub-put-printed : tie.Need-slice_bounds-put_printed-count
sub-put-printed c = search rules

part-put-printed-start : tie.Need-slice_bounds-put_printed-start
part-put-printed-start c = search rules

part-put-printed-end : tie.Need-slice_bounds-put_printed-end
part-put-printed-end c = search rules

put-printed-requires : tie.Need-put_printed-requires
put-printed-requires c κs =
    let z = c in
    let s = z in
    subst (λ t. Room s.args.at t s.args.out.now) (printed_line s.requires.0 z.size_at.ensures) (rw c.if-listed.true at s.requires.1)

same_length : tie.Need-shape_of-out-then-listed
same_length c = search rules

returns : tie.Need-returns-then-listed
returns c =
    let w = c in
    let z = w in
    let s = z in
    rw w.if-listed.true
    (subst (λ t. Wrote s.args.at t s.args.out.now w.put_printed.new.out w.put_printed.result) (sym (printed_line s.requires.0 z.size_at.ensures)) w.put_printed.ensures)

sub-put-reported : tie.Need-slice_bounds-put_reported-count
sub-put-reported c = search rules

part-put-reported-start : tie.Need-slice_bounds-put_reported-start
part-put-reported-start c = search rules

part-put-reported-end : tie.Need-slice_bounds-put_reported-end
part-put-reported-end c = search rules

put-reported-requires : tie.Need-put_reported-behind-requires
put-reported-requires c κs =
    let z = c in
    let room = both c.before.before.before c.if-listed.false in
    (omega (arith, code_length_lem (from c.before.before.before).requires.0 z.size_at.ensures, (from c.before.before.before).requires.0.short, z.size_at.ensures), omega arith)

put-seats-requires : tie.Need-put_seats-requires
put-seats-requires c κs =
    let w = c in
    let z = w in
    let room = both c.before.before.before.before.before.before.before w.if-listed.false in
    (due_is (from c.before.before.before.before.before.before.before).requires.0 z.size_at.ensures, omega (arith, w.put_reported-behind.ensures.next))

same-length-2 : tie.Need-shape_of-out
same-length-2 c = search rules

returns-2 : tie.Need-returns
returns-2 c =
    let v = c in
    let w = v in
    let z = w in
    let a = (from c.before.before.before.before.before.before.before.before.before.before).args in
    let left = w.if-listed.false in
    let room = both c.before.before.before.before.before.before.before.before.before.before left in
    rw left
    (subst (λ t. Wrote a.at t a.out.now v.put_seats.new.out v.put_seats.result) (sym (reported_line (from c.before.before.before.before.before.before.before.before.before.before).requires.0 z.size_at.ensures))
    (join w.put_reported-behind.ensures v.put_seats.ensures (omega arith)))

pub put_line_spec : {M : Type 1} → statement M
put_line_spec =
    tie.close
    (tie.spec
    size-at-requires
    add-end
    sub-put-printed
    part-put-printed-start
    part-put-printed-end
    put-printed-requires
    same_length
    returns
    sub-put-reported
    part-put-reported-start
    part-put-reported-end
    put-reported-requires
    put-seats-requires
    same-length-2
    returns-2)
