-- Behind the head stand the lines before i, and the next line joins them.
-- Assumes nothing.
use Prim.Native.Nat.{ℕ, ◌+◌, ◌-◌, ◌≤◌}
use mathlib.Core.Path.{◌≡◌, refl, sym, ap, subst}
use mathlib.Core.List.{List, map}
use native.Mathlib.Omega.{arith}
use borrow.Author.Rules.{rules}
use lib.ListN.{length, get_or, length-append}
use Rattle.rules.specs.declared.Standing.{Standing}
use Rattle.rules.specs.Report.{joined}
use Rattle.laws.specs.Sums.{up_to}
use Rattle.writing.specs.Written.{Room, Wrote, join, written_nothing}
use Rattle.report.specs.Sheet.{Sheet, sheet, front_bytes, line_bytes, line_from, line_at, sheet_bytes, Seated}
use Rattle.report.proofs.First.{first, first_of, piece_room, piece_joins}
use Rattle.report.proofs.put_sheet.Statement.{statement}
use Rattle.report.proofs.put_sheet.Tie as tie

abbrev invariant-loop-i : tie.invariant-loop-i
invariant-loop-i out₀ book starts standings offset count total residue long listed at₀ i₀ out at i =
    (i ≤ count) × (length out ≡ length out₀) × Wrote at₀ (first (λ j. line_bytes listed (line_at (sheet book starts standings offset count total residue) j)) i) out₀ out at

abbrev decreases-loop-i : tie.decreases-loop-i
decreases-loop-i out₀ book starts standings offset count total residue long listed at₀ i₀ out at i = count - i

abbrev start : tie.At-loop-i invariant-loop-i decreases-loop-i → tie.Start invariant-loop-i decreases-loop-i
start b = b.before.before.before.before.before.before.before.before.before.before

abbrev all : tie.Start invariant-loop-i decreases-loop-i → Sheet
all s = let a = s.args in sheet a.book.now a.starts.now a.standings.now a.offset.now a.count a.total a.residue

-- a customer's bytes
abbrev piece : tie.Start invariant-loop-i decreases-loop-i → ℕ → List ℕ
piece s i = line_bytes s.args.listed (line_at (all s) i)

-- the head and the customers fit
room : (s : tie.Start invariant-loop-i decreases-loop-i) →
    length (front_bytes s.args.listed s.args.total s.args.residue) + length (first (piece s) s.args.count) ≤ length s.args.out.now
unfolding sheet_bytes
room s =
    let head = front_bytes s.args.listed s.args.total s.args.residue in
    let lines = joined (line_bytes s.args.listed) (map (line_at (all s)) (up_to s.args.count)) in
    omega (arith, s.requires.1, length-append head lines, ap length (first_of (line_bytes s.args.listed) (line_at (all s)) s.args.count))

put-front-requires : tie.Need-put_front-at-requires invariant-loop-i decreases-loop-i
put-front-requires c κs = omega (arith, room c.before.before.before.before.before.before)

loop-holds : tie.Need-loop-i-init invariant-loop-i decreases-loop-i
unfolding first
loop-holds c =
    let h = c.put_front-at in
    (search rules, refl, record { whole = sym (written_nothing h.result h.new.out); next = omega arith })

mul-start : tie.Need-offset_bounds-starts-i invariant-loop-i decreases-loop-i
mul-start c = search rules

shared-slice-read-start : tie.Need-bounds-starts-i invariant-loop-i decreases-loop-i
shared-slice-read-start c = search rules

cast-start : tie.Need-overflow_cast-start invariant-loop-i decreases-loop-i
cast-start c = omega (arith, c.shared_slice_known-in-loop-i-1.given c.loop-i.i)

shared-slice-read-standing-of : tie.Need-bounds-standings-i invariant-loop-i decreases-loop-i
shared-slice-read-standing-of c = search rules

standing-of-requires : tie.Need-standing_of-standing-requires invariant-loop-i decreases-loop-i
standing-of-requires c κs = search rules

mul-put-line : tie.Need-offset_bounds-offset-i invariant-loop-i decreases-loop-i
mul-put-line c = search rules

shared-slice-read-put-line : tie.Need-bounds-offset-i invariant-loop-i decreases-loop-i
shared-slice-read-put-line c = search rules

cast-put-line : tie.Need-overflow_cast-offset invariant-loop-i decreases-loop-i
cast-put-line c = omega (arith, c.shared_slice_known-in-loop-i-3-1.given c.loop-i.i)

put-line-requires : tie.Need-put_line-at-requires invariant-loop-i decreases-loop-i
put-line-requires c κs =
    let b = c in
    let s = start c.before.before.before.before.before.before in
    let a = s.args in
    let i = b.loop-i.i in
    let e = sym c.standing_of-standing.ensures in
    let front = b.put_front-at in (
      subst (λ (t : Standing). Seated a.book.now (get_or a.starts.now i 0) t (get_or a.offset.now i 0) a.long) e (s.requires.0.seated i (omega arith)),
      subst (λ (t : Standing). Room b.loop-i.at (line_bytes a.listed (line_from a.book.now (get_or a.starts.now i 0) t (get_or a.offset.now i 0))) b.loop-i.out) e
          (piece_room (piece s) a.count i b.loop-i.invariant.2 (omega (arith, room s, front.ensures.next)) b.loop-i.invariant.1 (omega arith)),
    )

add-i : tie.Need-overflow_add-i invariant-loop-i decreases-loop-i
add-i c = search rules

loop-less : tie.Need-loop-i-smaller invariant-loop-i decreases-loop-i
loop-less c = search rules

-- one line more is at most all
next : (d : tie.In-loop-i invariant-loop-i decreases-loop-i) → d.loop-i.i + 1 ≤ (start d.before).args.count
next d = search rules

loop-again : tie.Need-loop-i-preserved invariant-loop-i decreases-loop-i
loop-again c =
    let b = c in
    let s = start c.before.before.before.before.before.before.before.before.before in
    let a = s.args in
    let i = b.loop-i.i in
    let w = c.put_line-at in
    let put = subst (λ (t : Standing). Wrote b.loop-i.at (line_bytes a.listed (line_from a.book.now (get_or a.starts.now i 0) t (get_or a.offset.now i 0))) b.loop-i.out w.new.out w.result) c.standing_of-standing.ensures w.ensures in
    (next c.before.before.before.before.before.before.before.before, omega arith, piece_joins (piece s) i b.loop-i.invariant.2 put (omega (arith, room s, b.put_front-at.ensures.next)))

same_length : tie.Need-shape_of-out invariant-loop-i decreases-loop-i
same_length c = search rules

returns : tie.Need-returns invariant-loop-i decreases-loop-i
unfolding sheet_bytes
returns c =
    let b = c in
    let h = b in
    let s = start c.before in
    let a = s.args in
    let e : b.loop-i.i ≡ a.count = omega arith in
    let lines = subst (λ t. Wrote h.put_front-at.result t h.put_front-at.new.out b.loop-i.out b.loop-i.at) (sym (first_of (line_bytes a.listed) (line_at (all s)) a.count)) (rw e at b.loop-i.invariant.2) in
    join h.put_front-at.ensures lines (omega arith)

pub put_sheet_spec : {M : Type 1} → statement M
put_sheet_spec =
    tie.close
    (tie.spec
    invariant-loop-i
    decreases-loop-i
    put-front-requires
    loop-holds
    mul-start
    shared-slice-read-start
    cast-start
    shared-slice-read-standing-of
    standing-of-requires
    mul-put-line
    shared-slice-read-put-line
    cast-put-line
    put-line-requires
    add-i
    loop-less
    loop-again
    same_length
    returns)
