-- The bytes so far are the head's and those of the lines before i; a head of at most 46 bytes and 256 lines of at most 194 fit.
-- Assumes nothing.
use Prim.Native.Nat.{ℕ, ◌+◌, ◌-◌, ◌*◌, ◌≤◌}
use mathlib.Core.Path.{◌≡◌, sym, ap, subst, ◌∙◌}
use mathlib.Core.List.{◌++◌}
use native.Mathlib.Omega.{arith}
use borrow.Author.Rules.{rules}
use lib.ListN.{length, get_or, length-append}
use Rattle.rules.specs.declared.Standing.{Standing}
use Rattle.rules.specs.Division.{sum_of}
use Rattle.rules.specs.Report.{reported}
use Rattle.laws.specs.Sums.{up_to}
use Rattle.laws.specs.Indices.{sum_more}
use Rattle.laws.specs.Digits.{digits_length_20}
use Rattle.entries.specs.Entries.{report_head, report_head_length}
use Rattle.report.specs.Sheet.{Sheet, sheet, line_from, line_at, sheet_bytes, report_bytes, Seated}
use Rattle.report.proofs.First.{first, first_length, first_of}
use Rattle.report.proofs.report_length.Statement.{statement}
use Rattle.report.proofs.report_length.Tie as tie

-- the bytes of a line
abbrev lengthIn : Sheet → ℕ → ℕ
lengthIn s i = length (reported (line_at s i))

whole_length : (s : Sheet) → length (report_bytes s) ≡ length (report_head s.total s.residue) + sum_of (lengthIn s) (up_to s.count)
unfolding sheet_bytes
whole_length s =
    ap (λ t. length (report_head s.total s.residue ++ t)) (first_of reported (line_at s) s.count)
    ∙ length-append (report_head s.total s.residue) (first (λ i. reported (line_at s i)) s.count)
    ∙ ap (λ n. length (report_head s.total s.residue) + n) (first_length (λ i. reported (line_at s i)) s.count)

abbrev invariant-loop-i : tie.invariant-loop-i
invariant-loop-i book starts standings offset count total residue long n₀ i₀ n i =
    (i ≤ count) × (n ≤ 46 + 194 * i) × (n ≡ n₀ + sum_of (lengthIn (sheet book starts standings offset count total residue)) (up_to i))

abbrev decreases-loop-i : tie.decreases-loop-i
decreases-loop-i book starts standings offset count total residue long n₀ i₀ n i = count - i

abbrev start : tie.At-loop-i invariant-loop-i decreases-loop-i → tie.Start invariant-loop-i decreases-loop-i
start b = b.before.before.before.before.before.before

abbrev all : tie.Start invariant-loop-i decreases-loop-i → Sheet
all s = let a = s.args in sheet a.book.now a.starts.now a.standings.now a.offset.now a.count a.total a.residue

head-length-requires : tie.Need-head_length-n-requires invariant-loop-i decreases-loop-i
head-length-requires c κs = search rules

loop-holds : tie.Need-loop-i-init invariant-loop-i decreases-loop-i
loop-holds c =
    let a = c.args in
    let total = digits_length_20 a.total (search rules) in
    let residue = digits_length_20 a.residue (search rules) in
    (search rules, omega (arith, total, residue, report_head_length a.total a.residue, c.head_length-n.ensures), omega arith)

shared-slice-read-standing-of : tie.Need-bounds-standings-i invariant-loop-i decreases-loop-i
shared-slice-read-standing-of c = search rules

standing-of-requires : tie.Need-standing_of-standing-requires invariant-loop-i decreases-loop-i
standing-of-requires c κs = search rules

mul-line-length : tie.Need-offset_bounds-starts-i invariant-loop-i decreases-loop-i
mul-line-length c = search rules

shared-slice-read-line-length : tie.Need-bounds-starts-i invariant-loop-i decreases-loop-i
shared-slice-read-line-length c = search rules

cast-line-length : tie.Need-overflow_cast-starts invariant-loop-i decreases-loop-i
cast-line-length c = omega (arith, c.shared_slice_known-in-loop-i-2-1.given c.loop-i.i)

mul-line-length-2 : tie.Need-offset_bounds-offset-i invariant-loop-i decreases-loop-i
mul-line-length-2 c = search rules

shared-slice-read-line-length-2 : tie.Need-bounds-offset-i invariant-loop-i decreases-loop-i
shared-slice-read-line-length-2 c = search rules

cast-line-length-2 : tie.Need-overflow_cast-offset invariant-loop-i decreases-loop-i
cast-line-length-2 c = omega (arith, c.shared_slice_known-in-loop-i-3-1.given c.loop-i.i)

line-length-requires : tie.Need-line_length-n-requires invariant-loop-i decreases-loop-i
line-length-requires c κs =
    let b = c in
    let s = start c.before.before.before.before.before in
    let i = b.loop-i.i in
    subst (λ (t : Standing). Seated s.args.book.now (get_or s.args.starts.now i 0) t (get_or s.args.offset.now i 0) s.args.long) (sym c.standing_of-standing.ensures) (s.requires.seated i (omega arith))

add-n : tie.Need-overflow_add-n invariant-loop-i decreases-loop-i
add-n c = let b = c in omega (arith, (start c.before.before.before.before.before.before).requires.few, c.line_length-n.ensures.1, b.loop-i.invariant.1)

add-i : tie.Need-overflow_add-i invariant-loop-i decreases-loop-i
add-i c = search rules

loop-less : tie.Need-loop-i-smaller invariant-loop-i decreases-loop-i
loop-less c = search rules

loop-again : tie.Need-loop-i-preserved invariant-loop-i decreases-loop-i
loop-again c =
    let b = c in
    let s = start c.before.before.before.before.before.before in
    let i = b.loop-i.i in
    let z = c.line_length-n.ensures in
    let e = z.0 ∙ ap (λ (t : Standing). length (reported (line_from s.args.book.now (get_or s.args.starts.now i 0) t (get_or s.args.offset.now i 0)))) c.standing_of-standing.ensures in
    (search rules, omega (arith, z.1, b.loop-i.invariant.1), rw sum_more (omega (arith, e, b.loop-i.invariant.2)))

returns : tie.Need-returns invariant-loop-i decreases-loop-i
returns c =
    let b = c in
    let s = start c.before in
    let e : b.loop-i.i ≡ s.args.count = omega arith in
    let sum = rw e at b.loop-i.invariant.2 in
    omega (arith, sum, b.head_length-n.ensures, whole_length (all s))

pub report_length_spec : {M : Type 1} → statement M
report_length_spec =
    tie.close
    (tie.spec
    invariant-loop-i
    decreases-loop-i
    head-length-requires
    loop-holds
    shared-slice-read-standing-of
    standing-of-requires
    mul-line-length
    shared-slice-read-line-length
    cast-line-length
    mul-line-length-2
    shared-slice-read-line-length-2
    cast-line-length-2
    line-length-requires
    add-n
    add-i
    loop-less
    loop-again
    returns)
