-- The first i places of each run are the customers', and behind them each is as it was.
-- Assumes nothing.
use Prim.Native.Nat.{◌-◌, ◌≤◌}
use mathlib.Core.Path.{◌≡◌, refl, ap, ◌∙◌}
use native.Mathlib.Omega.{arith}
use borrow.Author.Rules.{rules}
use Rattle.rules.specs.Report.{letter}
use Rattle.laws.specs.Filled.{Done, done_none, done_more, done_all}
use Rattle.division.specs.Shares.{at}
use Rattle.cascade.specs.Columns.{offered_as, pending_as}
use Rattle.columns.specs.View.{runs}
use Rattle.columns.specs.Shown.{letter_at_of, offered_at, pending_at}
use Rattle.columns.proofs.put_runs.Statement.{statement}
use Rattle.columns.proofs.put_runs.Tie as tie

abbrev invariant-loop-i : tie.invariant-loop-i
invariant-loop-i bytes stakes offset count standings₀ offered₀ pending₀ offsets₀ i₀ standings offered pending offsets i =
    (i ≤ count)
    × (Done (letter_at_of bytes stakes offset) i standings₀ standings)
    × (Done (offered_at bytes stakes offset) i offered₀ offered)
    × (Done (pending_at bytes stakes offset) i pending₀ pending)
    × (Done (at offset) i offsets₀ offsets)

abbrev decreases-loop-i : tie.decreases-loop-i
decreases-loop-i bytes stakes offset count standings₀ offered₀ pending₀ offsets₀ i₀ standings offered pending offsets i = count - i

abbrev start : tie.At-loop-i invariant-loop-i decreases-loop-i → tie.Start invariant-loop-i decreases-loop-i
start b = b.before.before.before.before.before.before.before.before

-- a turn, up to what the customer has offset
abbrev turn : tie.After-shared_slice_known-in-loop-i-3-1 invariant-loop-i decreases-loop-i → tie.At-loop-i invariant-loop-i decreases-loop-i
turn c = c.before.before.before.before.before.before.before.before

loop-holds : tie.Need-loop-i-init invariant-loop-i decreases-loop-i
loop-holds c = (search rules, done_none _, done_none _, done_none _, done_none _)

shared-slice-read-standing-of : tie.Need-bounds-bytes-i invariant-loop-i decreases-loop-i
shared-slice-read-standing-of c = search rules

standing-of-requires : tie.Need-standing_of-standing-requires invariant-loop-i decreases-loop-i
standing-of-requires c κs = search rules

mul-stake : tie.Need-offset_bounds-stakes-i invariant-loop-i decreases-loop-i
mul-stake c = search rules

shared-slice-read-stake : tie.Need-bounds-stakes-i invariant-loop-i decreases-loop-i
shared-slice-read-stake c = search rules

letter-of-requires : tie.Need-letter_of-requires invariant-loop-i decreases-loop-i
letter-of-requires c κs = search rules

slice-write-standings : tie.Need-bounds-standings-i invariant-loop-i decreases-loop-i
slice-write-standings c = search rules

offered-of-requires : tie.Need-offered_of-requires invariant-loop-i decreases-loop-i
offered-of-requires c κs = search rules

mul-offered : tie.Need-offset_bounds-offered-i invariant-loop-i decreases-loop-i
mul-offered c = search rules

slice-write-offered : tie.Need-bounds-offered-i invariant-loop-i decreases-loop-i
slice-write-offered c = search rules

pending-of-requires : tie.Need-pending_of-requires invariant-loop-i decreases-loop-i
pending-of-requires c κs = search rules

mul-pending : tie.Need-offset_bounds-pending-i invariant-loop-i decreases-loop-i
mul-pending c = search rules

slice-write-pending : tie.Need-bounds-pending-i invariant-loop-i decreases-loop-i
slice-write-pending c = search rules

mul-offsets : tie.Need-offset_bounds-offset-i invariant-loop-i decreases-loop-i
mul-offsets c = search rules

shared-slice-read-offsets : tie.Need-bounds-offset-i invariant-loop-i decreases-loop-i
shared-slice-read-offsets c = search rules

cast-offsets : tie.Need-overflow_cast-offsets invariant-loop-i decreases-loop-i
cast-offsets c = omega (arith, c.shared_slice_known-in-loop-i-3-1.given (turn c).loop-i.i)

mul-offsets-2 : tie.Need-offset_bounds-offsets-i invariant-loop-i decreases-loop-i
mul-offsets-2 c = search rules

slice-write-offsets : tie.Need-bounds-offsets-i invariant-loop-i decreases-loop-i
slice-write-offsets c = search rules

add-i : tie.Need-overflow_add-i invariant-loop-i decreases-loop-i
add-i c = search rules

loop-less : tie.Need-loop-i-smaller invariant-loop-i decreases-loop-i
loop-less c = search rules

loop-again : tie.Need-loop-i-preserved invariant-loop-i decreases-loop-i
loop-again c =
    let b = turn c in
    let s = start b in
    let v = b.loop-i.invariant in
    let stood = c.standing_of-standing.ensures in
    let stake = at s.args.stakes.now b.loop-i.i in (
      search rules,
      done_more v.1 (omega (arith, s.requires.1.standings)) (c.letter_of.ensures ∙ ap letter stood),
      done_more v.2 (omega (arith, s.requires.1.offered)) (c.offered_of.ensures ∙ ap (λ t. offered_as t stake) stood),
      done_more v.3 (omega (arith, s.requires.1.pending)) (c.pending_of.ensures ∙ ap (λ t. pending_as t stake) stood),
      done_more v.4 (omega (arith, s.requires.1.offsets)) refl,
    )

same_length : tie.Need-shape_of-standings invariant-loop-i decreases-loop-i
same_length c = search rules

same-length-2 : tie.Need-shape_of-offered invariant-loop-i decreases-loop-i
same-length-2 c = search rules

same-length-3 : tie.Need-shape_of-pending invariant-loop-i decreases-loop-i
same-length-3 c = search rules

same-length-4 : tie.Need-shape_of-offsets invariant-loop-i decreases-loop-i
same-length-4 c = search rules

returns : tie.Need-returns invariant-loop-i decreases-loop-i
returns c =
    let b = c in
    let e : b.loop-i.i ≡ (start c.before).args.count = omega arith in
    let v = b.loop-i.invariant in
    λ j. runs (done_all v.1 e j) (done_all v.2 e j) (done_all v.3 e j) (done_all v.4 e j)

pub put_runs_spec : {M : Type 1} → statement M
put_runs_spec =
    tie.close
    (tie.spec
    invariant-loop-i
    decreases-loop-i
    loop-holds
    shared-slice-read-standing-of
    standing-of-requires
    mul-stake
    shared-slice-read-stake
    letter-of-requires
    slice-write-standings
    offered-of-requires
    mul-offered
    slice-write-offered
    pending-of-requires
    mul-pending
    slice-write-pending
    mul-offsets
    shared-slice-read-offsets
    cast-offsets
    mul-offsets-2
    slice-write-offsets
    add-i
    loop-less
    loop-again
    same_length
    same-length-2
    same-length-3
    same-length-4
    returns)
