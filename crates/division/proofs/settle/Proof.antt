-- The lots stand in the array up to i, behind it still the parts.
-- Assumes nothing.
use Prim.Native.Nat.{ℕ, ◌-◌, ◌≤◌}
use mathlib.Core.Path.{◌≡◌, refl, ap, ◌∙◌}
use mathlib.Core.List.{List}
use native.Mathlib.Omega.{arith}
use lib.ListN.{length, length-set}
use Rattle.laws.specs.Filled.{filled_more, filled_next}
use Rattle.division.specs.Shares.{at}
use Rattle.division.specs.Parts.{lots_at, Settled}
use borrow.Author.Rules.{rules}
use Rattle.division.proofs.settle.Statement.{statement}
use Rattle.division.proofs.settle.Tie as tie

abbrev invariant-loop-i : tie.invariant-loop-i
invariant-loop-i lots₀ keys count edge most i₀ lots i = (i ≤ count) × (length lots ≡ length lots₀) × Settled lots₀ keys lots i edge most

abbrev decreases-loop-i : tie.decreases-loop-i
decreases-loop-i lots₀ keys count edge most i₀ lots i = count - i

-- what is read is still the part
still : {parts keys lots : List ℕ} {i lack key : ℕ} → Settled parts keys lots i lack key → at lots i ≡ at parts i
still {parts} {keys} {i = i} {lack} {key} s = ap (λ l. at l i) s.lots ∙ filled_next (lots_at parts keys lack key) i parts 0

loop-holds : tie.Need-loop-i-init invariant-loop-i decreases-loop-i
loop-holds c = (search rules, refl, record { lots = refl })

mul-part : tie.Need-offset_bounds-lots-i invariant-loop-i decreases-loop-i
mul-part c = search rules

slice-read-part : tie.Need-bounds-lots-i invariant-loop-i decreases-loop-i
slice-read-part c = search rules

mul-one-more : tie.Need-offset_bounds-keys-i invariant-loop-i decreases-loop-i
mul-one-more c = search rules

shared-slice-read-one-more : tie.Need-bounds-keys-i invariant-loop-i decreases-loop-i
shared-slice-read-one-more c = search rules

one-more-requires : tie.Need-one_more-requires invariant-loop-i decreases-loop-i
one-more-requires c κs = search rules

add-lots : tie.Need-overflow_add-lots invariant-loop-i decreases-loop-i
add-lots c =
    let l = c.loop-i in
    let s = c in
    omega (arith, c.one_more.ensures.1, still l.invariant.2, s.requires.1 l.i (omega arith))

mul-lots : tie.Need-offset_bounds-lots-i-in-loop-i invariant-loop-i decreases-loop-i
mul-lots c = search rules

slice-write-lots : tie.Need-bounds-lots-i-in-loop-i invariant-loop-i decreases-loop-i
slice-write-lots c = search rules

add-i : tie.Need-overflow_add-i invariant-loop-i decreases-loop-i
add-i c = search rules

loop-less : tie.Need-loop-i-smaller invariant-loop-i decreases-loop-i
loop-less c = search rules

loop-again : tie.Need-loop-i-preserved invariant-loop-i decreases-loop-i
loop-again c =
    let l = c.loop-i in
    let s = c in
    let a = s.args in
    let lots = lots_at a.lots.now a.keys.now a.last.lack a.last.key in
    (search rules, simp length-set l.invariant.1, record { lots = rw (c.one_more.ensures.0, still l.invariant.2, l.invariant.2.lots) (filled_more lots l.i a.lots.now 0 (omega arith)) })

same_length : tie.Need-shape_of-lots invariant-loop-i decreases-loop-i
same_length c = omega arith

returns : tie.Need-returns invariant-loop-i decreases-loop-i
returns c = let e : c.loop-i.i ≡ c.args.count = omega arith in rw e at c.loop-i.invariant.2

pub settle_spec : {M : Type 1} → statement M
settle_spec =
    tie.close
    (tie.spec
    invariant-loop-i
    decreases-loop-i
    loop-holds
    mul-part
    slice-read-part
    mul-one-more
    shared-slice-read-one-more
    one-more-requires
    add-lots
    mul-lots
    slice-write-lots
    add-i
    loop-less
    loop-again
    same_length
    returns)
