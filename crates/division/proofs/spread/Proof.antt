-- The parts stand in the array up to i, behind it still the weights, and the whole lots are summed up to i.
-- Assumes nothing.
use Prim.Native.Nat.{ℕ, ◌+◌, ◌-◌, ◌*◌, ◌/◌, ◌%◌, ◌≤◌}
use mathlib.Core.Path.{◌≡◌, refl, ap, ◌∙◌}
use mathlib.Core.List.{List}
use native.Mathlib.Omega.{arith}
use lib.ListN.{length, length-set}
use Rattle.laws.specs.Indices.{sum_more}
use Rattle.laws.specs.Filled.{filled_more, filled_next}
use Rattle.division.proofs.Bounds.{sum_le, product_le, whole_le, wholes_le, whole_in}
use Rattle.division.specs.Shares.{at}
use Rattle.division.specs.Parts.{base, whole_in_of, part_at, Spread}
use borrow.Author.Rules.{rules}
use Rattle.division.proofs.spread.Statement.{statement}
use Rattle.division.proofs.spread.Tie as tie

abbrev invariant-loop-i : tie.invariant-loop-i
invariant-loop-i lots₀ count x sum whole₀ i₀ lots whole i = (i ≤ count) × (length lots ≡ length lots₀) × Spread lots₀ lots i x sum whole

abbrev decreases-loop-i : tie.decreases-loop-i
decreases-loop-i lots₀ count x sum whole₀ i₀ lots whole i = count - i

-- what is read is still the weight
still : {weights lots : List ℕ} {i x sum whole : ℕ} → Spread weights lots i x sum whole → at lots i ≡ at weights i
still {weights} {i = i} {x} {sum} s = ap (λ l. at l i) s.parts ∙ filled_next (part_at weights x sum) i weights 0

-- and what it comes to is the member's part
part : (c : tie.After-part_of-part invariant-loop-i decreases-loop-i) →
    let s = c in
    c.part_of-part.result ≡ part_at s.args.lots.now s.args.x s.args.sum c.loop-i.i
part c =
    let s = c in
    c.part_of-part.ensures ∙ ap (λ w. s.args.x * w / s.args.sum * base + (s.args.sum - s.args.x * w % s.args.sum)) (still c.loop-i.invariant.2)

loop-holds : tie.Need-loop-i-init invariant-loop-i decreases-loop-i
loop-holds c = (search rules, refl, record { whole = refl; parts = refl })

mul-part-of : tie.Need-offset_bounds-lots-i invariant-loop-i decreases-loop-i
mul-part-of c = search rules

slice-read-part-of : tie.Need-bounds-lots-i invariant-loop-i decreases-loop-i
slice-read-part-of c = search rules

mul-part-of-2 : tie.Need-overflow_mul-x invariant-loop-i decreases-loop-i
mul-part-of-2 c =
    let l = c.loop-i in
    let s = c in
    omega (arith, product_le s.requires l.i (omega arith), ap (λ w. s.args.x * w) (still l.invariant.2))

part-of-requires : tie.Need-part_of-part-requires invariant-loop-i decreases-loop-i
part-of-requires c κs =
    let l = c.loop-i in
    let s = c in
    let whole : s.args.x * at l.lots l.i / s.args.sum ≤ 4_000_000 = rw (still l.invariant.2) (whole_le s.requires l.i (omega arith)) in
    (omega (arith, s.requires.less), (omega (arith, sum_le s.requires), whole))

mul-lots : tie.Need-offset_bounds-lots-i-in-loop-i invariant-loop-i decreases-loop-i
mul-lots c = search rules

slice-write-lots : tie.Need-bounds-lots-i-in-loop-i invariant-loop-i decreases-loop-i
slice-write-lots c = search rules

add-whole : tie.Need-overflow_add-whole invariant-loop-i decreases-loop-i
add-whole c =
    let s = c in
    let l = c.loop-i in
    omega (arith, part c, l.invariant.2.whole, wholes_le s.requires l.i (omega arith), whole_le s.requires l.i (omega arith), whole_in s.requires l.i, s.requires.bounded.few)

add-i : tie.Need-overflow_add-i invariant-loop-i decreases-loop-i
add-i c = search rules

loop-less : tie.Need-loop-i-smaller invariant-loop-i decreases-loop-i
loop-less c = search rules

loop-again : tie.Need-loop-i-preserved invariant-loop-i decreases-loop-i
loop-again c =
    let s = c in
    let l = c.loop-i in (
      search rules,
      simp length-set l.invariant.1,
      record {
        whole = rw sum_more (omega (arith, l.invariant.2.whole, ap whole_in_of (part c) ∙ whole_in s.requires l.i));
        parts = rw (part c, l.invariant.2.parts) (filled_more (part_at s.args.lots.now s.args.x s.args.sum) l.i s.args.lots.now 0 (omega (arith, s.requires.bounded.within)));
      },
    )

same_length : tie.Need-shape_of-lots invariant-loop-i decreases-loop-i
same_length c = omega arith

returns : tie.Need-returns invariant-loop-i decreases-loop-i
returns c = let e : c.loop-i.i ≡ c.args.count = omega arith in rw e at c.loop-i.invariant.2

pub spread_spec : {M : Type 1} → statement M
spread_spec =
    tie.close
    (tie.spec
    invariant-loop-i
    decreases-loop-i
    loop-holds
    mul-part-of
    slice-read-part-of
    mul-part-of-2
    part-of-requires
    mul-lots
    slice-write-lots
    add-whole
    add-i
    loop-less
    loop-again
    same_length
    returns)
