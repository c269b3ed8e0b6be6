-- One tier: where nobody is in it, nothing moves; once x is found, the laws of Tier.antt say that the two divisions over the array are those over the lines.
-- Assumes nothing.
mod Named
use mathlib.Core.Path.{◌∙◌}
use native.Mathlib.Omega.{arith}
use borrow.Author.Rules.{rules}
use Rattle.cascade.specs.Columns.{Columns, columns}
use Rattle.cascade.proofs.Tier.{Found}
use Rattle.cascade.proofs.Tier as law
use Rattle.cascade.proofs.Cascade.tier.Statement.{statement}
use Rattle.cascade.proofs.Cascade.tier.Proof.Named.{start, returns}
use Rattle.cascade.proofs.Cascade.tier.Tie as tie

abbrev cols : tie.Start → Columns
cols s = let a = s.args in columns a.keys.now a.standings.now a.stakes.now a.count

abbrev waited : tie.After-lesser-x → tie.After-weigh-pending
waited l = l.before.before

abbrev offers : tie.After-weigh-pending → tie.After-staked-offered
offers w = w.before.before.before.before.before

abbrev began : tie.After-lesser-x → tie.Start
began l = l.before.before.before.before.before.before.before.before.before.before.before

staked-requires : tie.Need-staked-offered-requires
staked-requires c κs = (law.staked c.requires.0).stood

slice-aggregate-weigh : tie.Need-slice_bounds-weigh-end
slice-aggregate-weigh c = search rules

slice-aggregate-weigh-2 : tie.Need-slice_bounds-weigh-end-2
slice-aggregate-weigh-2 c = search rules

weigh-requires : tie.Need-weigh-pending-requires
weigh-requires c κs = let s = start c.before.before.before.before in (law.staked s.requires.0, s.requires.0.few)

lesser-requires : tie.Need-lesser-x-requires
lesser-requires c κs = search rules

found : (l : tie.After-lesser-x) → let s = began l in Found s.args.k (cols s) s.args.self l.lesser-x.result (offers (waited l)).staked-offered.result (waited l).weigh-pending.result
found l =
    let s = began l in
    record {
      steady = s.requires.0;
      first = s.requires.1.0;
      last = s.requires.1.1;
      offers = (offers (waited l)).staked-offered.ensures ∙ law.offers_are s.args.k s.requires.1.0 s.args.standings.now s.args.stakes.now s.args.self.offset s.args.count;
      waits = (waited l).weigh-pending.ensures.sum;
      smaller = l.lesser-x.ensures;
    }

returns-2 : tie.Need-returns-then-x-eq0
returns-2 c = law.rests (found c.before) c.if-x-eq0.true

slice-aggregate-deal : tie.Need-slice_bounds-deal-end
slice-aggregate-deal c = search rules

slice-aggregate-deal-2 : tie.Need-slice_bounds-deal-end-2
slice-aggregate-deal-2 c = search rules

deal-requires : tie.Need-deal-requires
deal-requires c κs =
    let l = c in
    let w = (waited c.before.before.before).weigh-pending.ensures in
    (law.pending_lent (found c.before.before.before) w, law.pending_open (found c.before.before.before) w)

-- the first division is done
abbrev counted : tie.After-deal → tie.After-lesser-x
counted d = d.before.before.before.before

slice-aggregate-weigh-3 : tie.Need-slice_bounds-weigh-end-3
slice-aggregate-weigh-3 c = search rules

slice-aggregate-weigh-4 : tie.Need-slice_bounds-weigh-end-4
slice-aggregate-weigh-4 c = search rules

weigh-requires-2 : tie.Need-weigh-requires
weigh-requires-2 c κs =
    let d = c in
    let l = counted c.before.before.before.before in
    let w = (waited l).weigh-pending.ensures in
    (law.mid_staked (found l) w d.deal.ensures.0, omega (arith, d.deal.ensures.1, law.weighed_room w))

slice-aggregate-deal-3 : tie.Need-slice_bounds-deal-end-3
slice-aggregate-deal-3 c = search rules

slice-aggregate-deal-4 : tie.Need-slice_bounds-deal-end-4
slice-aggregate-deal-4 c = search rules

deal-requires-2 : tie.Need-deal-requires-2
deal-requires-2 c κs =
    let v = c in
    let d = v in
    let l = counted c.before.before.before.before.before.before.before.before in
    let w = (waited l).weigh-pending.ensures in
    (law.offered_lent (found l) w d.deal.ensures.0 v.weigh.ensures, law.offered_open (found l) w d.deal.ensures.0 v.weigh.ensures)

add-t22 : tie.Need-overflow_add-result
add-t22 c = omega (arith, law.total_fits (found (counted c.before.before.before.before.before.before.before.before.before.before.before.before)))

returns-3 : tie.Need-returns
returns-3 c =
    let y = c in
    let v = y in
    let d = v in
    let l = counted c.before.before.before.before.before.before.before.before.before.before.before.before in
    law.worked (found l) (waited l).weigh-pending.ensures d.deal.ensures.0 v.weigh.ensures y.deal-2.ensures.0

pub tier_spec : {M : Type 1} → statement M
tier_spec =
    tie.close
    (tie.spec
    staked-requires
    returns
    slice-aggregate-weigh
    slice-aggregate-weigh-2
    weigh-requires
    lesser-requires
    returns-2
    slice-aggregate-deal
    slice-aggregate-deal-2
    deal-requires
    slice-aggregate-weigh-3
    slice-aggregate-weigh-4
    weigh-requires-2
    slice-aggregate-deal-3
    slice-aggregate-deal-4
    deal-requires-2
    add-t22
    returns-3)
