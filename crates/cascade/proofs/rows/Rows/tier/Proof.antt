-- One tier over rows: their columns, with the keys that were taken out, are worked as the columns of a tier are.
-- Assumes nothing.
use mathlib.Core.Path.{◌≡◌, refl, ◌∙◌}
use mathlib.Core.List.{List, map}
use native.Mathlib.Omega.{arith}
use borrow.Author.Rules.{rules}
use Rattle.cascade.specs.declared.rows.Row.{Row}
use Rattle.cascade.specs.Columns.{Columns, columns}
use Rattle.cascade.specs.State.{after_tier, Steady}
use Rattle.cascade.specs.Rows.{standing_in, stake_in, columns_of, state_of}
use Rattle.cascade.proofs.InRows.{own_keys, closed_staked, closed_lent, closed_open, given_columns, given_state}
use Rattle.cascade.proofs.Tier.{Found}
use Rattle.cascade.proofs.Tier as law
use Rattle.cascade.proofs.rows.Rows.tier.Statement.{statement}
use Rattle.cascade.proofs.rows.Rows.tier.Tie as tie

abbrev begin : tie.After-take_keys → tie.Start
begin t = t.before.before.before

-- the columns of the rows, with the keys that were taken out
abbrev cols : tie.After-take_keys → Columns
cols t = let a = (begin t).args in columns t.take_keys.new.keys (map standing_in a.self.rows) (map stake_in a.self.rows) a.count

steady : (t : tie.After-take_keys) → Steady 4_000_000_000 (cols t) (state_of (begin t).args.self)
steady t =
    let s = (begin t).requires.0 in
    record {
      few = s.few;
      keyed = omega (arith, s.few);
      stood = s.stood;
      staked = s.staked;
      wide = s.wide;
      each = s.each;
      offset = s.offset;
      total = s.total;
    }

-- the same tier as with the rows' own keys
own : (t : tie.After-take_keys) → let a = (begin t).args in after_tier a.k (cols t) (state_of a.self) ≡ after_tier a.k (columns_of a.self.rows a.count) (state_of a.self)
own t = let a = (begin t).args in own_keys a.k a.count a.self.total a.self.rows t.take_keys.new.keys _ t.take_keys.ensures

abbrev waited : tie.After-lesser-x → tie.After-weigh-pending
waited l = l.before.before

abbrev offers : tie.After-lesser-x → tie.After-weigh-offered
offers l = l.before.before.before.before.before

abbrev keyed : tie.After-lesser-x → tie.After-take_keys
keyed l = l.before.before.before.before.before.before.before.before

abbrev rows_of : tie.After-lesser-x → List Row
rows_of l = (begin (keyed l)).args.self.rows

slice-aggregate-take-keys : tie.Need-slice_bounds-take_keys-end
slice-aggregate-take-keys c = search rules

take-keys-requires : tie.Need-take_keys-requires
take-keys-requires c κs = let s = c in (s.requires.0.few, omega (arith, s.requires.0.few))

slice-aggregate-weigh : tie.Need-slice_bounds-weigh-end
slice-aggregate-weigh c = search rules

weigh-requires : tie.Need-weigh-offered-requires
weigh-requires c κs = let s = begin c.before.before in (law.staked s.requires.0, s.requires.0.few)

slice-aggregate-weigh-2 : tie.Need-slice_bounds-weigh-end-2
slice-aggregate-weigh-2 c = search rules

weigh-requires-2 : tie.Need-weigh-pending-requires
weigh-requires-2 c κs = let w = c in (law.staked (begin c.before.before.before.before.before).requires.0, law.weighed_room w.weigh-offered.ensures)

lesser-requires : tie.Need-lesser-x-requires
lesser-requires c κs = search rules

found : (l : tie.After-lesser-x) → let t = keyed l in Found (begin t).args.k (cols t) (state_of (begin t).args.self) l.lesser-x.result (offers l).weigh-offered.result (waited l).weigh-pending.result
found l =
    let t = keyed l in
    record {
      steady = steady t;
      first = (begin t).requires.1.0;
      last = (begin t).requires.1.1;
      offers = (offers l).weigh-offered.ensures.sum;
      waits = (waited l).weigh-pending.ensures.sum;
      smaller = l.lesser-x.ensures;
    }

returns : tie.Need-returns-then-x-eq0
returns c = (refl, law.rests (found c.before) c.if-x-eq0.true ∙ own (keyed c.before))

slice-aggregate-deal : tie.Need-slice_bounds-deal-end
slice-aggregate-deal c = search rules

slice-aggregate-deal-2 : tie.Need-slice_bounds-deal-end-2
slice-aggregate-deal-2 c = search rules

deal-requires : tie.Need-deal-closed-requires
deal-requires c κs =
    let l = c in
    let w = (waited c.before.before.before).weigh-pending.ensures in
    (law.pending_lent (found c.before.before.before) w, law.pending_open (found c.before.before.before) w)

-- the first division is done
abbrev counted : tie.After-deal-closed → tie.After-lesser-x
counted d = d.before.before.before.before

slice-aggregate-weigh-3 : tie.Need-slice_bounds-weigh-end-3
slice-aggregate-weigh-3 c = search rules

weigh-requires-3 : tie.Need-weigh-requires
weigh-requires-3 c κs =
    let d = c in
    let l = counted c.before.before in
    let w = (waited l).weigh-pending.ensures in
    (closed_staked _ _ _ (rows_of l) _ (found l) w d.deal-closed.ensures.0, omega (arith, d.deal-closed.ensures.1, law.weighed_room w))

slice-aggregate-deal-3 : tie.Need-slice_bounds-deal-end-3
slice-aggregate-deal-3 c = search rules

slice-aggregate-deal-4 : tie.Need-slice_bounds-deal-end-4
slice-aggregate-deal-4 c = search rules

deal-requires-2 : tie.Need-deal-given-requires
deal-requires-2 c κs =
    let v = c in
    let d = v in
    let l = counted c.before.before.before.before.before.before in
    let w = (waited l).weigh-pending.ensures in
    (closed_lent _ _ _ (rows_of l) _ (found l) w d.deal-closed.ensures.0 v.weigh.ensures, closed_open _ _ _ (rows_of l) _ (found l) w d.deal-closed.ensures.0 v.weigh.ensures)

add-t24 : tie.Need-overflow_add-result
add-t24 c =
    let y = c in
    let d = y in
    omega (arith, law.total_fits (found (counted c.before.before.before.before.before.before.before.before.before)))

returns-2 : tie.Need-returns
returns-2 c =
    let y = c in
    let v = y in
    let d = v in
    let l = counted c.before.before.before.before.before.before.before.before.before in
    let w = (waited l).weigh-pending.ensures in (
      given_columns _ _ _ (rows_of l) _ (found l) w d.deal-closed.ensures.0 v.weigh.ensures y.deal-given.ensures.0,
      given_state _ _ _ (rows_of l) _ (found l) w d.deal-closed.ensures.0 v.weigh.ensures y.deal-given.ensures.0 ∙ own (keyed l),
    )

pub tier_spec : {M : Type 1} → statement M
tier_spec =
    tie.close
    (tie.spec
    slice-aggregate-take-keys
    take-keys-requires
    slice-aggregate-weigh
    weigh-requires
    slice-aggregate-weigh-2
    weigh-requires-2
    lesser-requires
    returns
    slice-aggregate-deal
    slice-aggregate-deal-2
    deal-requires
    slice-aggregate-weigh-3
    weigh-requires-3
    slice-aggregate-deal-3
    slice-aggregate-deal-4
    deal-requires-2
    add-t24
    returns-2)
