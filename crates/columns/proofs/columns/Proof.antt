-- The roll, and the cascade over its columns, are the view.
-- Assumes nothing.
mod Named
use native.Mathlib.Omega.{arith}
use Rattle.roll.specs.Roll.{Room}
use Rattle.allotment.specs.Rolls.{steady, shows}
use Rattle.columns.proofs.Views.{Goes, goes}
use borrow.Author.Rules.{rules}
use Rattle.columns.proofs.columns.Statement.{statement}
use Rattle.columns.proofs.columns.Proof.Named.{rolled, begin, accepted, left, same, returns}
use Rattle.columns.proofs.columns.Tie as tie

wide : (r : tie.After-read_roll-roll) → let l = r.read_roll-roll.new in Room l.keys l.starts l.standings l.stakes
wide r = search rules

gone : (d : tie.After-close-closed) → let r = rolled (left d).before in let l = r.read_roll-roll.new in
    Goes (begin r).args.book.now l.standings l.stakes r.read_roll-roll.result.count d.close-closed.result
gone d = let r = rolled (left d).before in let l = r.read_roll-roll.new in let a = accepted (left d) in
    goes a.accepted (shows (begin r).args.book.now l.keys l.starts l.standings l.stakes r.read_roll-roll.result r.read_roll-roll.ensures.rolled a (wide r) d.close-closed.result d.close-closed.ensures)

slice-aggregate-read-roll : tie.Need-slice_bounds-read_roll-end
slice-aggregate-read-roll c = search rules

slice-aggregate-read-roll-2 : tie.Need-slice_bounds-read_roll-end-2
slice-aggregate-read-roll-2 c = search rules

slice-aggregate-read-roll-3 : tie.Need-slice_bounds-read_roll-end-3
slice-aggregate-read-roll-3 c = search rules

slice-aggregate-read-roll-4 : tie.Need-slice_bounds-read_roll-end-4
slice-aggregate-read-roll-4 c = search rules

read-roll-requires : tie.Need-read_roll-roll-requires
read-roll-requires c κs = search rules

slice-aggregate-close : tie.Need-slice_bounds-close-end
slice-aggregate-close c = search rules

slice-aggregate-close-2 : tie.Need-slice_bounds-close-end-2
slice-aggregate-close-2 c = search rules

slice-aggregate-close-3 : tie.Need-slice_bounds-close-end-3
slice-aggregate-close-3 c = search rules

close-requires : tie.Need-close-closed-requires
close-requires c κs =
    let e = c in
    let r = rolled c.before.before.before.before in
    let l = r.read_roll-roll.new in
    steady (begin r).args.book.now l.keys l.starts l.standings l.stakes r.read_roll-roll.result r.read_roll-roll.ensures.rolled (accepted c.before.before.before) (wide r)

slice-aggregate-show : tie.Need-slice_bounds-show-end
slice-aggregate-show c = search rules

slice-aggregate-show-2 : tie.Need-slice_bounds-show-end-2
slice-aggregate-show-2 c = search rules

slice-aggregate-show-3 : tie.Need-slice_bounds-show-end-3
slice-aggregate-show-3 c = search rules

show-requires : tie.Need-show-requires
show-requires c κs =
    let g = gone c.before.before.before.before.before.before.before.before in
    record { stood = g.stood; staked = omega (arith, g.few); wide = g.wide }

same_length : tie.Need-shape_of-standings
same_length c = search rules

same-length-2 : tie.Need-shape_of-offered
same-length-2 c = search rules

same-length-3 : tie.Need-shape_of-pending
same-length-3 c = search rules

same-length-4 : tie.Need-shape_of-offsets
same-length-4 c = search rules

returns-2 : tie.Need-returns
returns-2 c =
    let p = c in
    same ((gone c.before.before.before.before.before.before.before.before.before.before.before.before.before.before.before.before.before).answers _) p.show.ensures

pub columns_spec : {M : Type 1} → statement M
columns_spec =
    tie.close
    (tie.spec
    slice-aggregate-read-roll
    slice-aggregate-read-roll-2
    slice-aggregate-read-roll-3
    slice-aggregate-read-roll-4
    read-roll-requires
    returns
    slice-aggregate-close
    slice-aggregate-close-2
    slice-aggregate-close-3
    close-requires
    slice-aggregate-show
    slice-aggregate-show-2
    slice-aggregate-show-3
    show-requires
    same_length
    same-length-2
    same-length-3
    same-length-4
    returns-2)
