-- The roll, and the cascade over its columns, are the answer.
-- Assumes nothing.
use Rattle.roll.specs.Roll.{Room}
use Rattle.answers.specs.Answering.{refused_so}
use Rattle.allotment.specs.Rolls.{refuses, Accepts, accepts, steady, shows}
use Rattle.allotment.proofs.Calls.{Stops, stops, Goes, goes}
use borrow.Author.Rules.{rules}
use Rattle.allotment.proofs.allot_in.Statement.{statement}
use Rattle.allotment.proofs.allot_in.Tie as tie

abbrev rolled : tie.After-struct_known-1 → tie.After-read_roll-roll
rolled k = k.before.before.before.before.before.before

abbrev begin : tie.After-read_roll-roll → tie.Start
begin r = r.before.before.before.before.before.before.before

stopped : (c : tie.Then-refused-ne-ACCEPTED) → let r = rolled c.before in Stops (begin r).args.book.now r.read_roll-roll.result.refusal.number r.read_roll-roll.result.refusal.place
stopped c = let r = rolled c.before in let l = r.read_roll-roll.new in
    stops (refuses (begin r).args.book.now l.keys l.starts l.standings l.stakes r.read_roll-roll.result r.read_roll-roll.ensures.rolled c.if-refused-ne-ACCEPTED.true)

wide : (r : tie.After-read_roll-roll) → let l = r.read_roll-roll.new in Room l.keys l.starts l.standings l.stakes
wide r = search rules

accepted : (e : tie.Else-refused-ne-ACCEPTED) → let r = rolled e.before in let l = r.read_roll-roll.new in
    Accepts (begin r).args.book.now l.keys l.starts l.standings l.stakes r.read_roll-roll.result r.read_roll-roll.ensures.rolled
accepted e = let r = rolled e.before in let l = r.read_roll-roll.new in
    accepts (begin r).args.book.now l.keys l.starts l.standings l.stakes r.read_roll-roll.result r.read_roll-roll.ensures.rolled e.if-refused-ne-ACCEPTED.false

abbrev left : tie.After-close-closed → tie.Else-refused-ne-ACCEPTED
left d = d.before.before.before.before

gone : (d : tie.After-close-closed) → let r = rolled (left d).before in let l = r.read_roll-roll.new in
    Goes (begin r).args.book.now l.starts l.standings r.read_roll-roll.result.count r.read_roll-roll.result.down d.close-closed.result
gone d = let r = rolled (left d).before in let l = r.read_roll-roll.new in let a = accepted (left d) in
    goes a.accepted (shows (begin r).args.book.now l.keys l.starts l.standings l.stakes r.read_roll-roll.result r.read_roll-roll.ensures.rolled a (wide r) d.close-closed.result d.close-closed.ensures)

slice-aggregate-read-roll : tie.Need-slice_bounds-read_roll-end
slice-aggregate-read-roll c = search rules

slice-aggregate-read-roll-2 : tie.Need-slice_bounds-read_roll-end-2
slice-aggregate-read-roll-2 c = search rules

slice-aggregate-read-roll-3 : tie.Need-slice_bounds-read_roll-end-3
slice-aggregate-read-roll-3 c = search rules

slice-aggregate-read-roll-4 : tie.Need-slice_bounds-read_roll-end-4
slice-aggregate-read-roll-4 c = search rules

read-roll-requires : tie.Need-read_roll-roll-requires
read-roll-requires c κs = search rules

returns : tie.Need-returns-then-refused-ne-ACCEPTED
returns c = rw ((stopped c).answers _) (refused_so _ _ _)

slice-aggregate-close : tie.Need-slice_bounds-close-end
slice-aggregate-close c = search rules

slice-aggregate-close-2 : tie.Need-slice_bounds-close-end-2
slice-aggregate-close-2 c = search rules

slice-aggregate-close-3 : tie.Need-slice_bounds-close-end-3
slice-aggregate-close-3 c = search rules

close-requires : tie.Need-close-closed-requires
close-requires c κs =
    let e = c in
    let r = rolled c.before.before.before.before in
    let l = r.read_roll-roll.new in
    steady (begin r).args.book.now l.keys l.starts l.standings l.stakes r.read_roll-roll.result r.read_roll-roll.ensures.rolled (accepted c.before.before.before) (wide r)

slice-aggregate-report-lines : tie.Need-slice_bounds-report_lines-end
slice-aggregate-report-lines c = search rules

slice-aggregate-report-lines-2 : tie.Need-slice_bounds-report_lines-end-2
slice-aggregate-report-lines-2 c = search rules

slice-aggregate-report-lines-3 : tie.Need-slice_bounds-report_lines-end-3
slice-aggregate-report-lines-3 c = search rules

report-lines-requires : tie.Need-report_lines-requires
report-lines-requires c κs = let g = gone c.before.before.before.before.before.before in (g.placed, g.fits)

same_length : tie.Need-shape_of-report
same_length c = search rules

returns-2 : tie.Need-returns
returns-2 c = let p = c in rw ((gone c.before.before.before.before.before.before.before.before.before).answers _) p.report_lines.ensures

pub allot_in_spec : {M : Type 1} → statement M
allot_in_spec =
    tie.close
    (tie.spec
    slice-aggregate-read-roll
    slice-aggregate-read-roll-2
    slice-aggregate-read-roll-3
    slice-aggregate-read-roll-4
    read-roll-requires
    returns
    slice-aggregate-close
    slice-aggregate-close-2
    slice-aggregate-close-3
    close-requires
    slice-aggregate-report-lines
    slice-aggregate-report-lines-2
    slice-aggregate-report-lines-3
    report-lines-requires
    same_length
    returns-2)
