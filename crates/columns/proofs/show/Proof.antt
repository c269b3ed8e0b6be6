-- 11 where a run has fewer places than there are customers.
-- Assumes nothing.
use native.Mathlib.Omega.{arith}
use Rattle.columns.specs.View.{Runs, runs}
use Rattle.columns.proofs.Fitting.{too_few, enough}
use borrow.Author.Rules.{rules}
use Rattle.columns.proofs.show.Statement.{statement}
use Rattle.columns.proofs.show.Tie as tie

abbrev start : tie.After-places-room → tie.Start
start p = p.before.before.before.before.before.before.before.before

abbrev lent : tie.After-places-room → Runs
lent p = let a = (start p).args in runs a.standings.now a.offered.now a.pending.now a.offsets.now

places-requires : tie.Need-places-room-requires
places-requires c κs = search rules

returns : tie.Need-returns-then-room-needed
returns c =
    let p = c in
    let a = (start c.before).args in
    too_few a.bytes.now a.stakes.now a.offset.now a.count (lent c.before) (omega (arith, p.places-room.ensures, c.if-room-needed.true))

put-runs-requires : tie.Need-put_runs-requires
put-runs-requires c κs = search rules

same_length : tie.Need-shape_of-standings
same_length c = search rules

same-length-2 : tie.Need-shape_of-offered
same-length-2 c = search rules

same-length-3 : tie.Need-shape_of-pending
same-length-3 c = search rules

same-length-4 : tie.Need-shape_of-offsets
same-length-4 c = search rules

returns-2 : tie.Need-returns
returns-2 c =
    let r = c in
    let e = r in
    let p = e in
    let a = (start c.before.before.before.before.before.before.before.before.before.before.before.before.before.before).args in
    enough a.bytes.now a.stakes.now a.offset.now a.count (lent c.before.before.before.before.before.before.before.before.before.before.before.before.before.before) (omega (arith, p.places-room.ensures, e.if-room-needed.false)) r.put_runs.ensures

pub show_spec : {M : Type 1} → statement M
show_spec =
    tie.close
    (tie.spec
    places-requires
    returns
    put-runs-requires
    same_length
    same-length-2
    same-length-3
    same-length-4
    returns-2)
