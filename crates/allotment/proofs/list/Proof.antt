-- The roll, and the cascade over its columns, are the listing, and 8,192 bytes are enough for every one.
-- Assumes nothing.
use Prim.Native.Nat.{ℕ, ◌≤◌}
use mathlib.Core.Path.{◌∙◌}
use native.Mathlib.Omega.{arith}
use native.Mathlib.Nat.{zero-add}
use lib.ListN.{length}
use mir.Syntax.{w64}
use mir.Val.{Fits}
use Rattle.rules.specs.Book.{Refused}
use Rattle.rules.specs.Report.{listing_of}
use Rattle.laws.specs.Digits.{digits_length_20}
use Rattle.printing.specs.Printed.{refusal_length}
use Rattle.roll.specs.Roll.{Room}
use Rattle.allotment.specs.Worked.{listing_room}
use Rattle.allotment.specs.Rolls.{refuses, Accepts, accepts, steady, shows}
use Rattle.allotment.proofs.Calls.{Stops, stops, Goes, goes}
use borrow.Author.Rules.{rules}
use Rattle.allotment.proofs.list.Statement.{statement}
use Rattle.allotment.proofs.list.Tie as tie

abbrev rolled : tie.After-struct_known-1 → tie.After-read_roll-roll
rolled k = k.before.before.before.before.before.before

abbrev begin : tie.After-read_roll-roll → tie.Start
begin r = r.before.before.before.before.before.before.before

stopped : (c : tie.Then-stopped-ne-ACCEPTED) → let r = rolled c.before in Stops (begin r).args.book.now r.read_roll-roll.result.refusal.number r.read_roll-roll.result.refusal.place
stopped c = let r = rolled c.before in let l = r.read_roll-roll.new in
    stops (refuses (begin r).args.book.now l.keys l.starts l.standings l.stakes r.read_roll-roll.result r.read_roll-roll.ensures.rolled c.if-stopped-ne-ACCEPTED.true)

wide : (r : tie.After-read_roll-roll) → let l = r.read_roll-roll.new in Room l.keys l.starts l.standings l.stakes
wide r = search rules

accepted : (e : tie.Else-stopped-ne-ACCEPTED) → let r = rolled e.before in let l = r.read_roll-roll.new in
    Accepts (begin r).args.book.now l.keys l.starts l.standings l.stakes r.read_roll-roll.result r.read_roll-roll.ensures.rolled
accepted e = let r = rolled e.before in let l = r.read_roll-roll.new in
    accepts (begin r).args.book.now l.keys l.starts l.standings l.stakes r.read_roll-roll.result r.read_roll-roll.ensures.rolled e.if-stopped-ne-ACCEPTED.false

abbrev left : tie.After-close-closed → tie.Else-stopped-ne-ACCEPTED
left d = d.before.before.before.before

gone : (d : tie.After-close-closed) → let r = rolled (left d).before in let l = r.read_roll-roll.new in
    Goes (begin r).args.book.now l.starts l.standings r.read_roll-roll.result.count r.read_roll-roll.result.down d.close-closed.result
gone d = let r = rolled (left d).before in let l = r.read_roll-roll.new in let a = accepted (left d) in
    goes a.accepted (shows (begin r).args.book.now l.keys l.starts l.standings l.stakes r.read_roll-roll.result r.read_roll-roll.ensures.rolled a (wide r) d.close-closed.result d.close-closed.ensures)

-- a refusal is a short line
module _ (c : tie.Then-stopped-ne-ACCEPTED) where
  abbrev number : ℕ
  number = (rolled c.before).read_roll-roll.result.refusal.number

  abbrev place : ℕ
  place = (rolled c.before).read_roll-roll.result.refusal.place

  number_fits : Fits w64 number
  number_fits = search rules

  place-fits : Fits w64 place
  place-fits = search rules

  short : length (listing_of (Refused number place)) ≤ listing_room
  short = omega (arith, refusal_length number place, digits_length_20 number (omega (arith, number_fits)), digits_length_20 place (omega (arith, place-fits)))

slice-aggregate-read-roll : tie.Need-slice_bounds-read_roll-end
slice-aggregate-read-roll c = search rules

slice-aggregate-read-roll-2 : tie.Need-slice_bounds-read_roll-end-2
slice-aggregate-read-roll-2 c = search rules

slice-aggregate-read-roll-3 : tie.Need-slice_bounds-read_roll-end-3
slice-aggregate-read-roll-3 c = search rules

slice-aggregate-read-roll-4 : tie.Need-slice_bounds-read_roll-end-4
slice-aggregate-read-roll-4 c = search rules

read-roll-requires : tie.Need-read_roll-roll-requires
read-roll-requires c κs = search rules

put-refusal-requires : tie.Need-put_refusal-requires
put-refusal-requires c κs = let t = c in omega (arith, short c.before, (begin (rolled c.before.before)).requires)

same_length : tie.Need-shape_of-out-then-stopped-ne-ACCEPTED
same_length c = search rules

returns : tie.Need-returns-then-stopped-ne-ACCEPTED
returns c =
    let p = c in
    let t = p in (
      rw (stopped c.before.before.before.before).lists (record {
        buffer = p.put_refusal.ensures.whole;
        size = p.put_refusal.ensures.next ∙ zero-add _;
        room = omega (arith, short c.before.before.before.before, (begin (rolled c.before.before.before.before.before)).requires, p.put_refusal.ensures.next);
      }),
      (stopped c.before.before.before.before).judged,
    )

slice-aggregate-close : tie.Need-slice_bounds-close-end
slice-aggregate-close c = search rules

slice-aggregate-close-2 : tie.Need-slice_bounds-close-end-2
slice-aggregate-close-2 c = search rules

slice-aggregate-close-3 : tie.Need-slice_bounds-close-end-3
slice-aggregate-close-3 c = search rules

close-requires : tie.Need-close-closed-requires
close-requires c κs =
    let e = c in
    let r = rolled c.before.before.before.before in
    let l = r.read_roll-roll.new in
    steady (begin r).args.book.now l.keys l.starts l.standings l.stakes r.read_roll-roll.result r.read_roll-roll.ensures.rolled (accepted c.before.before.before) (wide r)

slice-aggregate-put-sheet : tie.Need-slice_bounds-put_sheet-end
slice-aggregate-put-sheet c = search rules

slice-aggregate-put-sheet-2 : tie.Need-slice_bounds-put_sheet-end-2
slice-aggregate-put-sheet-2 c = search rules

slice-aggregate-put-sheet-3 : tie.Need-slice_bounds-put_sheet-end-3
slice-aggregate-put-sheet-3 c = search rules

put-sheet-requires : tie.Need-put_sheet-requires
put-sheet-requires c κs = let d = c in let g = gone c.before.before.before.before.before.before in (g.placed, omega (arith, g.short, (begin (rolled (left c.before.before.before.before.before.before).before)).requires))

same-length-2 : tie.Need-shape_of-out
same-length-2 c = search rules

returns-2 : tie.Need-returns
returns-2 c =
    let p = c in
    let d = p in
    let g = gone c.before.before.before.before.before.before.before.before.before in (
      rw g.lists (record {
        buffer = p.put_sheet.ensures.whole;
        size = p.put_sheet.ensures.next ∙ zero-add _;
        room = omega (arith, g.short, (begin (rolled (left c.before.before.before.before.before.before.before.before.before).before)).requires, p.put_sheet.ensures.next);
      }),
      g.judged,
    )

pub list_spec : {M : Type 1} → statement M
list_spec =
    tie.close
    (tie.spec
    slice-aggregate-read-roll
    slice-aggregate-read-roll-2
    slice-aggregate-read-roll-3
    slice-aggregate-read-roll-4
    read-roll-requires
    put-refusal-requires
    same_length
    returns
    slice-aggregate-close
    slice-aggregate-close-2
    slice-aggregate-close-3
    close-requires
    slice-aggregate-put-sheet
    slice-aggregate-put-sheet-2
    slice-aggregate-put-sheet-3
    put-sheet-requires
    same-length-2
    returns-2)
