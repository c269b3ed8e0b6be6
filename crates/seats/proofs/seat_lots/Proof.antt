-- Where nothing is divided nobody has any; else the division over the keys is that over the seats.
-- Assumes nothing.
use mathlib.Core.Path.{◌∙◌}
use borrow.Author.Rules.{rules}
use Rattle.seats.specs.Dealt.{seats_at}
use Rattle.seats.proofs.Division.{nothing_dealt, lent, divided_is}
use Rattle.seats.proofs.seat_lots.Statement.{statement}
use Rattle.seats.proofs.seat_lots.Tie as tie

returns : tie.Need-returns-then-offset-eq0
returns c = let s = c in nothing_dealt (seats_at s.args.book.now s.args.at) s.args.standing s.args.long s.args.offset s.requires.sane.few c.if-offset-eq0.true

slice-aggregate-weigh : tie.Need-slice_bounds-weigh-end
slice-aggregate-weigh c = search rules

slice-aggregate-weigh-2 : tie.Need-slice_bounds-weigh-end-2
slice-aggregate-weigh-2 c = search rules

weigh-requires : tie.Need-weigh-all-requires
weigh-requires c κs = search rules

slice-aggregate-divide : tie.Need-slice_bounds-divide-end
slice-aggregate-divide c = search rules

slice-aggregate-divide-2 : tie.Need-slice_bounds-divide-end-2
slice-aggregate-divide-2 c = search rules

divide-requires : tie.Need-divide-requires
divide-requires c κs = let w = c in lent w.requires w.weigh-all.ensures

returns-2 : tie.Need-returns
returns-2 c =
    let w = c in
    c.divide.ensures ∙ divided_is w.requires w.weigh-all.ensures

pub seat_lots_spec : {M : Type 1} → statement M
seat_lots_spec =
    tie.close
    (tie.spec
    returns
    slice-aggregate-weigh
    slice-aggregate-weigh-2
    weigh-requires
    slice-aggregate-divide
    slice-aggregate-divide-2
    divide-requires
    returns-2)
