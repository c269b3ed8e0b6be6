-- A trade or a seat.
use Rattle.std.proofs.Common.{List, ℕ, subst}
use Rattle.writing.specs.Written.{Wrote}
use Rattle.sheets.proofs.Parted.{trade_fields, seat_fields}
use Rattle.sheets.proofs.Rooms.{trade_room, seat_room}
use Rattle.sheets.proofs.putting.put_four.Goals as goal

pub put_trade-requires : goal.put_trade-requires
put_trade-requires c =
    let a = c.args in
    let r = trade_room a.mark a.sheet.now a.at a.tag a.parts a.place a.out.now c.requires c.if-tag-ne-I.true in
    record { day_len_bound = r.0; day_in_bounds = r.1 }

pub returns-then-tag-ne-I : goal.returns-then-tag-ne-I
returns-then-tag-ne-I c =
    let a = c.args in
    subst (λ (s : List ℕ). Wrote a.place s a.out.now c.put_trade.new.out c.put_trade.result)
    (trade_fields a.mark a.sheet.now a.at a.tag a.parts c.requires.has c.requires.unlike c.if-tag-ne-I.true) c.put_trade.ensures

pub put_seat-requires : goal.put_seat-requires
put_seat-requires c =
    let a = c.args in
    let r = seat_room a.mark a.sheet.now a.at a.tag a.parts a.place a.out.now c.requires c.if-tag-ne-I.false in
    record { q_len_bound = r.0; q_in_bounds = r.1 }

pub returns : goal.returns
returns c =
    let a = c.args in
    subst (λ (s : List ℕ). Wrote a.place s a.out.now c.put_seat.new.out c.put_seat.result)
    (seat_fields a.mark a.sheet.now a.at a.tag a.parts c.requires.has c.if-tag-ne-I.false) c.put_seat.ensures
