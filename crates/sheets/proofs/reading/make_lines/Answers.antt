-- What the lines were judged to be decides, and the room.
use Rattle.std.proofs.Common.{◌≡◌, Err, rules}
use Rattle.sheets.proofs.Answering.{bad_makes, no_room_makes, room_takes, wrote_makes}
use Rattle.sheets.proofs.reading.make_lines.Goals as goal

pub returns-in_err-length : goal.returns-in_err-length
returns-in_err-length c =
    let e : c.from_residual.result ≡ Err c.in_err-length.field-0.0 = search rules in
    rw e (bad_makes _ c.args.book.now _ c.in_err-length.ensures)

pub returns-then-book-length : goal.returns-then-book-length
returns-then-book-length c = no_room_makes c.args.book.now _ _ c.in_ok-length.ensures c.if-book-length.true

pub put_lines-requires : goal.put_lines-requires
put_lines-requires c =
    let takes = room_takes c.args.book.now _ _ c.in_ok-length.ensures c.if-book-length.false in
    record { inside = c.requires.0; short = c.requires.1; good = takes.0; room = takes.1; unlike = c.requires.2 }

pub returns : goal.returns
returns c = wrote_makes c.args.book.now _ _ c.in_ok-length.ensures c.if-book-length.false c.put_lines.ensures
