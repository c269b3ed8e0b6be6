-- Its fields join.
use Rattle.std.proofs.Common.{arith}
use Rattle.writing.specs.Written.{join}
use Rattle.sheets.proofs.Carries.{seat_wrote}
use Rattle.sheets.proofs.putting.put_seat.Goals as goal

pub returns : goal.returns
returns c =
    let a = c.args in
    seat_wrote a.mark a.code.now a.k.now a.h.now a.q.now
    (join (join (join c.put_field-second.ensures.0 c.put_field-third.ensures.0 (omega arith)) c.put_field-fourth.ensures.0 (omega arith)) c.put_field.ensures.0 (omega arith))
