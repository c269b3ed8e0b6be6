-- The tag, a semicolon, the value and a line feed join.
use Rattle.std.proofs.Common.{arith}
use Rattle.writing.specs.Written.{join}
use Rattle.sheets.specs.Shown.{value_length}
use Rattle.sheets.proofs.shown.put_line.Goals as goal

pub put_byte-requires : goal.put_byte-requires
put_byte-requires c = omega (arith, value_length c.args.mark c.args.tag c.args.value.now)

pub returns : goal.returns
returns c =
    let l = value_length c.args.mark c.args.tag c.args.value.now in
    join c.put_byte-part.ensures (join c.put_byte-begin.ensures (join c.put_value-end.ensures c.put_byte.ensures (omega (arith, l))) (omega arith)) (omega arith)
