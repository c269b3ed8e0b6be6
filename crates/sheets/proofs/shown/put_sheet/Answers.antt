-- The first line, and the fields behind it.
use Rattle.std.proofs.Common.{arith}
use Rattle.writing.specs.Written.{join}
use Rattle.sheets.specs.Write.{sheet_of}
use Rattle.sheets.proofs.shown.put_sheet.Goals as goal

pub returns : goal.returns
unfolding sheet_of
returns c =
    join (join (join c.put_bytes-word.ensures c.put_byte-end.ensures (omega arith)) c.put_byte-first.ensures (omega arith)) c.put_fields.ensures (omega arith)
