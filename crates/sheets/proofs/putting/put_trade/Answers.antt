-- Its tag and length, its figures and what follows them join.
use Rattle.std.proofs.Common.{arith}
use lib.ListN.{length-map}
use Rattle.writing.specs.Written.{join}
use Rattle.sheets.proofs.putting.put_trade.Goals as goal

pub put_respelled-requires : goal.put_respelled-requires
put_respelled-requires c =
    let n = simp length-map at c.put_parts-behind.ensures.next in
    omega arith

pub returns : goal.returns
returns c = join (join c.put_tag-first.ensures c.put_parts-behind.ensures (omega arith)) c.put_respelled.ensures (omega arith)
