-- Either way the bytes are those that the way names.
-- Assumes nothing.
use borrow.Author.Rules.{rules}
use Rattle.report.proofs.put_front.Statement.{statement}
use Rattle.report.proofs.put_front.Tie as tie

put-printed-head-requires : tie.Need-put_printed_head-requires
put-printed-head-requires c κs = rw c.if-listed.true at c.requires

put-head-requires : tie.Need-put_head-requires
put-head-requires c κs = rw c.if-listed.false at c.requires

same_length : tie.Need-shape_of-out-then-listed
same_length c = search rules

returns : tie.Need-returns-then-listed
returns c = let p = c in rw p.if-listed.true p.put_printed_head.ensures

same-length-2 : tie.Need-shape_of-out-else-listed
same-length-2 c = search rules

returns-2 : tie.Need-returns-else-listed
returns-2 c = let p = c in rw p.if-listed.false p.put_head.ensures

pub put_front_spec : {M : Type 1} → statement M
put_front_spec =
    tie.close
    (tie.spec
    put-printed-head-requires
    put-head-requires
    same_length
    returns
    same-length-2
    returns-2)
