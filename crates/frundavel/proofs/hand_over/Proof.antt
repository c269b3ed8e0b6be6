-- `frundavel::hand_over` meets its contract: 11 where the text is longer than the buffer.
-- Assumes nothing.
use mathlib.Core.Path.{refl}
use borrow.Author.Rules.{rules}
use Rattle.answers.specs.Answering.{too_small, fits}
use Rattle.frundavel.proofs.hand_over.Statement.{statement}
use Rattle.frundavel.proofs.hand_over.Tie as tie

returns : tie.Need-returns-then-out-text
returns c = let a = c.args in too_small a.text.now a.out.now _ refl c.if-out-text.true

put-bytes-requires : tie.Need-put_bytes-length-requires
put-bytes-requires c κs = search rules

same_length : tie.Need-shape_of-out
same_length c = search rules

returns-2 : tie.Need-returns
returns-2 c =
    let p = c in
    let e = p in
    let a = e.args in
    fits a.text.now a.out.now _ p.put_bytes-length.result e.if-out-text.false p.put_bytes-length.ensures.whole p.put_bytes-length.ensures.next

pub hand_over_spec : {M : Type 1} → statement M
hand_over_spec = tie.close (tie.spec returns put-bytes-requires same_length returns-2)
