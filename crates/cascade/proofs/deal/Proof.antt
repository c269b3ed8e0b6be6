-- A division, and its lots added.
-- Assumes nothing.
use Rattle.cascade.proofs.Dealt.{as_long, addable, dealt}
use borrow.Author.Rules.{rules}
use Rattle.cascade.proofs.deal.Statement.{statement}
use Rattle.cascade.proofs.deal.Tie as tie

abbrev start : tie.After-divide → tie.Start
start d = d.before.before.before.before.before

divide-requires : tie.Need-divide-requires
divide-requires c κs = search rules

add-requires : tie.Need-add-requires
add-requires c κs = let d = c in let s = start c.before.before.before in addable s.requires.0 s.requires.1 d.divide.ensures

same_length : tie.Need-shape_of-lots
same_length c = search rules

same-length-2 : tie.Need-shape_of-offset
same-length-2 c = search rules

returns : tie.Need-returns
returns c =
    let a = c in
    let d = a in
    let s = start c.before.before.before.before.before.before in
    (dealt s.requires.0 s.requires.1 d.divide.ensures a.add.ensures, as_long s.requires.0 s.requires.1 d.divide.ensures)

pub deal_spec : {M : Type 1} → statement M
deal_spec = tie.close (tie.spec divide-requires add-requires same_length same-length-2 returns)
