-- A division, and its lots added.
-- Assumes nothing.
use mathlib.Core.Path.{◌∙◌}
use Rattle.cascade.proofs.Dealt.{as_long, addable, dealt_at_lem}
use Rattle.cascade.proofs.InRows.{offset_same}
use borrow.Author.Rules.{rules}
use Rattle.cascade.proofs.rows.deal.Statement.{statement}
use Rattle.cascade.proofs.rows.deal.Tie as tie

abbrev start : tie.After-divide → tie.Start
start d = d.before.before.before.before

divide-requires : tie.Need-divide-requires
divide-requires c κs = search rules

add-requires : tie.Need-add-requires
add-requires c κs = let d = c in let s = start c.before.before in (s.requires.0.bounded.few, addable s.requires.0 s.requires.1 d.divide.ensures)

same_length : tie.Need-shape_of-lots
same_length c = search rules

returns : tie.Need-returns
returns c =
    let d = c in
    let s = start c.before.before.before in
    let e = d.divide.ensures in
    (c.add.ensures ∙ offset_same s.args.count s.args.rows (dealt_at_lem s.requires.0 s.requires.1 e), as_long s.requires.0 s.requires.1 e)

pub deal_spec : {M : Type 1} → statement M
deal_spec = tie.close (tie.spec divide-requires add-requires same_length returns)
