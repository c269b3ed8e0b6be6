-- `codes::known` meets its contract: a key whose place is not marked was not given.
-- Assumes nothing.
use borrow.Author.Rules.{rules}
use mathlib.Core.Path.{sym, ap, ◌∙◌}
use native.Mathlib.Omega.{arith}
use lib.ListN.{get_or}
use Rattle.codes.proofs.Marks.{mark_below, not_given}
use Rattle.codes.proofs.known.Statement.{statement}
use Rattle.codes.proofs.known.Tie as tie

mark-of-requires : tie.Need-mark_of-mark-requires
mark-of-requires c κs = search rules

element-copy-out-if1 : tie.Need-bounds-marks-mark
element-copy-out-if1 c = omega (arith, mark_below c.before.before.args.key, c.mark_of-mark.ensures)

returns : tie.Need-returns-then-marks-mark-eq0
returns c =
    let m = c.before.before in
    let a = m.before.before.args in
    sym (not_given a.keys.now a.marks.now a.count a.key m.before.before.requires.1 (ap (λ i. get_or a.marks.now i 0) (sym m.mark_of-mark.ensures) ∙ c.if-marks-mark-eq0.true))

given-requires : tie.Need-given-requires
given-requires c κs = search rules

returns-2 : tie.Need-returns
returns-2 c = search rules

pub known_spec : {M : Type 1} → statement M
known_spec =
    tie.close (tie.spec mark-of-requires element-copy-out-if1 returns given-requires returns-2)
