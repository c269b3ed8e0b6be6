-- One line more at each turn; none is left, or four are read.
-- Assumes nothing.
use Rattle.std.proofs.Common.{◌≡◌, length, take, arith, ap, sym, ◌∙◌, ◌∷◌, List, ℕ}
use Rattle.std.proofs.lemmas.List.{take-set}
use borrow.Author.Tests.{eqb-true, eqb-false}
use Rattle.reasons.specs.Lines.{first_line}
use Rattle.cutback.specs.Lines.{lines_of}
use Rattle.cutting.specs.Told.{lots_of}
use Rattle.cutting.proofs.Rows.{taken_none, taken_more, taken_ended, taken_all, lines_first, lines_none}
use Rattle.cutting.proofs.read_lots.Goals as goal

pub loop-k-init : goal.loop-k-init
loop-k-init c = taken_none _ _ c.requires

pub returns-then-is_empty : goal.returns-then-is_empty
returns-then-is_empty c =
    (c.loop-k.invariant.few, take-set c.loop-k.lots c.loop-k.k _ ∙ taken_ended c.loop-k.invariant (lines_none c.loop-k.rest.now (eqb-true _ _ (sym c.is_empty.ensures ∙ c.if-is_empty.true))))

pub loop-k-preserved : goal.loop-k-preserved
loop-k-preserved c =
    let rest = c.loop-k.rest.now in
    let some : length rest ≡ 0 → ⊥ = eqb-false _ _ (sym c.is_empty.ensures ∙ c.if-is_empty.false) in
    taken_more c.loop-k.invariant (first_line rest) _ _ (omega (arith, c.requires))
    (lines_first rest (omega arith) ∙ ap (λ (t : List ℕ). first_line rest ∷ lines_of t) (sym c.first_line.ensures.behind)) (c.lots_of.ensures ∙ ap lots_of c.first_line.ensures.line)

pub returns : goal.returns
returns c =
    let e : c.loop-k.k ≡ 4 = omega (arith, c.requires, c.loop-k.invariant.few) in
    (omega arith, ap (λ n. take n c.loop-k.lots) (sym e) ∙ taken_all c.loop-k.invariant (omega arith))
