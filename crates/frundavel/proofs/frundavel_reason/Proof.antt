-- `frundavel::frundavel_reason` meets its contract: what is handed over is what was put at the front of a buffer that all words fit.
-- Assumes nothing.
use Prim.Native.Nat.{ℕ}
use mathlib.Core.List.{List}
use mathlib.Core.Path.{ap, subst, ◌∙◌}
use lib.ListN.{length, replicate}
use native.Mathlib.Omega.{arith}
use borrow.Author.Rules.{rules}
use Rattle.rules.specs.Answer.{fitted}
use Rattle.writing.specs.Written.{Room}
use Rattle.reasons.specs.Reason.{reason}
use Rattle.reasons.specs.Sizes.{reason_short}
use Rattle.answers.specs.Answered.{Answered}
use Rattle.frundavel.proofs.Front.{within, front, front_size}
use Rattle.frundavel.proofs.frundavel_reason.Statement.{statement}
use Rattle.frundavel.proofs.frundavel_reason.Tie as tie

-- all words fit the buffer
fits : (c : tie.After-field_at) → let a = c.args in Room 0 (reason a.number a.place c.field_at.result) (replicate 128 0)
fits c = let a = c.args in omega (arith, reason_short a.number a.place c.field_at.result)

slice-aggregate-put-reason : tie.Need-slice_bounds-put_reason-end
slice-aggregate-put-reason c = search rules

field-at-requires : tie.Need-field_at-requires
field-at-requires c κs = search rules

put-reason-requires : tie.Need-put_reason-end-requires
put-reason-requires c κs = fits c

array-share-prefix-text : tie.Need-slice_bounds-text-end
array-share-prefix-text c = let p = c in within p.put_reason-end.ensures (fits c.before.before)

slice-aggregate-hand-over : tie.Need-slice_bounds-hand_over-end
slice-aggregate-hand-over c = let p = c in front_size p.put_reason-end.ensures (fits c.before.before.before)

hand-over-requires : tie.Need-hand_over-requires
hand-over-requires c κs = search rules

same_length : tie.Need-shape_of-words
same_length c = search rules

returns : tie.Need-returns
returns c =
    let h = c in
    let p = h in
    let a = p.args in
    subst (λ (w : List ℕ). Answered (fitted (length a.words.now) w) h.hand_over.result a.words.now h.hand_over.new.out)
    (front p.put_reason-end.ensures (fits c.before.before.before.before.before.before.before) ∙ ap (reason a.number a.place) p.field_at.ensures)
    h.hand_over.ensures

pub frundavel_reason_spec : {M : Type 1} → statement M
frundavel_reason_spec =
    tie.close
    (tie.spec
    slice-aggregate-put-reason
    field-at-requires
    put-reason-requires
    array-share-prefix-text
    slice-aggregate-hand-over
    hand-over-requires
    same_length
    returns)
