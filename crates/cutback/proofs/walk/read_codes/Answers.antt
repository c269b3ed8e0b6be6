-- One code more: malformed, twice, or neither.
use Rattle.std.proofs.Common.{arith, sym, ◌∙◌}
use Rattle.codes.proofs.Laws.{key_read, none_read}
use Rattle.cutback.proofs.Codes.{bad_here, bad_again, counts_on, passed_more}
use Rattle.cutback.proofs.walk.read_codes.Goals as goal

pub returns-in_default-read_code : goal.returns-in_default-read_code
returns-in_default-read_code g c = c.loop-code.invariant.bad ∙ bad_here _ _ _ c.in-Some.ensures.taken (none_read _ (sym c.read_code.ensures ∙ c.in_default-read_code.is))

pub returns-then-stands_again : goal.returns-then-stands_again
returns-then-stands_again g c =
    let k = key_read _ _ (sym c.read_code.ensures ∙ c.in-Key.is) in
    c.loop-code.invariant.bad ∙ bad_again _ _ _ c.in-Some.ensures.taken k.0 (sym c.stands_again.ensures ∙ c.if-stands_again.true)

pub overflow_add-count : goal.overflow_add-count
overflow_add-count g c = omega (arith, counts_on _ _ _ _ c.loop-code.invariant _ _ c.in-Some.ensures.taken c.in-Some.ensures.few)

pub loop-code-preserved : goal.loop-code-preserved
loop-code-preserved g c =
    let k = key_read _ _ (sym c.read_code.ensures ∙ c.in-Key.is) in
    rw c.keep.ensures
    (passed_more _ _ _ _ c.loop-code.invariant _ _ c.in-Key.key c.in-Some.ensures.taken k.0 (sym c.stands_again.ensures ∙ c.if-stands_again.false) k.1 c.in-Some.ensures.few)
