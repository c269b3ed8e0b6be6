-- The rules in their order, and the lots above what may stay.
use Rattle.std.proofs.Common.{◌≡◌, Err, arith, rules}
use Rattle.cutback.proofs.Cutting.{tons_small, stopped, earlier, grams_some, lots_few, large, missing, held_so, shown}
use Rattle.cutback.proofs.over_limit.Goals as goal

pub returns-in_err-limit : goal.returns-in_err-limit
returns-in_err-limit g c =
    let e : c.from_residual.result ≡ Err c.in_err-limit.field-0.0 = search rules in
    stopped _ _ _ _ _ _ _ _ c.read_codes-read.ensures c.limit_of.ensures _ c.early.ensures c.in_err-limit.field-0.0 c.in_err-limit.was _ e

pub sum_lots-requires : goal.sum_lots-requires
sum_lots-requires g c = lots_few _ _ _ _ _ _ _ _ (earlier _ _ _ _ _ _ _ _ c.read_codes-read.ensures c.limit_of.ensures _ c.early.ensures _ _ c.in_ok-limit.was)

pub returns-in_default : goal.returns-in_default
returns-in_default g c = large _ _ _ _ _ _ _ _ (earlier _ _ _ _ _ _ _ _ c.read_codes-read.ensures c.limit_of.ensures _ c.early.ensures _ _ c.in_ok-limit.was) c.in_default.ensures

pub returns-then-lots-count : goal.returns-then-lots-count
returns-then-lots-count g c = missing _ _ _ _ _ _ _ _ (earlier _ _ _ _ _ _ _ _ c.read_codes-read.ensures c.limit_of.ensures _ c.early.ensures _ _ c.in_ok-limit.was) c.if-lots-count.true

pub overflow_mul-limit : goal.overflow_mul-limit
overflow_mul-limit g c =
    let e = earlier _ _ _ _ _ _ _ _ c.read_codes-read.ensures c.limit_of.ensures _ c.early.ensures _ _ c.in_ok-limit.was in
    omega (arith, e.limit, tons_small c.args.kind.now c.args.metal.now)

pub nonzero_div-limit : goal.nonzero_div-limit
nonzero_div-limit g c = grams_some _ _ _ _ _ _ _ _ (earlier _ _ _ _ _ _ _ _ c.read_codes-read.ensures c.limit_of.ensures _ c.early.ensures _ _ c.in_ok-limit.was)

pub returns : goal.returns
returns g c =
    let e = earlier _ _ _ _ _ _ _ _ c.read_codes-read.ensures c.limit_of.ensures _ c.early.ensures _ _ c.in_ok-limit.was in
    let k = c.if-lots-count.false in
    (held_so _ _ _ _ _ _ _ _ e c.in-Some.ensures.0 k c.read_codes-read.array_long, shown _ _ _ _ _ _ _ _ e c.in-Some.ensures.0 k _ _ c.in-Some.ensures.1 c.saturating_sub.ensures)
