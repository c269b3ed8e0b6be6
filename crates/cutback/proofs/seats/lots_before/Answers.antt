-- One seat more, which goes before or does not; and all seats at the end.
use Rattle.std.proofs.Common.{◌≡◌, length, sym, ap, ◌∙◌, arith, rules}
use Rattle.std.proofs.lemmas.List.{length_push}
use Rattle.std.proofs.lemmas.Slice.Zip.{zip_turn, zip_end}
use Rattle.rules.specs.Division.{sum_of}
use Rattle.laws.specs.Sums.{up_to}
use Rattle.cutback.specs.Keyed.{before_at, lots_before_at}
use Rattle.cutback.proofs.Lots.{gone_before, gone_behind}
use Rattle.cutback.proofs.seats.lots_before.Goals as goal

pub loop-key-preserved-then-goes_before : goal.loop-key-preserved-then-goes_before
loop-key-preserved-then-goes_before c =
    let t = zip_turn c.args.keys.now c.args.lots.now c.loop-key.yielded c.into_iter-key-iterator.result c.loop-key.key-iterator c.next.new.self c.next.result (search rules) (search rules) c.loop-key.yielded_by (c.in-Some.key, c.in-Some.held) c.in-Some.is c.next.ensures.steps in
    rw length_push
    (gone_before _ _ _ _ _ _ _ c.loop-key.invariant (t.2 0) (t.3 0) (omega (arith, c.requires.0.small (length c.loop-key.yielded) t.1, t.3 0)) (sym c.goes_before.ensures ∙ c.if-goes_before.true))

pub loop-key-preserved : goal.loop-key-preserved
loop-key-preserved c =
    let t = zip_turn c.args.keys.now c.args.lots.now c.loop-key.yielded c.into_iter-key-iterator.result c.loop-key.key-iterator c.next.new.self c.next.result (search rules) (search rules) c.loop-key.yielded_by (c.in-Some.key, c.in-Some.held) c.in-Some.is c.next.ensures.steps in
    rw length_push (gone_behind _ _ _ _ _ _ _ c.loop-key.invariant (t.2 0) (t.3 0) (sym c.goes_before.ensures ∙ c.if-goes_before.false))

pub returns : goal.returns
unfolding lots_before_at
returns c =
    let e = zip_end c.args.keys.now c.args.lots.now c.loop-key.yielded c.into_iter-key-iterator.result c.loop-key.key-iterator c.next.new.self c.next.result (search rules) (search rules) c.loop-key.yielded_by c.in-None.is c.next.ensures.steps in
    let n : length c.loop-key.yielded ≡ length c.args.lots.now = omega (arith, c.requires.0.keyed) in
    c.loop-key.invariant.whole ∙ ap (λ m. sum_of (before_at c.args.keys.now c.args.lots.now c.args.i) (up_to m)) n
