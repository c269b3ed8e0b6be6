-- The listing of the verdict, its words and its status.
-- Assumes nothing.
use Rattle.std.proofs.Common.{ap, ◌∙◌, arith, length-take}
use Rattle.shell.specs.Shell.{number_of}
use Rattle.intake.specs.Telling.{put_so, put_same, put_none}
use Rattle.ladder.proofs.Tells.{took, not_taken}
use Rattle.ladder.proofs.tell.Goals as goal

pub slice_bounds-put_days-end : goal.slice_bounds-put_days-end
slice_bounds-put_days-end c = (took _ _ _ _ _ c.requires.front_bound c.requires.in_bounds c.ladder_in-found.ensures c.if-found-eq-ACCEPTED.true).inside

pub slice_bounds-put_days-end-then-found-eq-ACCEPTED : goal.slice_bounds-put_days-end-then-found-eq-ACCEPTED
slice_bounds-put_days-end-then-found-eq-ACCEPTED c =
    let t = took _ _ _ _ _ c.requires.front_bound c.requires.in_bounds c.ladder_in-found.ensures c.if-found-eq-ACCEPTED.true in
    omega (arith, length-take c.ladder_in-found.result.length c.ladder_in-found.new.steps, t.inside)

pub put_days-requires : goal.put_days-requires
put_days-requires c = omega (arith, (took _ _ _ _ _ c.requires.front_bound c.requires.in_bounds c.ladder_in-found.ensures c.if-found-eq-ACCEPTED.true).short)

pub returns-then-found-eq-ACCEPTED-clause-put : goal.returns-then-found-eq-ACCEPTED-clause-put
returns-then-found-eq-ACCEPTED-clause-put c =
    let t = took _ _ _ _ _ c.requires.front_bound c.requires.in_bounds c.ladder_in-found.ensures c.if-found-eq-ACCEPTED.true in
    put_so c.put_days.ensures t.listing (omega (arith, t.short))

pub returns-then-found-eq-ACCEPTED-clause-put_2 : goal.returns-then-found-eq-ACCEPTED-clause-put_2
returns-then-found-eq-ACCEPTED-clause-put_2 c = put_none c.args.words.now (took _ _ _ _ _ c.requires.front_bound c.requires.in_bounds c.ladder_in-found.ensures c.if-found-eq-ACCEPTED.true).silent

pub returns-then-found-eq-ACCEPTED-clause-status_value : goal.returns-then-found-eq-ACCEPTED-clause-status_value
returns-then-found-eq-ACCEPTED-clause-status_value c = (took _ _ _ _ _ c.requires.front_bound c.requires.in_bounds c.ladder_in-found.ensures c.if-found-eq-ACCEPTED.true).status

pub returns-clause-put : goal.returns-clause-put
returns-clause-put c = put_same (not_taken _ _ _ _ _ c.requires.front_bound c.requires.in_bounds c.ladder_in-found.ensures c.if-found-eq-ACCEPTED.false).listing c.tell_refused.ensures.put

pub returns-clause-put_2 : goal.returns-clause-put_2
returns-clause-put_2 c = put_same (not_taken _ _ _ _ _ c.requires.front_bound c.requires.in_bounds c.ladder_in-found.ensures c.if-found-eq-ACCEPTED.false).line c.tell_refused.ensures.put_2

pub returns-clause-status_value : goal.returns-clause-status_value
returns-clause-status_value c = ap number_of c.tell_refused.ensures.status_value ∙ (not_taken _ _ _ _ _ c.requires.front_bound c.requires.in_bounds c.ladder_in-found.ensures c.if-found-eq-ACCEPTED.false).status
