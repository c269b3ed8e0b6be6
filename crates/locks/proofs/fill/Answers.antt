-- A day more, the end of the days, and a line that is none.
-- Assumes nothing.
use Rattle.std.specs.Prelude.{◌≡◌, ◌∷◌, [], Some, Ok}
use Rattle.std.proofs.Common.{sym, ap, ◌∙◌, arith, rules}
use Rattle.days.specs.Places.{days_left, days_of}
use Rattle.writing.specs.Written.{written_front}
use Rattle.watch.specs.Filling.{none_left}
use Rattle.locks.specs.Ladder.{step_by}
use Rattle.locks.specs.Climbing.{with_ahead, climbed_none, climbed_next, climbed_all}
use Rattle.locks.proofs.Answers.{read_ahead}
use Rattle.locks.proofs.fill.Goals as goal

pub loop-i-init : goal.loop-i-init
loop-i-init c =
    let a = read_ahead c.next-ahead.result c.next-ahead.ensures.steps in
    record { climbed = rw (← a.0) (climbed_none c.args.steps.now _ c.args.list.count c.requires); none = a.1 }

pub returns-in_default : goal.returns-in_default
returns-in_default c =
    let none : days_of (with_ahead c.loop-i.ahead (days_left c.loop-i.days)) ≡ [] = rw c.in_default.is (search rules) in
    climbed_all c.loop-i.invariant.climbed none ∙ sym (written_front _ _)

pub loop-i-preserved : goal.loop-i-preserved
loop-i-preserved c =
    let a = read_ahead c.next-ahead-in-loop-i.result c.next-ahead-in-loop-i.ensures.steps in
    let day : c.loop-i.ahead ≡ Some (Ok c.in-Some-Ok.day) = c.in-Some-Ok.is ∙ ap Some (rw c.in-Some-Ok.is at c.in-Some-Ok.field-0-is) in
    let left : with_ahead c.loop-i.ahead (days_left c.loop-i.days) ≡ Ok c.in-Some-Ok.day ∷ with_ahead c.next-ahead-in-loop-i.result (days_left c.next-ahead-in-loop-i.new.self) =
    ap (λ r. with_ahead r (days_left c.loop-i.days)) day ∙ ap (λ l. Ok c.in-Some-Ok.day ∷ l) a.0 in
    record {
      climbed =
          climbed_next c.loop-i.invariant.climbed c.in-Some-Ok.day _ _ left a.1 _ (c.step_by-step.ensures ∙ ap (step_by c.loop-i.before c.in-Some-Ok.day.mark c.loop-i.so_far) c.raise_at.ensures)
          _ c.rung_of.ensures _ c.running-so_far.ensures (omega (arith, c.loop-i-test.true, c.requires.room));
      none = a.1;
    }

pub returns : goal.returns
returns c =
    let none = none_left (with_ahead c.loop-i.ahead (days_left c.loop-i.days)) (omega (arith, c.loop-i.invariant.climbed.left_count, c.loop-i-test.false)) in
    climbed_all c.loop-i.invariant.climbed (ap days_of none) ∙ sym (written_front _ _)
