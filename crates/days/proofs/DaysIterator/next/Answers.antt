-- The first of what is left is what begins at the place.
-- Assumes nothing.
use Rattle.std.specs.Prelude.{◌≡◌, ◌+◌, cond, length}
use Rattle.std.proofs.Common.{sym, ap, ◌∙◌, arith, rules, length-drop}
use Rattle.days.proofs.Nexts.{to_end, next_none, next_cut, next_whole, left_none, left_refused, left_line}
use Rattle.days.specs.declared.refusal.ListRule.TheVariants.{NoDay}
use Rattle.std.specs.Result.{is_ok}
use Rattle.days.proofs.DaysIterator.next.Goals as goal
use Rattle.days.proofs.DaysIterator.next.Goals.{then-is_ok, else-is_ok}

pub returns-then-list-at-clause-steps : goal.returns-then-list-at-clause-steps
returns-then-list-at-clause-steps c =
    let d = c.args.self.now in
    let e = left_none d.long d.list.now d.at (sym (next_none d.long d.list.now d.at c.if-list-at.true)) in
    (e, e)

pub returns-in_default-clause-steps : goal.returns-in_default-clause-steps
returns-in_default-clause-steps c =
    let d = c.args.self.now in
    let s = d.list.now in
    let rest = to_end s d.at in
    left_refused d.long s d.at NoDay
    (sym (next_cut d.long s d.at _ rest (omega (arith, ap length rest, length-drop d.at s)) (sym c.first_at.ensures ∙ search rules)))

pub returns-in_default-clause-goes : goal.returns-in_default-clause-goes
returns-in_default-clause-goes c =
    let e = returns-in_default-clause-steps c in
    record { on = λ h. (tt, tt, omega (arith, ap length e)); keeps = tt; rests = λ h. tt }

pub returns-clause-steps : goal.returns-clause-steps
returns-clause-steps c =
    let d = c.args.self.now in
    let s = d.list.now in
    let n = d.at + c.in-Some.end + 1 in
    let e = next_whole d.long s d.at _ (to_end s d.at) c.in-Some.end (sym c.first_at.ensures ∙ c.in-Some.is) in
    let place : c.if-is_ok.self ≡ cond (is_ok c.read_day-day.result) n (length s) =
    elim c.if-is_ok.branch [
      | then-is_ok w ↦ w.self-is ∙ sym (ap (λ b. cond b n (length s)) (sym c.is_ok.ensures.value ∙ w.if-is_ok.true))
      | else-is_ok w ↦ w.self-is ∙ sym (ap (λ b. cond b n (length s)) (sym c.is_ok.ensures.value ∙ w.if-is_ok.false))
    ] in
    left_line d.long s d.at n c.read_day-day.result (rw c.read_day-day.ensures e) c.if-is_ok.self place

pub returns-clause-goes : goal.returns-clause-goes
returns-clause-goes c =
    let e = returns-clause-steps c in
    record { on = λ h. (tt, tt, omega (arith, ap length e)); keeps = tt; rests = λ h. tt }
