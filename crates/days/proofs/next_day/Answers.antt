-- A line feed ends the line that begins there, or none does.
-- Assumes nothing.
use Rattle.std.specs.Prelude.{◌≡◌, ◌+◌, length, Err}
use Rattle.std.specs.Result.{MatchResult, IsOkAnd}
use Rattle.std.proofs.Common.{sym, ap, ◌∙◌, arith, rules, length-drop}
use Rattle.days.specs.Places.{found_at}
use Rattle.days.proofs.Nexts.{to_end, next_none, next_cut, next_whole, mapped}
use Rattle.days.proofs.next_day.Goals as goal

pub returns-then-s-at : goal.returns-then-s-at
returns-then-s-at c = next_none c.args.long c.args.s.now c.args.at c.if-s-at.true

pub returns-in_default : goal.returns-in_default
returns-in_default c =
    let a = c.args in
    next_cut a.long a.s.now a.at _ (to_end a.s.now a.at) (omega (arith, ap length (to_end a.s.now a.at), length-drop a.at a.s.now)) (sym c.first_at.ensures ∙ search rules)

pub returns : goal.returns
returns c =
    let a = c.args in
    let e = next_whole a.long a.s.now a.at _ (to_end a.s.now a.at) c.in-Some.end (sym c.first_at.ensures ∙ c.in-Some.is) in
    let m : MatchResult c.read_day.result (λ x. IsOkAnd c.map.result (λ y. y ≡ record { day = x; next = a.at + c.in-Some.end + 1 })) (λ e'. c.map.result ≡ Err e') = search rules in
    mapped (a.at + c.in-Some.end + 1) c.read_day.result c.map.result m ∙ ap (found_at (a.at + c.in-Some.end + 1)) c.read_day.ensures ∙ e
