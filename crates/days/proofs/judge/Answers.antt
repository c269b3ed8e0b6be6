-- Line feeds, the first line, the days behind it.
-- Assumes nothing.
use Rattle.std.proofs.Common.{sym, ◌∙◌, rules}
use Rattle.std.proofs.lemmas.Result.{err_from_is_err_and}
use Rattle.days.specs.Heads.{head_of_lem}
use Rattle.days.proofs.Judging.{too_many, no_head, list_taken, list_not_taken}
use Rattle.days.proofs.judge.Goals as goal

pub returns-then-total-gt-MOST_FEEDS : goal.returns-then-total-gt-MOST_FEEDS
returns-then-total-gt-MOST_FEEDS c = too_many c.args.long c.args.total c.args.s.now c.if-total-gt-MOST_FEEDS.true

pub returns-in_default : goal.returns-in_default
returns-in_default c = no_head c.args.long c.args.total c.args.s.now c.if-total-gt-MOST_FEEDS.false (sym c.read_head.ensures ∙ search rules)

pub count_days-requires : goal.count_days-requires
count_days-requires c = (head_of_lem c.args.s.now c.in-Some.head.metal c.in-Some.head.start (sym c.read_head.ensures ∙ c.in-Some.is)).inside

pub returns-in_err-count_days : goal.returns-in_err-count_days
returns-in_err-count_days c =
    let p = err_from_is_err_and c.from_residual.result c.from_residual.ensures.1 in
    rw (p.1, p.2) (list_not_taken c.args.long c.args.total c.args.s.now c.if-total-gt-MOST_FEEDS.false c.in-Some.head (sym c.read_head.ensures ∙ c.in-Some.is) _ (sym c.count_days.ensures ∙ c.in_err-count_days.was))

pub returns : goal.returns
returns c =
    let t = list_taken c.args.long c.args.total c.args.s.now c.if-total-gt-MOST_FEEDS.false c.in-Some.head (sym c.read_head.ensures ∙ c.in-Some.is) _ (sym c.count_days.ensures ∙ c.in_ok-count_days.was) in
    let h = head_of_lem c.args.s.now c.in-Some.head.metal c.in-Some.head.start (sym c.read_head.ensures ∙ c.in-Some.is) in
    (t.0, t.1, t.2, rw h.place, h.place)
