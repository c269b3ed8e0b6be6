-- By the letter: K, H and Q of a seat, or price and lots of a trade.
use Rattle.std.proofs.Common.{sym, ◌∙◌, eq-eqb, ne_eqb}
use Rattle.sheets.proofs.Numbers.{seat_judged, trade_judged, other_judged}
use Rattle.sheets.proofs.sizing.judge_four.Goals as goal

pub returns-then-tag-eq-I : goal.returns-then-tag-eq-I
returns-then-tag-eq-I c =
    seat_judged c.args.mark c.args.sheet.now c.args.at c.args.tag c.args.parts c.requires (eq-eqb _ _ c.if-tag-eq-I.true) c.judge_figures.result c.judge_figures.ensures

pub returns-then-not-traded : goal.returns-then-not-traded
returns-then-not-traded c =
    other_judged c.args.mark c.args.sheet.now c.args.at c.args.tag c.args.parts c.requires (ne_eqb _ _ c.if-tag-eq-I.false) (sym c.traded.ensures ∙ c.if-not-traded.true)

pub returns : goal.returns
returns c =
    trade_judged c.args.mark c.args.sheet.now c.args.at c.args.tag c.args.parts c.requires (ne_eqb _ _ c.if-tag-eq-I.false) (sym c.traded.ensures ∙ c.if-not-traded.false)
    c.judge_figures-2.result c.judge_figures-2.ensures
