-- By its tag a value's points and blanks become other bytes, or nothing does.
use Rattle.std.proofs.Common.{sym, ◌∙◌}
use Rattle.sheets.proofs.Tags.{as_same, value_figure, value_trade, value_carried}
use Rattle.sheets.proofs.shown.put_value.Goals as goal

pub returns-then-figured : goal.returns-then-figured
returns-then-figured c = as_same (value_figure c.args.tag c.args.mark c.args.value.now (sym c.figured.ensures ∙ c.if-figured.true)) c.put_spelt.ensures

pub returns-then-traded : goal.returns-then-traded
returns-then-traded c =
    as_same (value_trade c.args.tag c.args.mark c.args.value.now (sym c.figured.ensures ∙ c.if-figured.false) (sym c.traded.ensures ∙ c.if-traded.true))
    c.put_spelt-then-traded.ensures

pub returns : goal.returns
returns c =
    as_same (value_carried c.args.tag c.args.mark c.args.value.now (sym c.figured.ensures ∙ c.if-figured.false) (sym c.traded.ensures ∙ c.if-traded.false)) c.put_bytes.ensures
