-- Bytes that may be open interest are, where they are digits.
-- Assumes nothing.
use Rattle.std.specs.Prelude.{◌≡◌, false, true, get_or}
use Rattle.std.proofs.Common.{sym, ◌∙◌, rules, drop_of_length-le}
use Rattle.std.proofs.lemmas.List.{at_drop_more}
use Rattle.rules.specs.Figures.{is_digit, all_digits_of, number_after}
use Rattle.days.proofs.Interest.{interest_none, interest_other, interest_some}
use Rattle.days.proofs.line.read_interest.Goals as goal

pub returns-then-not-may_be_interest : goal.returns-then-not-may_be_interest
returns-then-not-may_be_interest c = rw (interest_none c.args.v.now (sym c.may_be_interest.ensures ∙ c.if-not-may_be_interest.true))

pub returns-then-not-is_ascii_digit : goal.returns-then-not-is_ascii_digit
returns-then-not-is_ascii_digit c =
    let v = c.args.v.now in
    let h = c.is_ascii_digit in
    let other : is_digit (get_or v c.loop-x.x-index 0) ≡ false = search rules in
    let digits : all_digits_of v ≡ false = c.loop-x.invariant.digits ∙ at_drop_more all_digits_of v c.loop-x.x-index 0 c.loop-x-test.true ∙ rw other in
    rw (interest_other v (sym c.may_be_interest.ensures ∙ c.if-not-may_be_interest.false) digits)

pub returns : goal.returns
returns c =
    let v = c.args.v.now in
    let none = drop_of_length-le v c.loop-x-test.false in
    let digits : all_digits_of v ≡ true = c.loop-x.invariant.digits ∙ rw none in
    let written : number_after 0 v ≡ c.loop-x.number = c.loop-x.invariant.written ∙ rw none in
    rw (interest_some v (sym c.may_be_interest.ensures ∙ c.if-not-may_be_interest.false) digits, written)
