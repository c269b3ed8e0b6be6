-- `trades::next_trade` meets its contract: the field that stands there is the first of the book's fields from there on.
-- Assumes nothing.
use Prim.Native.Nat.{ℕ, ◌-◌, ◌≤◌}
use mathlib.Core.Path.{◌≡◌, sym, ◌∙◌}
use mathlib.Core.List.{List}
use mathlib.Core.Bool.{true, cond, ◌||◌}
use lib.ListN.{length, take, drop}
use Rattle.rules.specs.Text.{is}
use Rattle.rules.specs.Opening.{opening_of}
use Rattle.rules.specs.Fields.{fields_of}
use Rattle.fields.specs.Laws.{Stands, stands}
use Rattle.trades.specs.declared.Next.TheVariants.{End}
use Rattle.trades.specs.Walk.{next_of, next_from}
use Rattle.figures.specs.Good.{good}
use Rattle.trades.proofs.Onward.{next_short, next_found, found_good}
use borrow.Author.Rules.{rules}
use Rattle.trades.proofs.next_trade.Statement.{statement}
use Rattle.trades.proofs.next_trade.Tie as tie

-- the field that was found
module _ (c : tie.In-Field) where
  abbrev start_of : tie.Start
  start_of = c.before.before.before

  abbrev book : List ℕ
  book = start_of.args.book.now

  abbrev tag : ℕ
  tag = c.in-Field.tag

  abbrev start : ℕ
  start = c.in-Field.start

  abbrev end : ℕ
  end = c.in-Field.end

  there : Stands book start_of.args.at tag start end
  there = stands book start_of.args.at _ _ _ (sym c.field_at.ensures ∙ c.in-Field.is)

  order : start ≤ end
  order = there.order

  inside : end ≤ length book
  inside = there.inside

  turned : next_from start_of.args.at (fields_of (drop start_of.args.at book)) ≡ cond (is "B" tag || is "A" tag) (next_of (opening_of (is "B" tag) (take (end - start) (drop start book))) end) End
  turned = next_found book start_of.args.at tag start end there

field-at-requires : tie.Need-field_at-requires
field-at-requires c κs = search rules

enum-known-tag : tie.Need-enum_known-tag
enum-known-tag c = search rules

enum_told : tie.Need-enum_told-1
enum_told c = search rules

returns : tie.Need-returns-in_default
returns c = let f = c in let a = f.args in sym (next_short a.at (fields_of (drop a.at a.book.now)) (sym f.field_at.ensures ∙ c.in_default.is))

is-trade-requires : tie.Need-is_trade-requires
is-trade-requires c κs = search rules

returns-2 : tie.Need-returns-then-not-is_trade
returns-2 c = let t = c in simp (turned c.before.before, sym t.is_trade.ensures ∙ c.if-not-is_trade.true)

-- what stands there was read before
module _ (c : tie.After-is_trade) (h : c.is_trade.result ≡ true) where
  abbrev found : tie.In-Field
  found = c.before

  a_trade : (is "B" (tag found) || is "A" (tag found)) ≡ true
  a_trade = sym c.is_trade.ensures ∙ h

  is-good : good (opening_of (is "B" (tag found)) (take (end found - start found) (drop (start found) (book found)))) ≡ true
  is-good = found_good (book found) (start_of found).args.at (tag found) (start found) (end found) (there found) (start_of found).requires a_trade

sub-read-again : tie.Need-slice_bounds-read_again-count
sub-read-again c = order c.before.before

part-read-again-start : tie.Need-slice_bounds-read_again-start
part-read-again-start c = let k = c in let l = order c.before.before in let m = inside c.before.before in search rules

part-read-again-end : tie.Need-slice_bounds-read_again-end
part-read-again-end c = let k = c in let l = order c.before.before in let m = inside c.before.before in search rules

read-again-requires : tie.Need-read_again-trade-requires
read-again-requires c κs = let o = c in is-good c.before.before o.if-not-is_trade.false

returns-3 : tie.Need-returns
returns-3 c =
    let o = c in
    let t = o in
    simp (turned c.before.before.before.before, a_trade c.before.before.before o.if-not-is_trade.false, c.read_again-trade.ensures.1)

pub next_trade_spec : {M : Type 1} → statement M
next_trade_spec =
    tie.close
    (tie.spec
    field-at-requires
    enum-known-tag
    enum_told
    returns
    is-trade-requires
    returns-2
    sub-read-again
    part-read-again-start
    part-read-again-end
    read-again-requires
    returns-3)
