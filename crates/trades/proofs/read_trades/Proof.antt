-- `trades::read_trades` meets its contract. The loop's invariant: what is still to be read, with the lots and the gain so far, makes the whole;
-- the lots are at most 1,000,000 for each byte passed, and the gain at most the highest price for each lot.
-- Assumes nothing.
use borrow.Author.Rules.{rules}
use borrow.Author.Tests.{eq-eqb, ne_eqb}
use Prim.Native.Nat.{ℕ, ◌+◌, ◌-◌, ◌*◌, ◌≤◌}
use native.Mathlib.Omega.{arith}
use mathlib.Core.Path.{◌≡◌, refl, sym, ap, ◌∙◌}
use mathlib.Core.List.{List}
use mathlib.Core.Bool.{cond, ◌||◌}
use lib.ListN.{length, take, drop}
use lib.Dec.{eqb}
use lib.IntN.{ℤ, pos, nat_abs, ◌+ℤ◌}
use mir.Val.{to_z}
use mir.Syntax.{w64}
use Rattle.rules.specs.declared.Trade.{Trade}
use Rattle.rules.specs.declared.Opening.TheVariants.{Made}
use Rattle.rules.specs.Refusal as refusal
use Rattle.rules.specs.Text.{is}
use Rattle.rules.specs.Opening.{opening_of}
use Rattle.rules.specs.Fields.{fields_of}
use Rattle.rules.specs.Book.{astray}
use Rattle.rules.specs.Standing.{gain_of}
use Rattle.laws.specs.Figures.{OpeningWithin, opening_within}
use Rattle.laws.specs.Gains.{lots_on}
use Rattle.fields.specs.Laws.{Stands, stands}
use Rattle.fields.specs.Reading.{refused_at}
use Rattle.trades.specs.declared.TradesAt.TheVariants.{Closed, Refused}
use Rattle.trades.specs.Trades.{opening, none_yet, order_after, trades_from}
use Rattle.trades.proofs.Found.{trades_short, trades_found}
use Rattle.trades.proofs.Sizes.{lots_on_most, sum_fits, sum_is, sum_size}
use Rattle.trades.proofs.read_trades.Statement.{statement}
use Rattle.trades.proofs.read_trades.Tie as tie

abbrev invariant-loop-tag : tie.invariant-loop-tag
invariant-loop-tag book decimals settlement long first at₀ opened₀ gain₀ order₀ at opened gain order =
    (opened ≤ at * 1000000) × (nat_abs (to_z w64 gain) ≤ 9999999 * opened)
    × (trades_from decimals long settlement first 0 (pos 0) none_yet (fields_of (drop first book)) ≡ trades_from decimals long settlement at opened (to_z w64 gain) order (fields_of (drop at book)))

abbrev decreases-loop-tag : tie.decreases-loop-tag
decreases-loop-tag book decimals settlement long first at₀ opened₀ gain₀ order₀ at opened gain order = length book - at

-- the field of a turn
module _ (c : tie.In-Field invariant-loop-tag decreases-loop-tag) where
  abbrev at-loop : tie.At-loop-tag invariant-loop-tag decreases-loop-tag
  at-loop = c.before.before

  abbrev start_of : tie.Start invariant-loop-tag decreases-loop-tag
  start_of = at-loop.before.before

  abbrev book : List ℕ
  book = start_of.args.book.now

  abbrev tag : ℕ
  tag = c.in-Field.tag

  abbrev start : ℕ
  start = c.in-Field.start

  abbrev end : ℕ
  end = c.in-Field.end

  there : Stands book at-loop.loop-tag.at tag start end
  there = stands book at-loop.loop-tag.at _ _ _ (sym c.field_at.ensures ∙ c.in-Field.is)

  order : start ≤ end
  order = there.order

  inside : end ≤ length book
  inside = there.inside

  -- what is still to be read begins with it
  turned :
      let a = start_of.args in
      let l = at-loop.loop-tag in
      let gain = to_z w64 l.gain-bits in
      trades_from a.decimals a.long a.settlement a.first 0 (pos 0) none_yet (fields_of (drop a.first book))
      ≡ cond (is "C" tag || is "Z" tag) (Closed l.at l.opened gain l.order.kept)
      (cond (is "B" tag || is "A" tag)
      (opening a.decimals a.settlement l.at (opening_of (is "B" tag) (take (end - start) (drop start book))) λ x.
      trades_from a.decimals a.long a.settlement end (l.opened + lots_on a.long x) (gain +ℤ gain_of a.long a.settlement x.price (lots_on a.long x)) (order_after a.long l.order x) (fields_of (drop end book)))
      (Refused (refused_at refusal.misplaced l.at)))
  turned =
      let a = start_of.args in
      let l = at-loop.loop-tag in
      l.invariant.2 ∙ trades_found book l.at tag start end there a.decimals a.long a.settlement l.opened (to_z w64 l.gain-bits) l.order

  -- the book is short enough for the sums
  short : end ≤ 60000
  short = omega (arith, there.inside, start_of.requires.0)

-- a trade that was read
module _ (c : tie.In-Made invariant-loop-tag decreases-loop-tag) where
  abbrev opening_read : tie.After-read_opening invariant-loop-tag decreases-loop-tag
  opening_read = c.before

  abbrev field_of_lem : tie.In-Field invariant-loop-tag decreases-loop-tag
  field_of_lem = opening_read.before.before.before.before.before.before

  abbrev made_of : Trade
  made_of = c.in-Made.t

  -- the decimals of its price
  abbrev written : ℕ
  written = c.in-Made.written

  was-made : opening_of (is "B" (tag field_of_lem)) (take (end field_of_lem - start field_of_lem) (drop (start field_of_lem) (book field_of_lem))) ≡ Made made_of written
  was-made = sym opening_read.read_opening.ensures ∙ c.in-Made.is

  range : OpeningWithin (is "B" (tag field_of_lem)) made_of
  range = opening_within (is "B" (tag field_of_lem)) _ made_of written was-made

  -- it is judged by them and by its price, and the reading goes on from its end
  judged :
      let a = (start_of field_of_lem).args in
      let l = (at-loop field_of_lem).loop-tag in
      let n = lots_on a.long made_of in
      trades_from a.decimals a.long a.settlement a.first 0 (pos 0) none_yet (fields_of (drop a.first (book field_of_lem)))
      ≡ cond (eqb written a.decimals)
      (cond (astray a.settlement made_of.price) (Refused (refused_at refusal.astray l.at))
      (trades_from a.decimals a.long a.settlement (end field_of_lem) (l.opened + n) (to_z w64 l.gain-bits +ℤ gain_of a.long a.settlement made_of.price n) (order_after a.long l.order made_of) (fields_of (drop (end field_of_lem) (book field_of_lem)))))
      (Refused (refused_at refusal.malformed l.at))
  judged =
      let o = opening_read.before.before in
      let t = o.before in
      simp (turned field_of_lem, sym t.is_closing.ensures ∙ t.if-is_closing.false, sym t.is_trade.ensures ∙ o.if-not-is_trade.false, was-made)

-- and counted
module _ (c : tie.After-lots_on-n invariant-loop-tag decreases-loop-tag) where
  abbrev right : tie.In-Made invariant-loop-tag decreases-loop-tag
  right = c.before.before.before.before.before

  abbrev field-read : tie.In-Field invariant-loop-tag decreases-loop-tag
  field-read = field_of_lem right

  abbrev made : Trade
  made = made_of right

  -- it is counted, and the reading goes on from its end
  counts :
      let a = (start_of field-read).args in
      let l = (at-loop field-read).loop-tag in
      let n = c.lots_on-n.result in
      trades_from a.decimals a.long a.settlement a.first 0 (pos 0) none_yet (fields_of (drop a.first (book field-read)))
      ≡ trades_from a.decimals a.long a.settlement (end field-read) (l.opened + n)
      (to_z w64 l.gain-bits +ℤ gain_of a.long a.settlement made.price n)
      (order_after a.long l.order made)
      (fields_of (drop (end field-read) (book field-read)))
  counts =
      let a = (start_of field-read).args in
      let l = (at-loop field-read).loop-tag in
      simp (judged right, eq-eqb (written right) a.decimals c.if-written-decimals.false, sym c.astray.ensures ∙ c.if-astray.false)
      (ap (λ (n : ℕ). trades_from a.decimals a.long a.settlement (end field-read) (l.opened + n) (to_z w64 l.gain-bits +ℤ gain_of a.long a.settlement made.price n) (order_after a.long l.order made) (fields_of (drop (end field-read) (book field-read)))) (sym c.lots_on-n.ensures))

  few : c.lots_on-n.result ≤ 1000000
  few = omega (arith, c.lots_on-n.ensures, lots_on_most (start_of field-read).args.long made, (range right).lots_most)

  bounded : (at-loop field-read).loop-tag.opened + c.lots_on-n.result ≤ 68719476736
  bounded = omega (arith, few, short field-read, (there field-read).begins, (there field-read).order, (at-loop field-read).loop-tag.invariant.0)

loop-holds : tie.Need-loop-tag-init invariant-loop-tag decreases-loop-tag
loop-holds c = (omega arith, omega arith, refl)

field-at-requires : tie.Need-field_at-requires invariant-loop-tag decreases-loop-tag
field-at-requires c κs = search rules

enum-known-tag : tie.Need-enum_known-tag invariant-loop-tag decreases-loop-tag
enum-known-tag c = search rules

enum_told : tie.Need-enum_told-1 invariant-loop-tag decreases-loop-tag
enum_told c = search rules

no-trades-requires : tie.Need-no_trades-requires invariant-loop-tag decreases-loop-tag
no-trades-requires c κs = search rules

returns : tie.Need-returns-in_default invariant-loop-tag decreases-loop-tag
returns c =
    let f = c in
    let l = f.loop-tag in
    let a = f.args in
    c.no_trades.ensures
    ∙ sym (l.invariant.2 ∙ trades_short l.at (fields_of (drop l.at a.book.now)) (sym f.field_at.ensures ∙ c.in_default.is) a.decimals a.long a.settlement l.opened (to_z w64 l.gain-bits) l.order)

is-closing-requires : tie.Need-is_closing-requires invariant-loop-tag decreases-loop-tag
is-closing-requires c κs = search rules

returns-2 : tie.Need-returns-then-is_closing invariant-loop-tag decreases-loop-tag
returns-2 c = let k = c in simp (turned c.before.before, sym k.is_closing.ensures ∙ c.if-is_closing.true)

is-trade-requires : tie.Need-is_trade-requires invariant-loop-tag decreases-loop-tag
is-trade-requires c κs = search rules

no-trades-requires-2 : tie.Need-no_trades-requires-then-not-is_trade invariant-loop-tag decreases-loop-tag
no-trades-requires-2 c κs = search rules

returns-3 : tie.Need-returns-then-not-is_trade invariant-loop-tag decreases-loop-tag
returns-3 c = let t = c in let k = t in c.no_trades-then-not-is_trade.ensures ∙ simp (turned c.before.before.before.before.before, sym k.is_closing.ensures ∙ t.if-is_closing.false, sym t.is_trade.ensures ∙ c.if-not-is_trade.true)

sub-read-opening : tie.Need-slice_bounds-read_opening-count invariant-loop-tag decreases-loop-tag
sub-read-opening c = order c.before.before.before.before

part-read-opening-start : tie.Need-slice_bounds-read_opening-start invariant-loop-tag decreases-loop-tag
part-read-opening-start c = let k = c in let l = order c.before.before.before.before in let m = inside c.before.before.before.before in search rules

part-read-opening-end : tie.Need-slice_bounds-read_opening-end invariant-loop-tag decreases-loop-tag
part-read-opening-end c = let k = c in let l = order c.before.before.before.before in let m = inside c.before.before.before.before in search rules

read-opening-requires : tie.Need-read_opening-requires invariant-loop-tag decreases-loop-tag
read-opening-requires c κs = search rules

enum-known-t : tie.Need-enum_known-t invariant-loop-tag decreases-loop-tag
enum-known-t c = search rules

no-trades-requires-3 : tie.Need-no_trades-requires-then-written-decimals invariant-loop-tag decreases-loop-tag
no-trades-requires-3 c κs = search rules

-- other decimals than X says
returns-4 : tie.Need-returns-then-written-decimals invariant-loop-tag decreases-loop-tag
returns-4 c = let k = c in c.no_trades-then-written-decimals.ensures ∙ simp (judged c.before.before, ne_eqb (written c.before.before) _ c.if-written-decimals.true)

astray-requires : tie.Need-astray-requires invariant-loop-tag decreases-loop-tag
astray-requires c κs = let k = c in ((start_of (field_of_lem c.before.before)).requires.1, (range c.before.before).price_most)

no-trades-requires-4 : tie.Need-no_trades-requires-then-astray invariant-loop-tag decreases-loop-tag
no-trades-requires-4 c κs = search rules

-- a price too far from the settlement price
returns-5 : tie.Need-returns-then-astray invariant-loop-tag decreases-loop-tag
returns-5 c =
    let f = c in
    let k = f in
    c.no_trades-then-astray.ensures ∙ simp (judged c.before.before.before.before.before, eq-eqb (written c.before.before.before.before.before) _ f.if-written-decimals.false, sym f.astray.ensures ∙ c.if-astray.true)

lots-on-requires : tie.Need-lots_on-n-requires invariant-loop-tag decreases-loop-tag
lots-on-requires c κs = search rules

gain-of-requires : tie.Need-gain_of-gain-requires invariant-loop-tag decreases-loop-tag
gain-of-requires c κs = record { settlement = (start_of (field-read c.before)).requires.1; price = (range (right c.before)).price_most; lots = omega (arith, few c.before) }

add-gain : tie.Need-overflow_add-gain invariant-loop-tag decreases-loop-tag
add-gain c =
    let b = c in
    let l = (at-loop (field-read c.before.before)).loop-tag in
    sum_fits l.gain-bits c.gain_of-gain.result l.opened b.lots_on-n.result l.invariant.1 c.gain_of-gain.ensures.size (bounded c.before.before)

add-opened : tie.Need-overflow_add-opened invariant-loop-tag decreases-loop-tag
add-opened c = omega (arith, bounded c.before.before)

order-after-requires : tie.Need-order_after-order-requires invariant-loop-tag decreases-loop-tag
order-after-requires c κs = search rules

enum-told-2 : tie.Need-enum_told-in-Comma invariant-loop-tag decreases-loop-tag
enum-told-2 c = search rules

no-trades-requires-5 : tie.Need-no_trades-requires-in-Comma invariant-loop-tag decreases-loop-tag
no-trades-requires-5 c κs = search rules

-- a value that is no trade
returns-6 : tie.Need-returns-in-Comma invariant-loop-tag decreases-loop-tag
returns-6 c = let o = c in let t = o in let k = t in c.no_trades-in-Comma.ensures ∙ simp (turned c.before.before.before.before.before.before.before.before, sym k.is_closing.ensures ∙ t.if-is_closing.false, sym t.is_trade.ensures ∙ o.if-not-is_trade.false, sym o.read_opening.ensures ∙ c.in-Comma.is)

enum-told-3 : tie.Need-enum_told-in-Malformed invariant-loop-tag decreases-loop-tag
enum-told-3 c = search rules

no-trades-requires-6 : tie.Need-no_trades-requires-in-Malformed invariant-loop-tag decreases-loop-tag
no-trades-requires-6 c κs = search rules

returns-7 : tie.Need-returns-in-Malformed invariant-loop-tag decreases-loop-tag
returns-7 c = let o = c in let t = o in let k = t in c.no_trades-in-Malformed.ensures ∙ simp (turned c.before.before.before.before.before.before.before.before, sym k.is_closing.ensures ∙ t.if-is_closing.false, sym t.is_trade.ensures ∙ o.if-not-is_trade.false, sym o.read_opening.ensures ∙ c.in-Malformed.is)

loop-less : tie.Need-loop-tag-smaller invariant-loop-tag decreases-loop-tag
loop-less c = let k = field-read c.before.before.before in omega (arith, (there k).begins, (there k).order, (there k).inside)

loop-again : tie.Need-loop-tag-preserved invariant-loop-tag decreases-loop-tag
loop-again c =
    let g = c in
    let b = g in
    let k = field-read c.before.before.before in
    let l = (at-loop k).loop-tag in
    let a = (start_of k).args in
    let n = b.lots_on-n.result in
    let e = sum_is l.gain-bits g.gain_of-gain.result l.opened n l.invariant.1 g.gain_of-gain.ensures.size (bounded c.before.before.before) in (
      omega (arith, few c.before.before.before, (there k).begins, (there k).order, l.invariant.0),
      sum_size l.gain-bits g.gain_of-gain.result l.opened n l.invariant.1 g.gain_of-gain.ensures.size (bounded c.before.before.before),
      counts c.before.before.before
          ∙ (λ i. trades_from a.decimals a.long a.settlement (end k) (l.opened + n)
          (sym (e ∙ ap (λ (z : ℤ). to_z w64 l.gain-bits +ℤ z) g.gain_of-gain.ensures.exact) i)
          (sym c.order_after-order.ensures i) (fields_of (drop (end k) (book k)))),
    )

pub read_trades_spec : {M : Type 1} → statement M
read_trades_spec =
    tie.close
    (tie.spec
    invariant-loop-tag
    decreases-loop-tag
    loop-holds
    field-at-requires
    enum-known-tag
    enum_told
    no-trades-requires
    returns
    is-closing-requires
    returns-2
    is-trade-requires
    no-trades-requires-2
    returns-3
    sub-read-opening
    part-read-opening-start
    part-read-opening-end
    read-opening-requires
    enum-known-t
    no-trades-requires-3
    returns-4
    astray-requires
    no-trades-requires-4
    returns-5
    lots-on-requires
    gain-of-requires
    add-gain
    add-opened
    order-after-requires
    enum-told-2
    no-trades-requires-5
    returns-6
    enum-told-3
    no-trades-requires-6
    returns-7
    loop-less
    loop-again)
