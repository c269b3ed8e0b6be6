-- `trades::oldest_gain` meets its contract: the gain so far, and that of what is left to skip from the place on, make the whole.
-- Assumes nothing.
use borrow.Author.Rules.{rules}
use Prim.Native.Nat.{ℕ, ◌+◌, ◌-◌, ◌*◌, ◌≤◌, min}
use native.Mathlib.Omega.{arith}
use mathlib.Core.Path.{◌≡◌, sym, ap, ◌∙◌}
use mathlib.Core.List.{[]}
use lib.ListN.{length}
use lib.IntN.{ℤ, nat_abs, ◌+ℤ◌, +ℤ_assoc, +ℤ_idl, +ℤ_idr}
use mir.Val.{to_z}
use mir.Syntax.{w64}
use Rattle.rules.specs.declared.Trade.{Trade}
use Rattle.laws.specs.Gains.{lots_on}
use Rattle.trades.specs.declared.Next.TheVariants.{At, End}
use Rattle.trades.specs.Walk.{trades_at, Readable, oldest_of, Read}
use Rattle.trades.proofs.Onward.{next_tells}
use Rattle.trades.proofs.Oldest.{oldest_zero}
use Rattle.trades.proofs.Sizes.{lots_on_most, sum_fits, sum_is, sum_size}
use Rattle.trades.proofs.oldest_gain.Statement.{statement}
use Rattle.trades.proofs.oldest_gain.Tie as tie

abbrev invariant-loop-left : tie.invariant-loop-left
invariant-loop-left book settlement long first skip at₀ left₀ gain₀ at left gain =
    (left ≤ skip) × (skip - left ≤ at * 1000000) × (nat_abs (to_z w64 gain) ≤ 9999999 * (skip - left)) × Readable book at
    × (oldest_of long settlement skip (trades_at book first) ≡ to_z w64 gain +ℤ oldest_of long settlement left (trades_at book at))

abbrev decreases-loop-left : tie.decreases-loop-left
decreases-loop-left book settlement long first skip at₀ left₀ gain₀ at left gain = length book - at

-- the trade of a turn
module _ (k : tie.In-At invariant-loop-left decreases-loop-left) where
  abbrev at-loop : tie.At-loop-left invariant-loop-left decreases-loop-left
  at-loop = k.before.before.before

  abbrev start : tie.Start invariant-loop-left decreases-loop-left
  start = at-loop.before.before

  abbrev trade : Trade
  trade = k.in-At.trade

  abbrev end : ℕ
  end = k.in-At.end

  tells : Read start.args.book.now at-loop.loop-left.at trade end
  tells = next_tells start.args.book.now at-loop.loop-left.at (At trade end) (sym k.in-At.is ∙ k.next_trade.ensures)

-- its lots that are skipped
module _ (c : tie.After-lesser-n invariant-loop-left decreases-loop-left) where
  abbrev told : tie.In-At invariant-loop-left decreases-loop-left
  told = c.before.before

  -- the lots skipped before
  abbrev passed : ℕ
  passed = (start told).args.skip - (at-loop told).loop-left.left

  part : c.lesser-n.result ≡ min (lots_on (start told).args.long (trade told)) (at-loop told).loop-left.left
  part = c.lesser-n.ensures ∙ ap (λ (n : ℕ). min n (at-loop told).loop-left.left) c.lots_on.ensures

  few : (c.lesser-n.result ≤ 1000000) × (c.lesser-n.result ≤ (at-loop told).loop-left.left)
  few = (omega (arith, part, lots_on_most (start told).args.long (trade told), (tells told).lots_most), omega (arith, part))

  bounded : passed + c.lesser-n.result ≤ 68719476736
  bounded = omega (arith, few.0, (tells told).on, (tells told).inside, (start told).requires.0, (at-loop told).loop-left.invariant.1)

loop-holds : tie.Need-loop-left-init invariant-loop-left decreases-loop-left
loop-holds c =
    let a = c.args in
    (omega arith, omega arith, omega arith, c.requires.1.1, sym (+ℤ_idl (oldest_of a.long a.settlement a.skip (trades_at a.book.now a.first))))

next-trade-requires : tie.Need-next_trade-requires invariant-loop-left decreases-loop-left
next-trade-requires c κs = c.loop-left.invariant.3

enum-known-trade : tie.Need-enum_known-trade invariant-loop-left decreases-loop-left
enum-known-trade c = search rules

enum_told : tie.Need-enum_told-1 invariant-loop-left decreases-loop-left
enum_told c = search rules

returns : tie.Need-returns-in_default invariant-loop-left decreases-loop-left
returns c =
    let n = c in
    let l = n.loop-left in
    let a = n.args in
    let none : trades_at a.book.now l.at ≡ [] = next_tells a.book.now l.at End (sym c.in_default.is ∙ n.next_trade.ensures) in
    sym (l.invariant.4 ∙ rw none (+ℤ_idr (to_z w64 l.gain-bits)))

lots-on-requires : tie.Need-lots_on-requires invariant-loop-left decreases-loop-left
lots-on-requires c κs = search rules

lesser-requires : tie.Need-lesser-n-requires invariant-loop-left decreases-loop-left
lesser-requires c κs = search rules

gain-of-requires : tie.Need-gain_of-gain-requires invariant-loop-left decreases-loop-left
gain-of-requires c κs = record { settlement = (start (told c.before)).requires.1.0; price = (tells (told c.before)).price_most; lots = omega (arith, (few c.before).0) }

add-gain : tie.Need-overflow_add-gain invariant-loop-left decreases-loop-left
add-gain c =
    let k = c in
    let l = (at-loop (told c.before.before)).loop-left in
    sum_fits l.gain-bits c.gain_of-gain.result (passed c.before.before) k.lesser-n.result l.invariant.2 c.gain_of-gain.ensures.size (bounded c.before.before)

sub-left : tie.Need-overflow_sub-left invariant-loop-left decreases-loop-left
sub-left c = (few c.before.before).1

loop-less : tie.Need-loop-left-smaller invariant-loop-left decreases-loop-left
loop-less c = let t = told c.before.before in omega (arith, (tells t).on, (tells t).inside)

loop-again : tie.Need-loop-left-preserved invariant-loop-left decreases-loop-left
loop-again c =
    let k = c in
    let t = told c.before.before in
    let l = (at-loop t).loop-left in
    let a = (start t).args in
    let n = k.lesser-n.result in
    let size = sum_size l.gain-bits c.gain_of-gain.result (passed c.before.before) n l.invariant.2 c.gain_of-gain.ensures.size (bounded c.before.before) in
    let e = sum_is l.gain-bits c.gain_of-gain.result (passed c.before.before) n l.invariant.2 c.gain_of-gain.ensures.size (bounded c.before.before) in
    let m : a.skip - (l.left - n) ≡ passed c.before.before + n = omega (arith, (few c.before.before).1, l.invariant.0) in
    let rest = trades_at a.book.now (end t) in (
      omega (arith, l.invariant.0),
      omega (arith, (few c.before.before).0, (tells t).on, l.invariant.1),
      rw m size,
      (tells t).readable l.invariant.3,
      l.invariant.4 ∙ rw ((tells t).list, ← part c.before.before)
          (sym (+ℤ_assoc (to_z w64 l.gain-bits) _ _)
          ∙ ap (λ (z : ℤ). z +ℤ oldest_of a.long a.settlement (l.left - n) rest)
          (sym (e ∙ ap (λ (z : ℤ). to_z w64 l.gain-bits +ℤ z) c.gain_of-gain.ensures.exact))),
    )

returns-2 : tie.Need-returns invariant-loop-left decreases-loop-left
returns-2 c =
    let l = c.loop-left in
    let a = c.args in
    let z : l.left ≡ 0 = omega (arith, c.loop-left-test.false) in
    let ts = trades_at a.book.now l.at in
    sym (l.invariant.4 ∙ ap (λ (n : ℕ). to_z w64 l.gain-bits +ℤ oldest_of a.long a.settlement n ts) z
    ∙ ap (λ (x : ℤ). to_z w64 l.gain-bits +ℤ x) (oldest_zero a.long a.settlement ts) ∙ +ℤ_idr (to_z w64 l.gain-bits))

pub oldest_gain_spec : {M : Type 1} → statement M
oldest_gain_spec =
    tie.close
    (tie.spec
    invariant-loop-left
    decreases-loop-left
    loop-holds
    next-trade-requires
    enum-known-trade
    enum_told
    returns
    lots-on-requires
    lesser-requires
    gain-of-requires
    add-gain
    sub-left
    loop-less
    loop-again
    returns-2)
