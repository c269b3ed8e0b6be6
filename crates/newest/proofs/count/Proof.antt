-- `newest::count` meets its contract: the buckets hold the lots of the trades passed, and the rest is still to be counted.
-- Assumes nothing.
use Prim.Native.Nat.{ℕ, ◌+◌, ◌-◌, ◌≤◌}
use mathlib.Core.Path.{◌≡◌, sym, ap, ◌∙◌}
use mathlib.Core.List.{[]}
use mathlib.Core.Bool.{cond}
use native.Mathlib.Omega.{arith}
use borrow.Author.Rules.{rules}
use lib.ListN.{length}
use lib.Dec.{leb}
use Rattle.rules.specs.declared.Trade.{Trade}
use Rattle.trades.proofs.Sizes.{lots_on_most}
use Rattle.trades.specs.declared.Next.TheVariants.{At, End}
use Rattle.trades.specs.Walk.{trades_at, Readable, Read}
use Rattle.trades.proofs.Onward.{next_tells}
use Rattle.newest.specs.Search.{from_in, Counting}
use Rattle.newest.proofs.Counting.{counting_none, counting_more, counting_done, from_read, from_none}
use Rattle.newest.proofs.count.Statement.{statement}
use Rattle.newest.proofs.count.Tie as tie

abbrev invariant-loop-trade : tie.invariant-loop-trade
invariant-loop-trade book long first low width b₀ at₀ b at =
    (first ≤ at) × (at - first ≤ 60000) × Readable book at × Counting (from_in long book first) (from_in long book at) low width (at - first) b

abbrev decreases-loop-trade : tie.decreases-loop-trade
decreases-loop-trade book long first low width b₀ at₀ b at = length book - at

-- the trade of a turn
module _ (k : tie.In-At invariant-loop-trade decreases-loop-trade) where
  abbrev at-loop : tie.At-loop-trade invariant-loop-trade decreases-loop-trade
  at-loop = k.before.before

  abbrev start : tie.Start invariant-loop-trade decreases-loop-trade
  start = at-loop.before.before

  abbrev trade : Trade
  trade = k.in-At.trade

  abbrev end : ℕ
  end = k.in-At.end

  tells : Read start.args.book.now at-loop.loop-trade.at trade end
  tells = next_tells start.args.book.now at-loop.loop-trade.at (At trade end) (sym k.in-At.is ∙ k.next_trade.ensures)

-- its bucket
module _ (c : tie.After-bucket_of-k invariant-loop-trade decreases-loop-trade) where
  abbrev told : tie.In-At invariant-loop-trade decreases-loop-trade
  told = c.before.before

  few : c.lots_on-n.result ≤ 1000000
  few = omega (arith, c.lots_on-n.ensures, lots_on_most (start told).args.long (trade told), (tells told).lots_most)

loop-holds : tie.Need-loop-trade-init invariant-loop-trade decreases-loop-trade
loop-holds c = let a = c.args in (omega arith, omega arith, c.requires.1.1, counting_none (from_in a.long a.book.now a.first) a.low a.width (a.first - a.first))

next-trade-requires : tie.Need-next_trade-requires invariant-loop-trade decreases-loop-trade
next-trade-requires c κs = c.loop-trade.invariant.2

enum-known-trade : tie.Need-enum_known-trade invariant-loop-trade decreases-loop-trade
enum-known-trade c = search rules

enum_told : tie.Need-enum_told-1 invariant-loop-trade decreases-loop-trade
enum_told c = search rules

returns : tie.Need-returns-in_default invariant-loop-trade decreases-loop-trade
returns c =
    let n = c in
    let l = n.loop-trade in
    let a = n.args in
    let none : trades_at a.book.now l.at ≡ [] = next_tells a.book.now l.at End (sym c.in_default.is ∙ n.next_trade.ensures) in
    counting_done (from_in a.long a.book.now a.first) a.low a.width (from_in a.long a.book.now l.at) (l.at - a.first) l.b
    (from_none a.long a.book.now l.at none) l.invariant.3

lots-on-requires : tie.Need-lots_on-n-requires invariant-loop-trade decreases-loop-trade
lots-on-requires c κs = search rules

bucket-of-requires : tie.Need-bucket_of-k-requires invariant-loop-trade decreases-loop-trade
bucket-of-requires c κs = search rules

mul-b : tie.Need-offset_bounds-b-k invariant-loop-trade decreases-loop-trade
mul-b c = search rules

array-read-b : tie.Need-bounds-b-k invariant-loop-trade decreases-loop-trade
array-read-b c = search rules

add-b : tie.Need-overflow_add-b invariant-loop-trade decreases-loop-trade
add-b c = let l = (at-loop (told c)).loop-trade in omega (arith, few c, l.invariant.1, l.invariant.3.small c.bucket_of-k.result)

array-write-b : tie.Need-bounds-b-k-in-loop-trade invariant-loop-trade decreases-loop-trade
array-write-b c = search rules

loop-less : tie.Need-loop-trade-smaller invariant-loop-trade decreases-loop-trade
loop-less c = let t = told c in omega (arith, (tells t).on, (tells t).inside)

loop-again : tie.Need-loop-trade-preserved invariant-loop-trade decreases-loop-trade
loop-again c =
    let t = told c in
    let l = (at-loop t).loop-trade in
    let a = (start t).args in
    let lots = c.lots_on-n in
    let stamp = (trade t).stamp.0 in
    let rest : (e : ℕ) → from_in a.long a.book.now l.at e ≡ cond (leb e stamp) lots.result 0 + from_in a.long a.book.now (end t) e =
    λ e. from_read a.long a.book.now l.at (end t) (trade t) (tells t).list e
    ∙ ap (λ (n : ℕ). cond (leb e stamp) n 0 + from_in a.long a.book.now (end t) e) (sym lots.ensures) in (
      omega (arith, (tells t).on, l.invariant.0),
      omega (arith, (tells t).inside, (start t).requires.0),
      (tells t).readable l.invariant.2,
      counting_more (from_in a.long a.book.now a.first) a.low a.width (from_in a.long a.book.now l.at) (from_in a.long a.book.now (end t))
          (l.at - a.first) (end t - a.first) stamp lots.result c.bucket_of-k.result l.b (start t).requires.1.0 rest (few c)
          (omega (arith, (tells t).on, l.invariant.0)) c.bucket_of-k.ensures.0 c.bucket_of-k.ensures.1 l.invariant.3,
    )

pub count_spec : {M : Type 1} → statement M
count_spec =
    tie.close
    (tie.spec
    invariant-loop-trade
    decreases-loop-trade
    loop-holds
    next-trade-requires
    enum-known-trade
    enum_told
    returns
    lots-on-requires
    bucket-of-requires
    mul-b
    array-read-b
    add-b
    array-write-b
    loop-less
    loop-again)
