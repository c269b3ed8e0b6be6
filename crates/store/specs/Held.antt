-- Trades on one side in a store, by place: stamps, lots and prices in an array each; and what is told of them.
-- Assumes nothing.
use Rattle.std.specs.Prelude.{ℕ, zero, suc, ◌+◌, ◌-◌, ◌*◌, ◌≤◌, ◌<◌, min, ◌≡◌, Bool, cond, List, [], ◌∷◌, map, leb, length, get_or, ℤ, nat_abs}
use Rattle.rules.specs.declared.Fen.{Fen}
use Rattle.rules.specs.declared.Trade.{Trade}
use Rattle.rules.specs.Figures.{fen}
use Rattle.rules.specs.Standing.{gain_of}
use Rattle.laws.specs.Sums.{up_to}
use Rattle.laws.specs.Gains.{lots_on}
use Rattle.order.specs.Order.{lots_from}
use Rattle.order.specs.Newer.{by_place_of}
use Rattle.order.specs.Some.{with_lots}
use Rattle.trades.specs.Walk.{trades_at, newest_in}
use Rattle.store.specs.declared.Stored.{Stored}
use Rattle.store.specs.declared.Stored.TheVariants.{Gain, TooMany}

abbrev pub at : List ℕ → ℕ → ℕ
at l i = get_or l i 0

-- n places from one on
abbrev pub places : ℕ → ℕ → List ℕ
places i zero = []
places i (suc n) = i ∷ places (i + 1) n

-- the first stamp that is newer than one: at later places that stamp itself, at those before the next
abbrev pub since : ℕ → Bool → ℕ
since stamp behind = cond behind stamp (stamp + 1)

-- the lots of stamp e or later at the places from `start` on and before `end`
unfoldable pub newer_lots : List ℕ → List ℕ → ℕ → ℕ → ℕ → ℕ
newer_lots stamps lots start end e = lots_from (at stamps) (at lots) e (places start (end - start))

-- the lots newer than the trade at a place
abbrev pub newer_at : List ℕ → List ℕ → ℕ → ℕ → ℕ
newer_at stamps lots count i = newer_lots stamps lots 0 i (at stamps i + 1) + newer_lots stamps lots (i + 1) count (at stamps i)

abbrev pub gain_at : Bool → Fen → List ℕ → ℕ → ℕ → ℤ
gain_at long s prices i n = gain_of long s (fen (at prices i)) n

-- the gain of the newest lots in the store, as a sum by place
abbrev pub gain_held : Bool → Fen → ℕ → List ℕ → List ℕ → List ℕ → ℕ → ℤ
gain_held long s need stamps lots prices count = by_place_of (at stamps) (at lots) (gain_at long s prices) need (λ e. 0) (places 0 count)

-- so many places have lots of the range that is read
pub record Few (lots : List ℕ) (count : ℕ) : Type 0 where
  pub few : count ≤ 128
  pub most : (i : ℕ) → i < count → at lots i ≤ 1_000_000

pub record Priced (s : Fen) (lots prices : List ℕ) (count : ℕ) : Type 0 where
  pub settlement : s.0 ≤ 9_999_999
  pub held : Few lots count
  pub priced : (i : ℕ) → i < count → at prices i ≤ 9_999_999

-- a gain, and its size
pub record Is (r gain : ℤ) : Type 0 where
  pub exact : r ≡ gain
  pub size : nat_abs r ≤ 9_999_999 * (128 * 1_000_000)

-- the trades with lots on a side, of those in the book from a place on
abbrev pub on_side_in : Bool → List ℕ → ℕ → List Trade
on_side_in long book first = with_lots (lots_on long) (trades_at book first)

-- a trade as it stands in the store
abbrev pub held_at : Bool → List ℕ → List ℕ → List ℕ → ℕ → Trade
held_at long stamps lots prices i = record { bought = long; price = fen (at prices i); lots = record { 0 = at lots i }; stamp = record { 0 = at stamps i } }

-- what arrays are given
pub record Sizes (stamps lots prices : List ℕ) : Type 0 where
  pub stamps_size : length stamps ≡ 128
  pub lots_size : length lots ≡ 128
  pub prices_size : length prices ≡ 128

-- the first places hold these trades
pub record Holds (long : Bool) (ts : List Trade) (count : ℕ) (stamps lots prices : List ℕ) : Type 0 where
  pub same : map (held_at long stamps lots prices) (up_to count) ≡ ts
  pub few : Few lots count
  pub priced : (i : ℕ) → i < count → at prices i ≤ 9_999_999

-- all those on the side, where there is room
pub record Filled (long : Bool) (book : List ℕ) (first count : ℕ) (stamps lots prices : List ℕ) : Type 0 where
  pub many : count ≡ min 129 (length (on_side_in long book first))
  pub holds : count ≤ 128 → Holds long (on_side_in long book first) count stamps lots prices

-- the same, where at most 128 trades have lots on the side
abbrev pub stored_in : Bool → Fen → ℕ → List ℕ → ℕ → Stored
stored_in long s need book first = cond (leb (length (on_side_in long book first)) 128) (Gain (newest_in long s need book first)) TooMany
