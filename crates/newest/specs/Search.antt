-- The search for the edge by buckets, over what gives the lots of a stamp or later: what each step asks and leaves.
-- Assumes nothing.
use Rattle.std.specs.Prelude.{ℕ, ◌+◌, ◌*◌, ◌≤◌, ◌<◌, ◌≡◌, Bool, List, length, get_or, ℤ, nat_abs}
use Rattle.rules.specs.declared.Fen.{Fen}
use Rattle.rules.specs.Division.{sum_of}
use Rattle.laws.specs.Gains.{lots_on}
use Rattle.order.specs.Order.{lots_from}
use Rattle.order.specs.Onward.{kept_onward}
use Rattle.order.specs.Trades.{when}
use Rattle.order.specs.Gains.{gain_in}
use Rattle.trades.specs.Walk.{trades_at}

abbrev pub at : List ℕ → ℕ → ℕ
at l i = get_or l i 0

-- the lots of stamp e or later, of the trades in the book from a place on
unfoldable pub from_in : Bool → List ℕ → ℕ → ℕ → ℕ
from_in long book first e = lots_from when (lots_on long) e (trades_at book first)

-- and all of them
abbrev pub lots_in : Bool → List ℕ → ℕ → ℕ
lots_in long book first = sum_of (lots_on long) (trades_at book first)

-- each bucket's lots are those from its start on, less those from the next one's start on
pub record Counted (from : ℕ → ℕ) (low width : ℕ) (b : List ℕ) : Type 0 where
  pub size : length b ≡ 73
  pub parts : (j : ℕ) → j < 72 → at b j + from (low + (j + 1) * width) ≡ from (low + j * width)

-- the same while a rest is still to be counted
pub record Counting (from rest : ℕ → ℕ) (low width passed : ℕ) (b : List ℕ) : Type 0 where
  pub size : length b ≡ 73
  pub parts : (j : ℕ) → j < 72 →
      at b j + from (low + (j + 1) * width) + rest (low + j * width) ≡ from (low + j * width) + rest (low + (j + 1) * width)
  pub small : (j : ℕ) → at b j ≤ 1_000_000 * passed

-- enough lots are of stamp low or later, `have` of them, and too few of low + width or later
pub record Range (from : ℕ → ℕ) (need low width have : ℕ) : Type 0 where
  pub has : have ≡ from low
  pub enough : need ≤ have
  pub over : from (low + width) < need

-- so many lots are opened, and they cover what is needed
pub record Covered (long : Bool) (book : List ℕ) (first need opened : ℕ) : Type 0 where
  pub has : opened ≡ lots_in long book first
  pub enough : need ≤ opened

-- and some is needed
pub record Sought (long : Bool) (book : List ℕ) (first need opened : ℕ) : Type 0 where
  pub covered : Covered long book first need opened
  pub some : 0 < need

-- what counts by an edge, of the trades in the book from a place on
abbrev pub kept_in : Bool → Fen → ℕ → ℕ → List ℕ → ℕ → ℤ
kept_in long s e skip book first = kept_onward when (lots_on long) (gain_in long s) e skip (trades_at book first)

-- a gain, and its size
pub record Is (r gain : ℤ) : Type 0 where
  pub exact : r ≡ gain
  pub size : nat_abs r ≤ 9_999_999 * (60_000 * 1_000_000)
