-- The trades that stand in the book from a place on, the first place first, up to the first field that is no trade.
-- Assumes nothing.
use Rattle.std.specs.Prelude.{ℕ, ◌+◌, ◌-◌, ◌≤◌, ◌<◌, min, ◌≡◌, List, [], ◌∷◌, Bool, true, cond, ◌&&◌, ◌||◌, length, drop, ℤ, pos, ◌+ℤ◌}
use Rattle.rules.specs.declared.Fen.{Fen}
use Rattle.rules.specs.declared.Trade.{Trade}
use Rattle.rules.specs.declared.Opening.{Opening}
use Rattle.rules.specs.declared.Opening.TheVariants.{Made, Comma, Malformed}
use Rattle.rules.specs.Text.{is}
use Rattle.rules.specs.Opening.{opening_of}
use Rattle.rules.specs.Fields.{Field, Whole, Cut, fields_of}
use Rattle.rules.specs.Standing.{gain_of, gain_from}
use Rattle.laws.specs.Gains.{lots_on}
use Rattle.order.specs.Order.{in_front, arranged}
use Rattle.order.specs.Trades.{when}
use Rattle.figures.specs.Good.{good}
use Rattle.trades.specs.declared.Next.{Next}
use Rattle.trades.specs.declared.Next.TheVariants.{At, End}

abbrev pub made : Opening → (Trade → List Trade) → List Trade
made (Made t d) k = k t
made Comma k = []
made Malformed k = []

abbrev pub trades_in : List Field → List Trade
trades_in [] = []
trades_in (Cut ∷ fs) = []
trades_in (Whole t v ∷ fs) = cond (is "B" t || is "A" t) (made (opening_of (is "B" t) v) λ x. x ∷ trades_in fs) []

abbrev pub trades_at : List ℕ → ℕ → List Trade
trades_at book at = trades_in (fields_of (drop at book))

-- all of them were read before, so that nothing can be wrong with one
abbrev pub good_in : List Field → Bool
good_in [] = true
good_in (Cut ∷ fs) = true
good_in (Whole t v ∷ fs) = cond (is "B" t || is "A" t) (good (opening_of (is "B" t) v) && good_in fs) true

abbrev pub Readable : List ℕ → ℕ → Type 0
Readable book at = good_in (fields_of (drop at book)) ≡ true

-- the gain of the first `left` lots on a side: the oldest, where trades come in order
abbrev pub oldest_of : Bool → Fen → ℕ → List Trade → ℤ
oldest_of long s left [] = pos 0
oldest_of long s left (t ∷ ts) = let n = min (lots_on long t) left in gain_of long s t.price n +ℤ oldest_of long s (left - n) ts

-- "newest first" over the trades of the fields: each trade read is put in front, and the list is arranged by stamps
abbrev pub newest_of : Bool → Fen → ℕ → List Field → ℤ
newest_of long s need fs = gain_from long s need (arranged when (in_front (trades_in fs) []))

-- and of the fields from a place on
abbrev pub newest_in : Bool → Fen → ℕ → List ℕ → ℕ → ℤ
newest_in long s need book first = newest_of long s need (fields_of (drop first book))

-- the trade that the fields begin with, and where it ends
abbrev pub next_of : Opening → ℕ → Next
next_of (Made t d) end = At t end
next_of Comma end = End
next_of Malformed end = End

abbrev pub next_from : ℕ → List Field → Next
next_from at [] = End
next_from at (Cut ∷ fs) = End
next_from at (Whole t v ∷ fs) = cond (is "B" t || is "A" t) (next_of (opening_of (is "B" t) v) (at + 3 + length v)) End

-- what that says of the trades in the book: this one, and the others from its end on
pub record Read (book : List ℕ) (at : ℕ) (t : Trade) (end : ℕ) : Type 0 where
  pub list : trades_at book at ≡ t ∷ trades_at book end
  pub on : at < end
  pub inside : end ≤ length book
  pub readable : Readable book at → Readable book end
  pub price_most : t.price.0 ≤ 9_999_999
  pub lots_most : t.lots.0 ≤ 1_000_000

abbrev pub Tells : List ℕ → ℕ → Next → Type 0
Tells book at (At t end) = Read book at t end
Tells book at End = trades_at book at ≡ []
