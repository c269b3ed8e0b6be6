-- A customer's trades, as code goes over them from the first place on: the lots and the gain of all on a side, and whether they come in order.
-- Assumes nothing.
use Rattle.std.specs.Prelude.{ℕ, ◌+◌, List, [], ◌∷◌, Bool, true, cond, ◌&&◌, ◌||◌, length, leb, eqb, ℤ, ◌+ℤ◌}
use Rattle.rules.specs.declared.Fen.{Fen}
use Rattle.rules.specs.declared.Trade.{Trade}
use Rattle.rules.specs.declared.Opening.{Opening}
use Rattle.rules.specs.declared.Opening.TheVariants.{Made, Comma, Malformed}
use Rattle.rules.specs.Refusal as refusal
use Rattle.rules.specs.Text.{is}
use Rattle.rules.specs.Opening.{opening_of}
use Rattle.rules.specs.Fields.{Field, Whole, Cut}
use Rattle.rules.specs.Book.{on_side, astray}
use Rattle.rules.specs.Standing.{gain_of}
use Rattle.laws.specs.Gains.{lots_on}
use Rattle.trades.specs.declared.Order.{Order}
use Rattle.trades.specs.declared.TradesAt.{TradesAt}
use Rattle.trades.specs.declared.TradesAt.TheVariants.{Closed, Refused}
use Rattle.fields.specs.Reading.{refused_at}

-- a trade whose price has x decimals and is not too far from s
abbrev pub opening : ℕ → Fen → ℕ → Opening → (Trade → TradesAt) → TradesAt
opening x s at (Made t d) k = cond (eqb d x) (cond (astray s t.price) (Refused (refused_at refusal.astray at)) (k t)) (Refused (refused_at refusal.malformed at))
opening x s at Comma k = Refused (refused_at refusal.comma at)
opening x s at Malformed k = Refused (refused_at refusal.malformed at)

-- no trade on the side yet
abbrev pub none_yet : Order
none_yet = record { last = 0; kept = true }

abbrev pub order_after : Bool → Order → Trade → Order
order_after long o t = cond (on_side long t) (record { last = t.stamp.0; kept = o.kept && leb o.last t.stamp.0 }) o

module _ (x : ℕ) (long : Bool) (s : Fen) where
  abbrev pub trades_from : ℕ → ℕ → ℤ → Order → List Field → TradesAt
  trades_from at opened gain o [] = Refused (refused_at refusal.cut_short at)
  trades_from at opened gain o (Cut ∷ fs) = Refused (refused_at refusal.cut_short at)
  trades_from at opened gain o (Whole t v ∷ fs) =
      cond (is "C" t || is "Z" t) (Closed at opened gain o.kept)
      (cond (is "B" t || is "A" t)
      (opening x s at (opening_of (is "B" t) v) λ u.
      trades_from (at + 3 + length v) (opened + lots_on long u) (gain +ℤ gain_of long s u.price (lots_on long u)) (order_after long o u) fs)
      (Refused (refused_at refusal.misplaced at)))
