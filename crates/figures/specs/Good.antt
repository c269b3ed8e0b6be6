-- A trade that was read: whether it was, and its parts.
-- Assumes nothing.
use Rattle.std.specs.Prelude.{◌≡◌, ℕ, Bool, true, false, refl}
use Rattle.std.proofs.Common.{ap}
use Rattle.std.proofs.lemmas.Bool.{false≢true}
use Rattle.rules.specs.declared.Trade.{Trade}
use Rattle.rules.specs.declared.Opening.{Opening}
use Rattle.rules.specs.declared.Opening.TheVariants.{Made, Comma, Malformed}
use Rattle.rules.specs.Figures.{fen, lots}
use Rattle.rules.specs.Stamp.{stamp}

abbrev pub good : Opening → Bool
good (Made t x) = true
good Comma = false
good Malformed = false

abbrev pub trade_of : Bool → ℕ → ℕ → ℕ → Trade
trade_of bought p n d = record { bought = bought; price = fen p; lots = lots n; stamp = stamp d }

-- For those who read it again.

pub made_good : (o : Opening) (t : Trade) (x : ℕ) → o ≡ Made t x → good o ≡ true
made_good o t x e = ap good e

pub good_made : (o : Opening) → good o ≡ true → (t : Trade) × ((x : ℕ) × (o ≡ Made t x))
good_made (Made t x) h = (t, (x, refl))
good_made Comma h = absurd (false≢true h)
good_made Malformed h = absurd (false≢true h)

-- there is one such trade
pub made_one : (o : Opening) (t u : Trade) (x y : ℕ) → o ≡ Made t x → o ≡ Made u y → (t ≡ u) × (x ≡ y)
made_one o t u x y e f = (cc, cc)
