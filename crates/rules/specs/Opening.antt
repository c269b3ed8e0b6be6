-- docs/RULES.md, section 4. Document 01, and request [2]: the value of a trade, and the order in which trades are held.
-- Assumes nothing.
use Rattle.std.specs.Prelude.{ℕ, List, [], ◌∷◌, Bool, cond, ltb}
use Rattle.rules.specs.declared.Trade.{Trade}
use Rattle.rules.specs.declared.Written.{Written}
use Rattle.rules.specs.declared.Written.TheVariants.{Number}
use Rattle.rules.specs.declared.Written.TheVariants.{Comma as CommaWritten}
use Rattle.rules.specs.declared.Written.TheVariants.{Malformed as NoFigure}
use Rattle.rules.specs.declared.Figure.{Figure}
use Rattle.rules.specs.declared.Figure.TheVariants.{Value, Comma, Malformed}
use Rattle.rules.specs.declared.Opening.{Opening}
use Rattle.rules.specs.declared.Opening.TheVariants.{Made}
use Rattle.rules.specs.declared.Opening.TheVariants.{Comma as CommaIn}
use Rattle.rules.specs.declared.Opening.TheVariants.{Malformed as NoTrade}
use Rattle.rules.specs.Figures.{fen, lots, price_form, traded_form, has, up_to, after, in_range, written_of, figure_of}
use Rattle.rules.specs.Stamp.{stamp, stamp_of}

-- "B, A: bought to open, sold to open: a price, one blank (0x20), lots", and a blank, the day, a blank, the time: the bytes up to the first
-- blank, and those after it
abbrev pub up_to_blank : List ℕ → List ℕ
up_to_blank v = up_to " " v

abbrev pub after_blank : List ℕ → List ℕ
after_blank v = after " " v

-- a part that is as it should be; a comma is looked for in the whole value before
abbrev pub wanted : Figure → (ℕ → Opening) → Opening
wanted (Value n) next = next n
wanted Comma next = NoTrade
wanted Malformed next = NoTrade

-- a price in its range, with the decimals that it has
abbrev pub priced : Written → (ℕ → ℕ → Opening) → Opening
priced (Number p d) next = cond (in_range (price_form d) p) (next p d) NoTrade
priced CommaWritten next = NoTrade
priced NoFigure next = NoTrade

abbrev pub trade_from : Bool → Written → Figure → Figure → Opening
trade_from bought price n made =
    priced price λ p x. wanted n λ l. wanted made λ d. Made (record { bought = bought; price = fen p; lots = lots l; stamp = stamp d }) x

-- 4 before 5: "a comma (0x2C) stands in .. B or A", anywhere in the value; then 5 for each part, and for any other number of parts
unfoldable pub opening_of : Bool → List ℕ → Opening
opening_of bought v =
    let rest = after_blank v in
    let made = after_blank rest in
    cond (has "," v) CommaIn
    (trade_from bought (written_of (up_to_blank v)) (figure_of traded_form (up_to_blank rest)) (stamp_of (up_to_blank made) (after_blank made)))

-- "Order is by day, then by minutes since 19:50 taken around the clock, then by place in the book": a trade read goes before all that are
-- held with its stamp or an older one, so that trades are held newest first
abbrev pub among : Trade → List Trade → List Trade
among t [] = t ∷ []
among t (u ∷ us) = cond (ltb t.stamp.0 u.stamp.0) (u ∷ among t us) (t ∷ u ∷ us)
