-- What the reader of a price and lots answers, from the bytes before a stamp.
-- Assumes nothing.
use Rattle.std.specs.Prelude.{◌≡◌, ℕ, cond, List}
use Rattle.rules.specs.declared.Written.{Written}
use Rattle.rules.specs.declared.Written.TheVariants.{Number, Comma, Malformed}
use Rattle.rules.specs.declared.Figure.{Figure}
use Rattle.rules.specs.declared.Figure.TheVariants.{Value}
use Rattle.rules.specs.declared.Figure.TheVariants.{Comma as CommaIn}
use Rattle.rules.specs.declared.Figure.TheVariants.{Malformed as NoFigure}
use Rattle.rules.specs.Figures.{price_form, traded_form, in_range, written_of, figure_of}
use Rattle.rules.specs.Opening.{up_to_blank, after_blank}
use Rattle.figures.specs.declared.number.Digits.{Digits}
use Rattle.figures.specs.declared.number.Digits.TheVariants.{Number as Lots}
use Rattle.figures.specs.declared.number.Digits.TheVariants.{Other as NoLots}
use Rattle.figures.specs.declared.pair.Pair.{Pair}
use Rattle.figures.specs.declared.pair.Pair.TheVariants.{Both}
use Rattle.figures.specs.declared.pair.Pair.TheVariants.{Other as NoPair}

abbrev pub lots_of : Figure → Digits
lots_of (Value n) = Lots n
lots_of CommaIn = NoLots
lots_of NoFigure = NoLots

abbrev pub with_lots : ℕ → ℕ → Figure → Pair
with_lots p d (Value n) = Both p d n
with_lots p d CommaIn = NoPair
with_lots p d NoFigure = NoPair

abbrev pub both : Written → Figure → Pair
both (Number p d) n = cond (in_range (price_form d) p) (with_lots p d n) NoPair
both Comma n = NoPair
both Malformed n = NoPair

-- on the two sides of the first blank
abbrev pub pair_of : List ℕ → Pair
pair_of f = both (written_of (up_to_blank f)) (figure_of traded_form (after_blank f))

-- bytes that were read so before
pub record Paired (f : List ℕ) : Type 0 where
  pub price : ℕ
  pub places : ℕ
  pub lots : ℕ
  pub read : pair_of f ≡ Both price places lots
