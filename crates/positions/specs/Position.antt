-- A customer's position, as code reads it one field after the other.
-- Assumes nothing.
use Rattle.std.specs.Prelude.{ℕ, List, cond}
use Prim.Native.Char.{code}
use Rattle.rules.specs.declared.Terms.{Terms}
use Rattle.rules.specs.declared.Position.{Position}
use Rattle.rules.specs.Refusal as refusal
use Rattle.rules.specs.Figures.{held_form, lots}
use Rattle.rules.specs.Book.{overdrawn}
use Rattle.fields.specs.declared.FigureAt.{FigureAt}
use Rattle.fields.specs.declared.FigureAt.TheVariants.{Value}
use Rattle.fields.specs.declared.FigureAt.TheVariants.{Refused as NoFigure}
use Rattle.fields.specs.Reading.{refused_at, figure_in}
use Rattle.positions.specs.declared.PositionAt.{PositionAt}
use Rattle.positions.specs.declared.PositionAt.TheVariants.{Read as ReadPosition}
use Rattle.positions.specs.declared.PositionAt.TheVariants.{Refused as NoPosition}

-- a position in a book
module _ (s : List ℕ) where
  abbrev pub then_position : FigureAt → (ℕ → ℕ → PositionAt) → PositionAt
  then_position (Value n next) k = k n next
  then_position (NoFigure r) k = NoPosition r

  -- K, H, Q, and 8
  unfoldable pub position_of : Terms → ℕ → PositionAt
  position_of terms atK =
      then_position (figure_in s atK (code "K") held_form) λ k atH.
      then_position (figure_in s atH (code "H") held_form) λ h atQ.
      then_position (figure_in s atQ (code "Q") held_form) λ q next.
      let p : Position = record { long = lots k; short = lots h; unfilled = lots q } in
      cond (overdrawn terms p) (NoPosition (refused_at refusal.overdrawn atQ)) (ReadPosition p next)
