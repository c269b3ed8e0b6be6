-- A figure that was read is in the range of its form.
-- Assumes nothing.
use Prim.Native.Nat.{ℕ, ◌+◌, ◌≤◌}
use mathlib.Core.Path.{◌≡◌, refl}
use mathlib.Core.List.{List, [], ◌∷◌}
use mathlib.Core.Bool.{Bool, true, false, cond}
use lib.ListN.{length}
use lib.Dec.{eqb}
use Rattle.rules.specs.declared.Form.{Form}
use Rattle.rules.specs.declared.Figure.{Figure}
use Rattle.rules.specs.declared.Figure.TheVariants.{Comma, Malformed}
use Rattle.rules.specs.declared.Figure.TheVariants.{Value as Number}
use Rattle.rules.specs.Refusal as refusal
use Rattle.rules.specs.Figures.{figure_of}
use Rattle.rules.specs.Fields.{Field, Whole, Cut}
use Rattle.laws.specs.Figures.{figure_within}
use Rattle.fields.specs.declared.FigureAt.{FigureAt}
use Rattle.fields.specs.declared.FigureAt.TheVariants.{Value}
use Rattle.fields.specs.declared.FigureAt.TheVariants.{Refused as NoFigure}
use Rattle.fields.specs.Reading.{refused_at, figure_at, figure_from}

-- what was read of a figure holds
abbrev pub Most : Form → FigureAt → Type 0
Most form (Value n e) = n ≤ form.most
Most form (NoFigure r) = Unit

pub figure_most : (at tag : ℕ) (form : Form) (fs : List Field) → Most form (figure_from at tag form fs)
figure_most at tag form [] = tt
figure_most at tag form (Cut ∷ fs) = tt
figure_most at tag form (Whole t v ∷ fs) = go (eqb t tag) (figure_of form v) refl
  where
    go : (b : Bool) (f : Figure) → figure_of form v ≡ f → Most form (cond b (figure_at at (at + 3 + length v) f) (NoFigure (refused_at refusal.misplaced at)))
    go true (Number n) e = (figure_within form v n e).1
    go true Comma e = tt
    go true Malformed e = tt
    go false f e = tt
