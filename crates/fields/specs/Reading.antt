-- One field after the other, as code reads them: the field that is due is there with a good value, or a refusal has its place.
-- Assumes nothing.
use Rattle.std.specs.Prelude.{ℕ, ◌+◌, List, [], ◌∷◌, cond, length, drop, eqb}
use Rattle.rules.specs.declared.Form.{Form}
use Rattle.rules.specs.declared.Figure.{Figure}
use Rattle.rules.specs.declared.Figure.TheVariants.{Comma, Malformed}
use Rattle.rules.specs.declared.Figure.TheVariants.{Value as Number}
use Rattle.rules.specs.Refusal as refusal
use Rattle.rules.specs.Figures.{figure_of}
use Rattle.rules.specs.Fields.{Field, Whole, Cut, fields_of}
use Rattle.fields.specs.declared.Refusal.{Refusal}
use Rattle.fields.specs.declared.Found.{Found}
use Rattle.fields.specs.declared.Found.TheVariants.{Short}
use Rattle.fields.specs.declared.Found.TheVariants.{Field as FieldAt}
use Rattle.fields.specs.declared.DueAt.{DueAt}
use Rattle.fields.specs.declared.DueAt.TheVariants.{There, Refused}
use Rattle.fields.specs.declared.FigureAt.{FigureAt}
use Rattle.fields.specs.declared.FigureAt.TheVariants.{Value}
use Rattle.fields.specs.declared.FigureAt.TheVariants.{Refused as NoFigure}

abbrev pub refused_at : ℕ → ℕ → Refusal
refused_at n place = record { number = n; place = place }

-- "Accepted: 0, place 0"
abbrev pub no_refusal : Refusal
no_refusal = record { number = refusal.accepted; place = 0 }

abbrev pub refusal_in : FigureAt → Refusal
refusal_in (Value n next) = no_refusal
refusal_in (NoFigure r) = r

-- 2 and 3 at `at`, where the field with this tag is due
abbrev pub due_in : ℕ → ℕ → Found → DueAt
due_in at tag Short = Refused (refused_at refusal.cut_short at)
due_in at tag (FieldAt t start end) = cond (eqb t tag) (There start end) (Refused (refused_at refusal.misplaced at))

-- 4 and 5
abbrev pub figure_at : ℕ → ℕ → Figure → FigureAt
figure_at at next (Number n) = Value n next
figure_at at next Comma = NoFigure (refused_at refusal.comma at)
figure_at at next Malformed = NoFigure (refused_at refusal.malformed at)

-- the field with this tag, which begins at `at`, and its figure
abbrev pub figure_from : ℕ → ℕ → Form → List Field → FigureAt
figure_from at tag form [] = NoFigure (refused_at refusal.cut_short at)
figure_from at tag form (Cut ∷ fs) = NoFigure (refused_at refusal.cut_short at)
figure_from at tag form (Whole t v ∷ fs) = cond (eqb t tag) (figure_at at (at + 3 + length v) (figure_of form v)) (NoFigure (refused_at refusal.misplaced at))

-- the same in a book
module _ (s : List ℕ) where
  abbrev pub figure_in : ℕ → ℕ → Form → FigureAt
  figure_in at tag form = figure_from at tag form (fields_of (drop at s))
