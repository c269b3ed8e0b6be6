-- One field with a figure, for whoever goes over the fields: the walk over a book, or over a group. Both stop with 2 where there is no
-- field, with 3 at another tag, and go on with the figure where it is good.
-- Assumes nothing.
use Prim.Native.Nat.{ℕ, ◌+◌}
use mathlib.Core.Path.{◌≡◌, refl, ap, ◌∙◌}
use mathlib.Core.List.{List, [], ◌∷◌}
use mathlib.Core.Bool.{Bool, true, false}
use lib.ListN.{length, drop}
use lib.Dec.{eqb}
use borrow.Author.Tests.{eqb-true}
use Rattle.rules.specs.declared.Form.{Form}
use Rattle.rules.specs.declared.Figure.{Figure}
use Rattle.rules.specs.declared.Figure.TheVariants.{Comma, Malformed}
use Rattle.rules.specs.declared.Figure.TheVariants.{Value as Number}
use Rattle.rules.specs.Refusal as refusal
use Rattle.rules.specs.Figures.{figure_of}
use Rattle.rules.specs.Fields.{Field, Whole, Cut, fields_of}
use Rattle.rules.specs.Book.{Step, Stop, figure}
use Rattle.laws.specs.Fields.{fields_next}
use Rattle.fields.specs.declared.Refusal.{Refusal}
use Rattle.fields.specs.declared.FigureAt.{FigureAt}
use Rattle.fields.specs.declared.FigureAt.TheVariants.{Value}
use Rattle.fields.specs.declared.FigureAt.TheVariants.{Refused as NoFigure}
use Rattle.fields.specs.Reading.{refused_at, figure_at, figure_from}

module _ {R : Type 0} where
  abbrev pub on_figure : FigureAt → (Refusal → R) → (ℕ → ℕ → R) → R
  on_figure (Value n next) bad k = k n next
  on_figure (NoFigure r) bad k = bad r

-- what a reader of fields from `at` on does where a figure with this tag and form is due
pub record Figured {B R : Type 0} (tag : ℕ) (form : Form) (at : ℕ) (run : List Field → R) (bad : Refusal → R) (go : Step B → ℕ → List Field → R) (next : ℕ → Step B) : Type 0 where
  pub none : run [] ≡ bad (refused_at refusal.cut_short at)
  pub cut : (fs : List Field) → run (Cut ∷ fs) ≡ bad (refused_at refusal.cut_short at)
  pub other : (t : ℕ) (v : List ℕ) (fs : List Field) → eqb t tag ≡ false → run (Whole t v ∷ fs) ≡ bad (refused_at refusal.misplaced at)
  pub tagged : (v : List ℕ) (fs : List Field) → run (Whole tag v ∷ fs) ≡ go (figure (figure_of form v) next) (at + 3 + length v) fs
  pub stopped : (n e : ℕ) (fs : List Field) → eqb n refusal.uncovered ≡ false → go (Stop n) e fs ≡ bad (refused_at n at)

module _ {B R : Type 0} (s : List ℕ) {tag : ℕ} {form : Form} {at : ℕ} {run : List Field → R} {bad : Refusal → R} {go : Step B → ℕ → List Field → R} {next : ℕ → Step B}
    (d : Figured tag form at run bad go next) where
  valued : (fs : List Field) (e : ℕ) → fs ≡ fields_of (drop e s) → (f : Figure) →
      go (figure f next) e fs ≡ on_figure (figure_at at e f) bad (λ n e. go (next n) e (fields_of (drop e s)))
  valued fs e h (Number n) = ap (go (next n) e) h
  valued fs e h Comma = d.stopped refusal.comma e fs refl
  valued fs e h Malformed = d.stopped refusal.malformed e fs refl

  pub figured : run (fields_of (drop at s)) ≡ on_figure (figure_from at tag form (fields_of (drop at s))) bad (λ n e. go (next n) e (fields_of (drop e s)))
  figured = by (fields_of (drop at s)) refl
    where
      whole : (t : ℕ) (v : List ℕ) (fs : List Field) → fields_of (drop at s) ≡ Whole t v ∷ fs → (b : Bool) → eqb t tag ≡ b →
          run (Whole t v ∷ fs) ≡ on_figure (figure_from at tag form (Whole t v ∷ fs)) bad (λ n e. go (next n) e (fields_of (drop e s)))
      whole t v fs e true h =
          let same : t ≡ tag = eqb-true _ _ h in
          ap (λ (x : ℕ). run (Whole x v ∷ fs)) same ∙ d.tagged v fs ∙ rw h (valued fs (at + 3 + length v) (fields_next s at t v fs e).rest (figure_of form v))
      whole t v fs e false h = d.other t v fs h ∙ rw h

      by : (fs : List Field) → fields_of (drop at s) ≡ fs → run fs ≡ on_figure (figure_from at tag form fs) bad (λ n e. go (next n) e (fields_of (drop e s)))
      by [] e = d.none
      by (Cut ∷ fs) e = d.cut fs
      by (Whole t v ∷ fs) e = whole t v fs e (eqb t tag) refl
