-- Small answers that the published contracts of seven leaf functions allow, where a wrong program of theirs shows no value in the prover's log: equal sides are
-- not net long, and the larger side is; a refusal is handed on as it is, and a good figure has none; each standing has its letter; a figure has the decimals
-- that are written; "8,000" has a comma; lots held are 0 to 1,000,000, digits alone, and have their own field.
-- Assumes nothing.
use Rattle.std.specs.Prelude.{ℕ, Bool, true, false, [], ◌∷◌, ◌≡◌}
use Prim.Native.Char.{code}
use Rattle.std.proofs.Math.Path.{refl, ap, ap₂}
use Rattle.std.proofs.Common.{◌∙◌}
use contract.Lifetimes.{Lfts}
use denote.Triple.Entry.{Args}
use denote.Triple.Clauses.{AtExit}
use Rattle.rules.specs.declared.Position.{Position}
use Rattle.rules.specs.declared.Written.{Written}
use Rattle.rules.specs.declared.Written.TheVariants.{Number, Malformed}
use Rattle.rules.specs.declared.Figure.{Figure}
use Rattle.rules.specs.declared.Figure.TheVariants.{Comma}
use Rattle.rules.specs.declared.Figure.TheVariants.{Value as Says}
use Rattle.rules.specs.declared.Figure.TheVariants.{Malformed as NoLots}
use Rattle.rules.specs.declared.Standing.TheVariants.{Pending, Tier1, Tier2, Tier3, Neither}
use Rattle.rules.specs.Refusal as refusal
use Rattle.rules.specs.Text.{bytes}
use Rattle.rules.specs.Figures.{lots, rate_form, held_form, written_of, figure_of}
use Rattle.rules.specs.Fields.{fields_of}
use Rattle.fields.specs.declared.Refusal.{Refusal}
use Rattle.fields.specs.declared.FigureAt.{FigureAt}
use Rattle.fields.specs.declared.FigureAt.TheVariants.{Value}
use Rattle.fields.specs.declared.FigureAt.TheVariants.{Refused as NoFigure}
use Rattle.fields.specs.Reading.{refused_at, no_refusal}
use Rattle.gain.proofs as gain
use Rattle.gain.specs.contracts as gain_contracts
use Rattle.fields.proofs as fields
use Rattle.fields.specs.contracts as fields_contracts
use Rattle.writing.proofs as writing
use Rattle.writing.specs.contracts as writing_contracts
use Rattle.figures.proofs as figures
use Rattle.figures.specs.contracts as figures_contracts

abbrev holds : ℕ → ℕ → Position
holds long short = record { long = lots long; short = lots short; unfilled = lots 0 }

module _ (κs : Lfts 0) (a : Args gain_contracts.net_long.signature κs) (r : Bool) (s : AtExit gain_contracts.net_long.ended κs) (h : gain.net_long.Reads.Learnt κs a r s) where
  pub equal_is_not_long : a.0 ≡ holds 1 1 → r ≡ false
  equal_is_not_long e = h ∙ rw e refl

  pub larger_is_long : a.0 ≡ holds 2 1 → r ≡ true
  larger_is_long e = h ∙ rw e refl

  pub smaller_is_not : a.0 ≡ holds 1 2 → r ≡ false
  smaller_is_not e = h ∙ rw e refl

module _ (κs : Lfts 0) (a : Args fields_contracts.refusal_in.signature κs) (r : Refusal) (s : AtExit fields_contracts.refusal_in.ended κs) (h : fields.refusal_in.Reads.Learnt κs a r s) where
  pub handed_on : a.0 ≡ NoFigure (refused_at refusal.comma 17) → r ≡ refused_at refusal.comma 17
  handed_on e = h ∙ rw e refl

  pub none_in_a_figure : a.0 ≡ Value 8_000 25 → r ≡ no_refusal
  none_in_a_figure e = h ∙ rw e refl

module _ (κs : Lfts 0) (a : Args writing_contracts.letter_of.signature κs) (r : ℕ) (s : AtExit writing_contracts.letter_of.ended κs) (h : writing.letter_of.Reads.Learnt κs a r s) where
  pub p : a.0 ≡ Pending → r ≡ code "P"
  p e = h ∙ rw e refl

  pub one : a.0 ≡ Tier1 → r ≡ code "1"
  one e = h ∙ rw e refl

  pub two : a.0 ≡ Tier2 → r ≡ code "2"
  two e = h ∙ rw e refl

  pub three : a.0 ≡ Tier3 → r ≡ code "3"
  three e = h ∙ rw e refl

  pub n : a.0 ≡ Neither → r ≡ code "N"
  n e = h ∙ rw e refl

module _ (κs : Lfts 1) (a : Args figures_contracts.read_written.signature κs) (r : Written) (s : AtExit figures_contracts.read_written.ended κs) (h : figures.read_written.Reads.Learnt κs a r s) where
  pub with_decimals : a.0.now ≡ bytes "400.00" → r ≡ Number 40_000 2
  unfolding written_of
  with_decimals e = h ∙ ap written_of e

  pub without : a.0.now ≡ bytes "400" → r ≡ Number 400 0
  unfolding written_of
  without e = h ∙ ap written_of e

  pub no_leading_zero : a.0.now ≡ bytes "0400" → r ≡ Malformed
  unfolding written_of
  no_leading_zero e = h ∙ ap written_of e

module _ (κs : Lfts 1) (a : Args figures_contracts.read_figure.signature κs) (r : Figure) (s : AtExit figures_contracts.read_figure.ended κs) (h : figures.read_figure.Reads.Learnt κs a r s) where
  pub a_comma : a.0.now ≡ bytes "8,000" → a.1.0 ≡ rate_form → r ≡ Comma
  unfolding written_of figure_of
  a_comma e f = h ∙ ap₂ (λ v w. figure_of w v) e f

module _ (κs : Lfts 1) (a : Args figures_contracts.read_held.signature κs) (r : Figure) (s : AtExit figures_contracts.read_held.ended κs) (h : figures.read_held.Reads.Learnt κs a r s) where
  pub none_held : a.0.now ≡ bytes "0" → r ≡ Says 0
  unfolding written_of figure_of
  none_held e = h ∙ ap (figure_of held_form) e

  -- with one lot less at most: none
  pub most_held : a.0.now ≡ bytes "1000000" → r ≡ Says 1_000_000
  unfolding written_of figure_of
  most_held e = h ∙ ap (figure_of held_form) e

  -- where what follows the digits is passed over: 80
  pub digits_alone : a.0.now ≡ bytes "80x" → r ≡ NoLots
  unfolding written_of figure_of
  digits_alone e = h ∙ ap (figure_of held_form) e

  -- where nothing is looked for: malformed
  pub held_comma : a.0.now ≡ bytes "8,000" → r ≡ Comma
  unfolding written_of figure_of
  held_comma e = h ∙ ap (figure_of held_form) e

-- the K of 8 lots
module _ (κs : Lfts 1) (a : Args fields_contracts.held_at.signature κs) (r : FigureAt) (s : AtExit fields_contracts.held_at.ended κs) (h : fields.held_at.Reads.Learnt κs a r s)
    (book : a.0.now ≡ code "K" ∷ 0 ∷ 1 ∷ code "8" ∷ []) (front : a.1.0 ≡ 0) where
  -- where the place after it is that where its value begins: 3
  pub eight_held : a.1.1.0 ≡ code "K" → r ≡ Value 8 4
  unfolding fields_of written_of figure_of
  eight_held e = h ∙ rw (book, front, e) refl

  -- where any tag is taken: the same
  pub no_h : a.1.1.0 ≡ code "H" → r ≡ NoFigure (refused_at refusal.misplaced 0)
  unfolding fields_of written_of figure_of
  no_h e = h ∙ rw (book, front, e) refl
