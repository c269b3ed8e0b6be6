-- Terms that were read are in the ranges of their forms.
-- Assumes nothing.
use Prim.Native.Char.{code}
use Prim.Native.Nat.{ℕ, ◌≤◌}
use mathlib.Core.List.{List}
use mathlib.Core.Bool.{Bool, true, false, cond}
use lib.ListN.{drop}
use lib.Dec.{leb}
use Rattle.rules.specs.declared.Form.{Form}
use Rattle.rules.specs.Refusal as refusal
use Rattle.rules.specs.Figures.{rate_form, price_form, fen, rate}
use Rattle.rules.specs.Fields.{fields_of}
use Rattle.fields.specs.declared.FigureAt.{FigureAt}
use Rattle.fields.specs.declared.FigureAt.TheVariants.{Value}
use Rattle.fields.specs.declared.FigureAt.TheVariants.{Refused as NoFigure}
use Rattle.fields.specs.Reading.{refused_at, figure_from}
use Rattle.fields.proofs.Within.{Most, figure_most}
use Rattle.terms.specs.declared.LetterAt.{LetterAt}
use Rattle.terms.specs.declared.LetterAt.TheVariants.{Chosen}
use Rattle.terms.specs.declared.LetterAt.TheVariants.{Refused as NoLetter}
use Rattle.terms.specs.declared.TermsAt.{TermsAt}
use Rattle.terms.specs.declared.TermsAt.TheVariants.{Read as ReadTerms}
use Rattle.terms.specs.declared.TermsAt.TheVariants.{Refused as NoTerms}
use Rattle.terms.specs.Terms.{then_terms, from_letter, letter_in, after_places, after_lock, terms_of}
use Rattle.terms.specs.Ranges.{Sound}

module _ (s : List ℕ) where
  abbrev pub SoundAt : TermsAt → Type 0
  SoundAt (ReadTerms t next) = Sound t
  SoundAt (NoTerms r) = Unit

  then_sound : (form : Form) (f : FigureAt) (k : ℕ → ℕ → TermsAt) → Most form f → ((n e : ℕ) → n ≤ form.most → SoundAt (k n e)) → SoundAt (then_terms s f k)
  then_sound form (Value n e) k m h = h n e m
  then_sound form (NoFigure r) k m h = tt

  after_sound : (d : Bool) (y at : ℕ) → SoundAt (after_places s d y at)
  after_sound d y at =
      then_sound (price_form y) (figure_from at (code "S") (price_form y) (fields_of (drop at s))) _ (figure_most at (code "S") (price_form y) (fields_of (drop at s))) λ p atL hp.
      then_sound rate_form (figure_from atL (code "L") rate_form (fields_of (drop atL s))) _ (figure_most atL (code "L") rate_form (fields_of (drop atL s))) λ l at_u hl.
      then_sound rate_form (figure_from at_u (code "U") rate_form (fields_of (drop at_u s))) _ (figure_most at_u (code "U") rate_form (fields_of (drop at_u s))) λ u atV hu.
      then_sound rate_form (figure_from atV (code "V") rate_form (fields_of (drop atV s))) _ (figure_most atV (code "V") rate_form (fields_of (drop atV s))) λ x e hx.
      go p l u x atV e hp hl hu hx (leb u x)
    where
      go : (p l u x atV e : ℕ) → p ≤ 9999999 → l ≤ 99999 → u ≤ 99999 → x ≤ 99999 → (b : Bool) →
          SoundAt (cond b (NoTerms (refused_at refusal.edges atV)) (ReadTerms (record { down = d; decimals = y; settlement = fen p; loss = rate l; edge1 = rate u; edge2 = rate x }) e))
      go p l u x atV e hp hl hu hx true = tt
      go p l u x atV e hp hl hu hx false = record { settlement = hp; loss = hl; edge1 = hu; edge2 = hx }

  letter_sound : (l : LetterAt) (k : Bool → ℕ → TermsAt) → ((b : Bool) (e : ℕ) → SoundAt (k b e)) → SoundAt (from_letter s l k)
  letter_sound (Chosen b e) k h = h b e
  letter_sound (NoLetter r) k h = tt

  pub terms_within : SoundAt (terms_of s)
  unfolding terms_of
  terms_within =
      letter_sound (letter_in s 0 "D" "D" "U") (after_lock s) λ d atX.
      letter_sound (letter_in s atX "X" "0" "2") _ λ none at_s.
      after_sound d (cond none 0 2) at_s
