-- The terms of a book, as code reads them one field after the other.
-- Assumes nothing.
use Rattle.std.specs.Prelude.{ℕ, ◌+◌, List, [], ◌∷◌, Bool, true, false, cond, length, drop, leb, eqb}
use Prim.Native.Char.{Char, code}
use Rattle.rules.specs.declared.Fen.{Fen}
use Rattle.rules.specs.declared.Rate.{Rate}
use Rattle.rules.specs.Refusal as refusal
use Rattle.rules.specs.Codes.{same}
use Rattle.rules.specs.Figures.{price_form, rate_form, fen, rate}
use Rattle.rules.specs.Fields.{Field, Whole, Cut, fields_of}
use Rattle.fields.specs.declared.FigureAt.{FigureAt}
use Rattle.fields.specs.declared.FigureAt.TheVariants.{Value}
use Rattle.fields.specs.declared.FigureAt.TheVariants.{Refused as NoFigure}
use Rattle.fields.specs.Reading.{refused_at, figure_in}
use Rattle.terms.specs.declared.LetterAt.{LetterAt}
use Rattle.terms.specs.declared.LetterAt.TheVariants.{Chosen}
use Rattle.terms.specs.declared.LetterAt.TheVariants.{Refused as NoLetter}
use Rattle.terms.specs.declared.TermsAt.{TermsAt}
use Rattle.terms.specs.declared.TermsAt.TheVariants.{Read as ReadTerms}
use Rattle.terms.specs.declared.TermsAt.TheVariants.{Refused as NoTerms}

-- one of two letters, at a place
abbrev pub letter_at_of : ℕ → ℕ → ℕ → ℕ → List ℕ → LetterAt
letter_at_of at a b next v = cond (same v (a ∷ [])) (Chosen true next) (cond (same v (b ∷ [])) (Chosen false next) (NoLetter (refused_at refusal.malformed at)))

abbrev pub letter_from : ℕ → ℕ → ℕ → ℕ → List Field → LetterAt
letter_from at tag a b [] = NoLetter (refused_at refusal.cut_short at)
letter_from at tag a b (Cut ∷ fs) = NoLetter (refused_at refusal.cut_short at)
letter_from at tag a b (Whole t v ∷ fs) = cond (eqb t tag) (letter_at_of at a b (at + 3 + length v) v) (NoLetter (refused_at refusal.misplaced at))

-- the terms of a book
module _ (s : List ℕ) where
  abbrev pub then_terms : FigureAt → (ℕ → ℕ → TermsAt) → TermsAt
  then_terms (Value n next) k = k n next
  then_terms (NoFigure r) k = NoTerms r

  abbrev pub from_letter : LetterAt → (Bool → ℕ → TermsAt) → TermsAt
  from_letter (Chosen first next) k = k first next
  from_letter (NoLetter r) k = NoTerms r

  abbrev pub letter_in : ℕ → Char → Char → Char → LetterAt
  letter_in at tag a b = letter_from at (code tag) (code a) (code b) (fields_of (drop at s))

  -- U, V, and 6
  abbrev pub after_loss : Bool → ℕ → Fen → Rate → ℕ → TermsAt
  after_loss d x p l at_u =
      then_terms (figure_in s at_u (code "U") rate_form) λ u atV.
      then_terms (figure_in s atV (code "V") rate_form) λ w next.
      cond (leb u w) (NoTerms (refused_at refusal.edges atV)) (ReadTerms (record { down = d; decimals = x; settlement = p; loss = l; edge1 = rate u; edge2 = rate w }) next)

  -- S, L, and these
  abbrev pub after_places : Bool → ℕ → ℕ → TermsAt
  after_places d x at_s =
      then_terms (figure_in s at_s (code "S") (price_form x)) λ p atL.
      then_terms (figure_in s atL (code "L") rate_form) λ l at_u.
      after_loss d x (fen p) (rate l) at_u

  -- X, and these
  abbrev pub after_lock : Bool → ℕ → TermsAt
  after_lock d atX = from_letter (letter_in atX "X" "0" "2") λ none at_s. after_places d (cond none 0 2) at_s

  unfoldable pub terms_of : TermsAt
  terms_of = from_letter (letter_in 0 "D" "D" "U") after_lock
