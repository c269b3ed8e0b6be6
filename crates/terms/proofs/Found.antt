-- What a letter comes to for a field that was found at a place, and where none was.
-- Assumes nothing.
use Prim.Native.Nat.{ℕ}
use mathlib.Core.Path.{◌≡◌, refl}
use mathlib.Core.List.{List, [], ◌∷◌}
use mathlib.Core.Bool.{cond}
use lib.ListN.{drop}
use lib.Dec.{eqb}
use Rattle.rules.specs.Refusal as refusal
use Rattle.rules.specs.Fields.{Field, Cut, fields_of}
use Rattle.fields.specs.declared.Found.TheVariants.{Short}
use Rattle.fields.specs.First.{first_at}
use Rattle.fields.specs.Laws.{Stands, Nothing, none, cut, nothing}
use Rattle.fields.specs.Reading.{refused_at}
use Rattle.fields.proofs.Due.{value, ends}
use Rattle.terms.specs.declared.LetterAt.TheVariants.{Refused as NoLetter}
use Rattle.terms.specs.Terms.{letter_at_of, letter_from}

module _ (at : ℕ) (fs : List Field) (h : first_at at fs ≡ Short) where
  pub letter_short : (tag a b : ℕ) → letter_from at tag a b fs ≡ NoLetter (refused_at refusal.cut_short at)
  letter_short tag a b = go fs (nothing at fs h)
    where
      go : (l : List Field) → Nothing l → letter_from at tag a b l ≡ NoLetter (refused_at refusal.cut_short at)
      go [] none = refl
      go (Cut ∷ l) cut = refl
      go (Rattle.rules.specs.Fields.Whole _ _ ∷ l) x5 = elim x5 [ ]

module _ (s : List ℕ) (at t start end : ℕ) (k : Stands s at t start end) where
  pub letter_found : (tag a b : ℕ) →
      letter_from at tag a b (fields_of (drop at s)) ≡ cond (eqb t tag) (letter_at_of at a b end (value s at t start end k)) (NoLetter (refused_at refusal.misplaced at))
  letter_found tag a b = rw (k.fields, ends s at t start end k)
