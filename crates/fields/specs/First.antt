-- What a call finds at a place: the first of the fields that begin there.
-- Assumes nothing.
use Rattle.std.specs.Prelude.{ℕ, ◌+◌, List, [], ◌∷◌, length}
use Rattle.rules.specs.Fields.{Field, Whole, Cut}
use Rattle.fields.specs.declared.Found.{Found}
use Rattle.fields.specs.declared.Found.TheVariants.{Short}
use Rattle.fields.specs.declared.Found.TheVariants.{Field as FieldAt}

abbrev pub first_at : ℕ → List Field → Found
first_at at [] = Short
first_at at (Cut ∷ fs) = Short
first_at at (Whole t v ∷ fs) = FieldAt t (at + 3) (at + 3 + length v)
