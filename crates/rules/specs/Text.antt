-- Text in quotes as the bytes that it stands for, so that a definition shows the letters of document 01.
-- Assumes nothing.
use Rattle.std.specs.Prelude.{ℕ, List, [], ◌∷◌, Bool, eqb}
use Prim.Native.Char.{Char, code}
use Prim.Native.String.{String}
use Prim.Native.String as quoted

abbrev pub bytes : String → List ℕ
bytes quoted.[] = []
bytes (quoted.◌∷◌ c s) = code c ∷ bytes s

-- the byte x is this character
abbrev pub is : Char → ℕ → Bool
is c x = eqb x (code c)
