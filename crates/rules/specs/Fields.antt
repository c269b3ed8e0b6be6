-- docs/RULES.md, section 2. Document 01: "A field is a one-byte tag, a two-byte length (high byte first) and that many bytes of value."
-- Assumes nothing.
use Rattle.std.specs.Prelude.{ℕ, zero, suc, ◌+◌, ◌*◌, List, [], ◌∷◌, cond, length, take, drop, ltb}

-- a field with its tag and its value, or what is left where "fewer than 3 bytes are left .. or its value runs past the end"
pub data Field : Type 0 where
  Whole : ℕ → List ℕ → Field
  Cut : Field

-- the fields of a book from its front; a Cut is the last. A book has fewer fields than bytes, and `most` bounds them
abbrev pub fields_in : ℕ → List ℕ → List Field
fields_in zero s = []
fields_in (suc most) [] = []
fields_in (suc most) (tag ∷ []) = Cut ∷ []
fields_in (suc most) (tag ∷ high ∷ []) = Cut ∷ []
fields_in (suc most) (tag ∷ high ∷ low ∷ s) =
    let n = high * 256 + low in
    cond (ltb (length (take n s)) n) (Cut ∷ []) (Whole tag (take n s) ∷ fields_in most (drop n s))

unfoldable pub fields_of : List ℕ → List Field
fields_of s = fields_in (length s) s
