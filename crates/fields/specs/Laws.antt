-- What a found field says of the book's fields.
-- Assumes nothing.
use Rattle.std.specs.Prelude.{ℕ, ◌+◌, ◌-◌, ◌≤◌, ◌<◌, ◌≡◌, refl, List, [], ◌∷◌, Bool, true, false, length, take, drop, get_or, leb}
use Rattle.std.proofs.Common.{sym, ◌∙◌, length-take, length-drop, leb-true, leb-false, arith}
use Rattle.rules.specs.Fields.{Field, Whole, Cut, fields_of}
use Rattle.laws.specs.Fields.{size_at, fields_end, fields_cut, fields_whole}
use Rattle.fields.specs.declared.Found.TheVariants.{Short}
use Rattle.fields.specs.declared.Found.TheVariants.{Field as FieldAt}
use Rattle.fields.specs.First.{first_at}

-- by index: a whole field fits the book
pub first_whole : (s : List ℕ) (at : ℕ) → at + 3 + size_at s at ≤ length s → first_at at (fields_of (drop at s)) ≡ FieldAt (get_or s at 0) (at + 3) (at + 3 + size_at s at)
first_whole s at h =
    let n : length (take (size_at s at) (drop (at + 3) s)) ≡ size_at s at = simp (length-take, length-drop) (omega arith) in
    rw (fields_whole s at h, n)

-- by index: fewer than 3 bytes, or a value past the end
pub first_short : (s : List ℕ) (at : ℕ) → length s < at + 3 + size_at s at → first_at at (fields_of (drop at s)) ≡ Short
first_short s at h = go (leb (length s) at) refl
  where
    go : (b : Bool) → leb (length s) at ≡ b → first_at at (fields_of (drop at s)) ≡ Short
    go true e = rw (fields_end s at (leb-true _ _ e))
    go false e = rw (fields_cut s at (omega (arith, leb-false)) h)

-- a field was found: the book's fields from there are it, and those from its end on
pub record Stands (s : List ℕ) (at t start end : ℕ) : Type 0 where
  pub fields : fields_of (drop at s) ≡ Whole t (take (end - start) (drop start s)) ∷ fields_of (drop end s)
  pub size : length (take (end - start) (drop start s)) ≡ end - start
  pub begins : start ≡ at + 3
  pub order : start ≤ end
  pub inside : end ≤ length s

no_field : {t a e : ℕ} → Short ≡ FieldAt t a e → ⊥
no_field h = let z : ◌≡◌ {A = ℕ} 0 1 = cc in omega arith

pub stands : (s : List ℕ) (at t start end : ℕ) → first_at at (fields_of (drop at s)) ≡ FieldAt t start end → Stands s at t start end
stands s at t start end h = go (leb (at + 3 + size_at s at) (length s)) refl
  where
    go : (b : Bool) → leb (at + 3 + size_at s at) (length s) ≡ b → Stands s at t start end
    go true e =
        let k : FieldAt (get_or s at 0) (at + 3) (at + 3 + size_at s at) ≡ FieldAt t start end = sym (first_whole s at (leb-true _ _ e)) ∙ h in
        let tag : get_or s at 0 ≡ t = cc in
        let a : at + 3 ≡ start = cc in
        let z : at + 3 + size_at s at ≡ end = cc in
        let n : end - start ≡ size_at s at = omega arith in
        let w : at + 3 + size_at s at ≤ length s = leb-true _ _ e in
        record {
          fields = rw n (rw (← a, ← z, ← tag) (fields_whole s at w));
          size = simp (length-take, length-drop) (omega arith);
          begins = sym a;
          order = omega arith;
          inside = omega arith;
        }
    go false e = absurd (no_field (sym (first_short s at (omega (arith, leb-false))) ∙ h))

-- nothing whole was found: no field, or a cut one
pub data Nothing : List Field → Type 0 where
  none : Nothing []
  cut : {fs : List Field} → Nothing (Cut ∷ fs)

pub nothing : (at : ℕ) (fs : List Field) → first_at at fs ≡ Short → Nothing fs
nothing at [] h = none
nothing at (Cut ∷ fs) h = cut
nothing at (Whole t v ∷ fs) h = absurd (no_field (sym h))
