-- Bytes and their fields. Some bytes stand for some fields where, whatever follows them, those fields come first; a whole field's bytes
-- stand for that field. And a book's parts put together are the book.
-- Assumes nothing.
use Rattle.std.specs.Prelude.{ℕ, zero, suc, ◌+◌, ◌*◌, ◌/◌, ◌%◌, ◌≤◌, ◌<◌, ◌≡◌, refl, List, [], ◌∷◌, ◌++◌, map, Bool, true, false, cond, length, get_or, take, drop, eqb, ltb}
use Prim.Native.Char.{Char, code}
use Rattle.std.proofs.Common.{ap, ◌∙◌, append_assoc, length-take, length-drop, take-append-drop, drop_of_length-le, take_at, drop_at, ltb-true, ltb-false, le-ltb, eqb-true, eq-eqb, ne_eqb, arith}
use Rattle.rules.specs.Text.{is}
use Rattle.rules.specs.Report.{field, joined}
use Rattle.rules.specs.Fields.{Field, Whole, Cut, fields_in, fields_of}
use Rattle.consequences.specs.Rearranged.{Parts, cut_in, together, behind, parts_in, parts_of}
use Rattle.laws.specs.Fields.{fields_cons}

abbrev pub Framed : List ℕ → List Field → Type 0
Framed a fs = (rest : List ℕ) → fields_of (a ++ rest) ≡ fs ++ fields_of rest

pub framed_append : (a b : List ℕ) (fs gs : List Field) → Framed a fs → Framed b gs → Framed (a ++ b) (fs ++ gs)
framed_append a b fs gs h k rest = rw (append_assoc a b rest, h (b ++ rest), k rest, append_assoc fs gs (fields_of rest))

-- the field of bytes that are cut where a field ends
abbrev pub field_in : List ℕ → Field
field_in [] = Cut
field_in (t ∷ []) = Cut
field_in (t ∷ a ∷ []) = Cut
field_in (t ∷ a ∷ b ∷ v) = cond (eqb (length v) (a * 256 + b)) (Whole t v) Cut

cut_not : {t : ℕ} {v : List ℕ} {G : Type 0} → Cut ≡ Whole t v → G
cut_not e = absurd (let z : ◌≡◌ {A = ℕ} 0 1 = cc in omega arith)

pub record Stands (k : List ℕ) (t : ℕ) (v : List ℕ) : Type 0 where
  pub framed : Framed k (Whole t v ∷ [])
  pub tag : get_or k 0 0 ≡ t

pub field_stands : (k : List ℕ) (t : ℕ) (v : List ℕ) → field_in k ≡ Whole t v → Stands k t v
field_stands [] t v e = cut_not e
field_stands (x ∷ []) t v e = cut_not e
field_stands (x ∷ a ∷ []) t v e = cut_not e
field_stands (x ∷ a ∷ b ∷ u) t v e = go (eqb (length u) (a * 256 + b)) refl e
  where
    go : (q : Bool) → eqb (length u) (a * 256 + b) ≡ q → cond q (Whole x u) Cut ≡ Whole t v → Stands (x ∷ a ∷ b ∷ u) t v
    go false q e = cut_not e
    go true q e =
        let size : length u ≡ a * 256 + b = eqb-true (length u) (a * 256 + b) q in
        let tag : x ≡ t = cc in
        let value : Whole x u ≡ Whole t v = e in
        record {
          framed = λ rest.
              fields_cons x a b (u ++ rest)
              ∙ rw (take_at u rest (a * 256 + b) size, drop_at u rest (a * 256 + b) size, le-ltb (length u) (a * 256 + b) (omega arith)) (ap (λ (f : Field). f ∷ fields_of rest) value);
          tag = tag;
        }

-- a field's bytes are read as that field
pub field_framed : (tag : Char) (v : List ℕ) → Framed (field tag v) (Whole (code tag) v ∷ [])
field_framed tag v = (field_stands (field tag v) (code tag) v (rw (eq-eqb (length v) (length v / 256 * 256 + length v % 256) (omega arith)) refl)).framed

pub cut_none : (n : ℕ) → cut_in n [] ≡ []
cut_none zero = refl
cut_none (suc n) = refl

-- a book's fields are those of its cuts
cuts_are : (n : ℕ) (s : List ℕ) → length s ≤ n → fields_in n s ≡ map field_in (cut_in n s)
cuts_are zero s h = refl
cuts_are (suc n) [] h = refl
cuts_are (suc n) (t ∷ []) h = refl
cuts_are (suc n) (t ∷ a ∷ []) h = refl
cuts_are (suc n) (t ∷ a ∷ b ∷ s) h = go (a * 256 + b) (ltb (length (take (a * 256 + b) s)) (a * 256 + b)) refl (cuts_are n (drop (a * 256 + b) s) (simp length-drop (omega arith)))
  where
    go : (d : ℕ) (q : Bool) → ltb (length (take d s)) d ≡ q → fields_in n (drop d s) ≡ map field_in (cut_in n (drop d s)) →
        cond q (Cut ∷ []) (Whole t (take d s) ∷ fields_in n (drop d s)) ≡ cond (eqb (length (take d s)) d) (Whole t (take d s)) Cut ∷ map field_in (cut_in n (drop d s))
    go d true q ih =
        let short : length (take d s) < d = ltb-true (length (take d s)) d q in
        let few : length s ≤ d = omega (arith, length-take d s) in
        rw (ne_eqb (length (take d s)) d (λ z. omega arith), drop_of_length-le s few, cut_none n)
    go d false q ih =
        let long : d ≤ length (take d s) = ltb-false (length (take d s)) d q in
        rw (eq-eqb (length (take d s)) d (omega (arith, length-take d s)), ih)

pub fields_cuts : (s : List ℕ) → fields_of s ≡ map field_in (cut_in (length s) s)
unfolding fields_of
fields_cuts s = cuts_are (length s) s (omega arith)

pub cuts_joined : (n : ℕ) (s : List ℕ) → length s ≤ n → joined (λ k. k) (cut_in n s) ≡ s
cuts_joined zero [] h = refl
cuts_joined zero (x ∷ s) h = absurd (omega arith)
cuts_joined (suc n) [] h = refl
cuts_joined (suc n) (t ∷ []) h = refl
cuts_joined (suc n) (t ∷ a ∷ []) h = refl
cuts_joined (suc n) (t ∷ a ∷ b ∷ s) h =
    let d = a * 256 + b in
    rw (cuts_joined n (drop d s) (simp length-drop (omega arith)), take-append-drop d s)

-- one field more in front: of the terms or of a group that goes on, or with it a group or the end begins
abbrev pub with_field : List ℕ → Parts → Parts
with_field k p = record { terms = k ++ p.terms; groups = p.groups; end = p.end }

abbrev pub with_group : List ℕ → Parts → Parts
with_group k p = record { terms = []; groups = (k ++ p.terms) ∷ p.groups; end = p.end }

abbrev pub with_end : List ℕ → Parts → Parts
with_end k p = record { terms = []; groups = []; end = k ++ together p }

behind_joined : (k : List ℕ) (p : Parts) → together (behind k p) ≡ k ++ together p
behind_joined k p = go (is "C" (get_or k 0 0)) (is "Z" (get_or k 0 0))
  where
    go : (c z : Bool) → together (cond c (with_group k p) (cond z (with_end k p) (with_field k p))) ≡ k ++ together p
    go true z = simp append_assoc
    go false true = refl
    go false false = simp append_assoc

parts_joined : (ks : List (List ℕ)) → together (parts_in ks) ≡ joined (λ k. k) ks
parts_joined [] = refl
parts_joined (k ∷ ks) = behind_joined k (parts_in ks) ∙ rw (parts_joined ks)

-- "a book in parts": nothing is lost
pub parts_together : (s : List ℕ) → together (parts_of s) ≡ s
unfolding parts_of
parts_together s = parts_joined (cut_in (length s) s) ∙ cuts_joined (length s) s (omega arith)
