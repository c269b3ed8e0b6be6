-- What the figure that is due comes to: where its field stands, and where it was refused.
-- Assumes nothing.
use Prim.Native.Nat.{ℕ, ◌+◌, ◌-◌, ◌≤◌}
use mathlib.Core.Path.{◌≡◌, refl, sym, ap, ◌∙◌}
use mathlib.Core.List.{List, [], ◌∷◌}
use mathlib.Core.Bool.{Bool, true, false, cond}
use native.Mathlib.Omega.{arith}
use lib.ListN.{length, take, drop}
use lib.Dec.{eqb}
use Rattle.rules.specs.declared.Form.{Form}
use Rattle.rules.specs.Refusal as refusal
use Rattle.rules.specs.Figures.{figure_of}
use Rattle.rules.specs.Fields.{Field, Cut, fields_of}
use Rattle.fields.specs.declared.Found.{Found}
use Rattle.fields.specs.declared.Found.TheVariants.{Short}
use Rattle.fields.specs.declared.Found.TheVariants.{Field as FieldAt}
use Rattle.fields.specs.declared.Refusal.{Refusal}
use Rattle.fields.specs.declared.DueAt.TheVariants.{There, Refused}
use Rattle.fields.specs.declared.FigureAt.TheVariants.{Refused as NoFigure}
use Rattle.fields.specs.First.{first_at}
use Rattle.fields.specs.Laws.{Stands, stands, Nothing, none, cut, nothing}
use Rattle.fields.specs.Reading.{refused_at, due_in, figure_at, figure_from}

module _ (at : ℕ) (fs : List Field) (h : first_at at fs ≡ Short) where
  figure_short : (tag : ℕ) (form : Form) → figure_from at tag form fs ≡ NoFigure (refused_at refusal.cut_short at)
  figure_short tag form = go fs (nothing at fs h)
    where
      go : (l : List Field) → Nothing l → figure_from at tag form l ≡ NoFigure (refused_at refusal.cut_short at)
      go [] none = refl
      go (Cut ∷ l) cut = refl
      go (Rattle.rules.specs.Fields.Whole _ _ ∷ l) x5 = elim x5 [ ]

module _ (s : List ℕ) (at t start end : ℕ) (k : Stands s at t start end) where
  abbrev pub value : List ℕ
  value = take (end - start) (drop start s)

  pub ends : at + 3 + length value ≡ end
  ends = omega (arith, k.size, k.begins, k.order)

  figure_found : (tag : ℕ) (form : Form) →
      figure_from at tag form (fields_of (drop at s)) ≡ cond (eqb t tag) (figure_at at end (figure_of form value)) (NoFigure (refused_at refusal.misplaced at))
  figure_found tag form = rw (k.fields, ends)

differ : {start end : ℕ} {r : Refusal} → Refused r ≡ There start end → ⊥
differ h = let z : ◌≡◌ {A = ℕ} 0 1 = cc in omega arith

-- the field that is due stands there, or it does not
module _ (s : List ℕ) (at tag : ℕ) where
  abbrev fields : List Field
  fields = fields_of (drop at s)

  pub record Due (start end : ℕ) : Type 0 where
    pub order : start ≤ end
    pub inside : end ≤ length s
    pub figure : (form : Form) → figure_from at tag form fields ≡ figure_at at end (figure_of form (take (end - start) (drop start s)))

  pub due_there : (start end : ℕ) → due_in at tag (first_at at fields) ≡ There start end → Due start end
  due_there start end h = go (first_at at fields) refl h
    where
      go : (f : Found) → first_at at fields ≡ f → due_in at tag f ≡ There start end → Due start end
      go Short e h = absurd (differ h)
      go (FieldAt t a z) e h = tested (eqb t tag) refl h
        where
          tested : (b : Bool) → eqb t tag ≡ b → cond b (There a z) (Refused (refused_at refusal.misplaced at)) ≡ There start end → Due start end
          tested false b h = absurd (differ h)
          tested true b h =
              let first : a ≡ start = cc in
              let last : z ≡ end = cc in
              let k : Stands s at t start end = rw (← first, ← last) (stands s at t a z e) in
              record { order = k.order; inside = k.inside; figure = λ form. figure_found s at t start end k tag form ∙ simp b }

  pub due_refused : (r : Refusal) → due_in at tag (first_at at fields) ≡ Refused r → (form : Form) → figure_from at tag form fields ≡ NoFigure r
  due_refused r h form = go (first_at at fields) refl h
    where
      go : (f : Found) → first_at at fields ≡ f → due_in at tag f ≡ Refused r → figure_from at tag form fields ≡ NoFigure r
      go Short e h = let same : refused_at refusal.cut_short at ≡ r = cc in figure_short at fields e tag form ∙ ap NoFigure same
      go (FieldAt t a z) e h = tested (eqb t tag) refl h
        where
          tested : (b : Bool) → eqb t tag ≡ b → cond b (There a z) (Refused (refused_at refusal.misplaced at)) ≡ Refused r → figure_from at tag form fields ≡ NoFigure r
          tested true b h = absurd (differ (sym h))
          tested false b h =
              let same : refused_at refusal.misplaced at ≡ r = cc in
              let found : figure_from at tag form fields ≡ NoFigure (refused_at refusal.misplaced at) = figure_found s at t a z (stands s at t a z e) tag form ∙ simp b in
              found ∙ ap NoFigure same
