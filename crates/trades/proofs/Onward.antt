-- What the next trade says of the trades in the book, and what it is for a field that was found at a place.
-- Assumes nothing.
use Prim.Native.Nat.{ℕ, ◌+◌}
use mathlib.Core.Path.{◌≡◌, refl, subst, sym}
use mathlib.Core.List.{List, [], ◌∷◌}
use mathlib.Core.Bool.{Bool, true, false, cond, ◌||◌, and-eq-true_iff}
use native.Mathlib.Omega.{arith}
use lib.ListN.{length, drop}
use Rattle.rules.specs.declared.Opening.{Opening}
use Rattle.rules.specs.declared.Opening.TheVariants.{Made, Comma, Malformed}
use Rattle.rules.specs.Text.{is}
use Rattle.rules.specs.Opening.{opening_of}
use Rattle.rules.specs.Fields.{Field, Whole, Cut, fields_of}
use Rattle.laws.specs.Fields.{fields_next}
use Rattle.laws.specs.Figures.{opening_within}
use Rattle.figures.specs.Good.{good}
use Rattle.fields.specs.declared.Found.TheVariants.{Short}
use Rattle.fields.specs.First.{first_at}
use Rattle.fields.specs.Laws.{Stands, Nothing, none, cut, nothing}
use Rattle.fields.proofs.Due.{value, ends}
use Rattle.trades.specs.declared.Next.{Next}
use Rattle.trades.specs.declared.Next.TheVariants.{End}
use Rattle.trades.specs.Walk.{next_of, next_from, Readable, Tells}

-- ---- what code finds
pub next_short : (at : ℕ) (fs : List Field) → first_at at fs ≡ Short → next_from at fs ≡ End
next_short at fs h = go fs (nothing at fs h)
  where
    go : (l : List Field) → Nothing l → next_from at l ≡ End
    go [] none = refl
    go (Cut ∷ l) cut = refl
    go (Whole _ _ ∷ l) x5 = elim x5 [ ]

pub next_found : (s : List ℕ) (at t start end : ℕ) (k : Stands s at t start end) →
    next_from at (fields_of (drop at s)) ≡ cond (is "B" t || is "A" t) (next_of (opening_of (is "B" t) (value s at t start end k)) end) End
next_found s at t start end k = rw (k.fields, ends s at t start end k)

-- a trade that is found was read before
pub found_good : (s : List ℕ) (at t start end : ℕ) (k : Stands s at t start end) → Readable s at → (is "B" t || is "A" t) ≡ true →
    good (opening_of (is "B" t) (value s at t start end k)) ≡ true
found_good s at t start end k h b = ((and-eq-true_iff _ _).0 (rw (k.fields, b) at h)).0

-- ---- what it means
module _ (book : List ℕ) (at : ℕ) where
  abbrev Telling : List Field → Next → Type 0
  Telling fs r = fields_of (drop at book) ≡ fs → Tells book at r

  told : (fs : List Field) → Telling fs (next_from at fs)
  told [] e = rw e
  told (Cut ∷ fs) e = rw e
  told (Whole t v ∷ fs) e = go (is "B" t || is "A" t) (opening_of (is "B" t) v) refl refl
    where
      go : (b : Bool) (o : Opening) → (is "B" t || is "A" t) ≡ b → opening_of (is "B" t) v ≡ o → Tells book at (cond b (next_of o (at + 3 + length v)) End)
      go false o eb eo = rw (e, eb)
      go true Comma eb eo = rw (e, eb, eo)
      go true Malformed eb eo = rw (e, eb, eo)
      go true (Made x d) eb eo =
          let k = fields_next book at t v fs e in
          let w = opening_within (is "B" t) v x d eo in
          record {
            list = rw (e, eb, eo, k.rest);
            on = omega arith;
            inside = k.inside;
            readable = λ h. rw (← k.rest) (rw (e, eb, eo) at h);
            price_most = w.price_most;
            lots_most = w.lots_most;
          }

  pub next_tells : (r : Next) → r ≡ next_from at (fields_of (drop at book)) → Tells book at r
  next_tells r e = subst (Tells book at) (sym e) (told (fields_of (drop at book)) refl)
