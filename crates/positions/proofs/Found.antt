-- What a position comes to where its figures were found, and a seat's code where its field was.
-- Assumes nothing.
use Prim.Native.Nat.{ℕ, ◌+◌, ◌-◌}
use Prim.Native.Char.{code}
use mathlib.Core.Path.{◌≡◌, refl, ◌∙◌}
use mathlib.Core.List.{List, [], ◌∷◌}
use mathlib.Core.Bool.{Bool, true, false, cond}
use native.Mathlib.Omega.{arith}
use lib.ListN.{length, take, drop}
use Rattle.rules.specs.declared.Terms.{Terms}
use Rattle.rules.specs.Refusal as refusal
use Rattle.rules.specs.Figures.{held_form, lots}
use Rattle.rules.specs.Text.{is}
use Rattle.rules.specs.Fields.{Field, Cut, fields_of}
use Rattle.rules.specs.Book.{overdrawn}
use Rattle.fields.specs.declared.FigureAt.TheVariants.{Value}
use Rattle.fields.specs.declared.Found.TheVariants.{Short}
use Rattle.fields.specs.First.{first_at}
use Rattle.fields.specs.Laws.{Stands, Nothing, none, cut, nothing}
use Rattle.fields.specs.Reading.{refused_at, figure_from}
use Rattle.codes.specs.declared.Code.TheVariants.{Key}
use Rattle.codes.specs.Codes.{code_of, given_in}
use Rattle.positions.specs.declared.KeyAt.TheVariants.{New as NewKey}
use Rattle.positions.specs.declared.KeyAt.TheVariants.{Refused as NoKey}
use Rattle.positions.specs.Seats.{new_key, key_from, begins_seat}
use Rattle.positions.specs.declared.PositionAt.TheVariants.{Read as ReadPosition}
use Rattle.positions.specs.declared.PositionAt.TheVariants.{Refused as NoPosition}
use Rattle.positions.specs.Position.{position_of}

-- K, H and Q were read: 8, or the position
pub position_found : (s : List ℕ) (terms : Terms) (at atH atQ next k h q : ℕ) →
    figure_from at (code "K") held_form (fields_of (drop at s)) ≡ Value k atH →
    figure_from atH (code "H") held_form (fields_of (drop atH s)) ≡ Value h atQ →
    figure_from atQ (code "Q") held_form (fields_of (drop atQ s)) ≡ Value q next →
    (b : Bool) → overdrawn terms (record { long = lots k; short = lots h; unfilled = lots q }) ≡ b →
    position_of s terms at ≡ cond b (NoPosition (refused_at refusal.overdrawn atQ)) (ReadPosition (record { long = lots k; short = lots h; unfilled = lots q }) next)
unfolding position_of
position_found s terms at atH atQ next k h q ek eh eq b eb = rw (ek, eh, eq, eb)

-- no whole field stands there
pub key_short : (keys : List ℕ) (at : ℕ) (fs : List Field) → first_at at fs ≡ Short → key_from keys at fs ≡ NoKey (refused_at refusal.cut_short at)
key_short keys at fs h = go fs (nothing at fs h)
  where
    go : (fs : List Field) → Nothing fs → key_from keys at fs ≡ NoKey (refused_at refusal.cut_short at)
    go [] none = refl
    go (Cut ∷ fs) cut = refl
    go (Rattle.rules.specs.Fields.Whole _ _ ∷ fs) x5 = elim x5 [ ]

pub begins_short : (at : ℕ) (fs : List Field) → first_at at fs ≡ Short → begins_seat fs ≡ false
begins_short at fs h = go fs (nothing at fs h)
  where
    go : (fs : List Field) → Nothing fs → begins_seat fs ≡ false
    go [] none = refl
    go (Cut ∷ fs) cut = refl
    go (Rattle.rules.specs.Fields.Whole _ _ ∷ fs) x5 = elim x5 [ ]

-- one does
module _ (s : List ℕ) (at t start end : ℕ) (k : Stands s at t start end) where
  pub begins_found : begins_seat (fields_of (drop at s)) ≡ is "I" t
  begins_found = rw k.fields

  pub key_found : (keys : List ℕ) →
      key_from keys at (fields_of (drop at s)) ≡ cond (is "I" t) (new_key keys at end (code_of (take (end - start) (drop start s)))) (NoKey (refused_at refusal.misplaced at))
  key_found keys =
      let e : at + 3 + length (take (end - start) (drop start s)) ≡ end = omega (arith, k.size, k.begins, k.order) in
      rw (k.fields, e)

  -- an I with a code: 13, or its key
  pub key_coded : (keys : List ℕ) (x : ℕ) (g : Bool) → is "I" t ≡ true → code_of (take (end - start) (drop start s)) ≡ Key x → given_in keys x ≡ g →
      key_from keys at (fields_of (drop at s)) ≡ cond g (NoKey (refused_at refusal.seat_twice at)) (NewKey x end)
  key_coded keys x g i c e = key_found keys ∙ rw (i, c, e)
