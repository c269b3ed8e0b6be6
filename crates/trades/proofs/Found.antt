-- What the definitions of the trades give for a field that was found at a place, and where none was.
-- Assumes nothing.
use Prim.Native.Nat.{ℕ, ◌+◌}
use mathlib.Core.Path.{◌≡◌, refl}
use mathlib.Core.List.{List, [], ◌∷◌}
use mathlib.Core.Bool.{Bool, cond, ◌||◌}
use lib.ListN.{drop}
use lib.IntN.{ℤ, ◌+ℤ◌}
use Rattle.rules.specs.declared.Fen.{Fen}
use Rattle.rules.specs.Refusal as refusal
use Rattle.rules.specs.Text.{is}
use Rattle.rules.specs.Opening.{opening_of}
use Rattle.rules.specs.Fields.{Field, Cut, fields_of}
use Rattle.rules.specs.Standing.{gain_of}
use Rattle.laws.specs.Gains.{lots_on}
use Rattle.fields.specs.declared.Found.TheVariants.{Short}
use Rattle.fields.specs.First.{first_at}
use Rattle.fields.specs.Laws.{Stands, Nothing, none, cut, nothing}
use Rattle.fields.specs.Reading.{refused_at}
use Rattle.fields.proofs.Due.{value, ends}
use Rattle.trades.specs.declared.Order.{Order}
use Rattle.trades.specs.declared.TradesAt.TheVariants.{Closed, Refused}
use Rattle.trades.specs.Trades.{opening, order_after, trades_from}

module _ (at : ℕ) (fs : List Field) (h : first_at at fs ≡ Short) where
  pub trades_short : (x : ℕ) (long : Bool) (s : Fen) (sum : ℕ) (gain : ℤ) (o : Order) → trades_from x long s at sum gain o fs ≡ Refused (refused_at refusal.cut_short at)
  trades_short x long s sum gain o = go fs (nothing at fs h)
    where
      go : (l : List Field) → Nothing l → trades_from x long s at sum gain o l ≡ Refused (refused_at refusal.cut_short at)
      go [] none = refl
      go (Cut ∷ l) cut = refl
      go (Rattle.rules.specs.Fields.Whole _ _ ∷ l) x6 = elim x6 [ ]

module _ (s : List ℕ) (at t start end : ℕ) (k : Stands s at t start end) where
  pub trades_found : (x : ℕ) (long : Bool) (p : Fen) (sum : ℕ) (gain : ℤ) (o : Order) →
      trades_from x long p at sum gain o (fields_of (drop at s))
      ≡ cond (is "C" t || is "Z" t) (Closed at sum gain o.kept)
      (cond (is "B" t || is "A" t)
      (opening x p at (opening_of (is "B" t) (value s at t start end k)) λ u.
      trades_from x long p end (sum + lots_on long u) (gain +ℤ gain_of long p u.price (lots_on long u)) (order_after long o u) (fields_of (drop end s)))
      (Refused (refused_at refusal.misplaced at)))
  trades_found x long p sum gain o = rw (k.fields, ends s at t start end k)
