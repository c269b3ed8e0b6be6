-- The trades of a book have stamps of a hundred years: all lots are from the first of these on, and none from their end on.
-- Assumes nothing.
use Prim.Native.Nat.{ℕ}
use mathlib.Core.Path.{◌≡◌, refl, sym, ◌∙◌}
use mathlib.Core.List.{List, []}
use mathlib.Core.Bool.{Bool, true, false, cond, ◌||◌}
use mathlib.Core.List.{◌∷◌}
use native.Mathlib.Omega.{arith}
use lib.ListN.{drop}
use Rattle.rules.specs.declared.Opening.{Opening}
use Rattle.rules.specs.declared.Opening.TheVariants.{Made, Comma, Malformed}
use Rattle.rules.specs.Text.{is}
use Rattle.rules.specs.Opening.{opening_of}
use Rattle.rules.specs.Fields.{Field, Whole, Cut, fields_of}
use Rattle.laws.specs.Gains.{lots_on}
use Rattle.order.specs.Span.{AllWithin, from_low, from_end}
use Rattle.order.specs.Stamps.{stamp_within}
use Rattle.order.specs.Trades.{when}
use Rattle.trades.specs.Walk.{made, trades_in, trades_at}
use Rattle.newest.specs.Search.{from_in, Range, Sought}

module _ (long : Bool) where
  abbrev InCentury : List Field → Type 0
  InCentury fs = AllWithin when (lots_on long) 28_800_000_000 30_240_000_000 (trades_in fs)

  in_century : (fs : List Field) → InCentury fs
  in_century [] = tt
  in_century (Cut ∷ fs) = tt
  in_century (Whole t v ∷ fs) = go (is "B" t || is "A" t) (opening_of (is "B" t) v) refl (in_century fs)
    where
      go : (b : Bool) (o : Opening) → opening_of (is "B" t) v ≡ o → InCentury fs →
          AllWithin when (lots_on long) 28_800_000_000 30_240_000_000 (cond b (made o λ x. x ∷ trades_in fs) [])
      go false o e h = tt
      go true Comma e h = tt
      go true Malformed e h = tt
      go true (Made x d) e h = let w = stamp_within (is "B" t) v x d e in (w.0, w.1, h)

  pub spanned : (book : List ℕ) (first need opened : ℕ) → Sought long book first need opened → Range (from_in long book first) need 28_800_000_000 1_440_000_000 opened
  unfolding from_in
  spanned book first need opened s =
      let within = in_century (fields_of (drop first book)) in
      record {
        has = s.covered.has ∙ sym (from_low when (lots_on long) 28_800_000_000 30_240_000_000 (trades_at book first) within);
        enough = s.covered.enough;
        over = omega (arith, from_end when (lots_on long) 28_800_000_000 30_240_000_000 (trades_at book first) within, s.some);
      }
