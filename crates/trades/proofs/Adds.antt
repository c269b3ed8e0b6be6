-- What is read of a customer's trades, one after the other: the customer holds them newest first, and their lots, their gain and their order on
-- the side are by place.
-- Assumes nothing.
use Prim.Native.Nat.{ℕ, ◌+◌, ◌≤◌}
use Prim.Native.Char.{code}
use mathlib.Core.Path.{◌≡◌, refl, sym, ap, subst, ◌∙◌}
use mathlib.Core.List.{List, [], ◌∷◌}
use mathlib.Core.Bool.{Bool, true, false, ◌&&◌, ◌||◌}
use native.Mathlib.Omega.{arith}
use lib.Dec.{leb}
use lib.IntN.{ℤ, pos, ◌+ℤ◌}
use borrow.Author.Tests.{leb-true, eqb-true}
use Rattle.rules.specs.declared.Fen.{Fen}
use Rattle.rules.specs.declared.Trade.{Trade}
use Rattle.rules.specs.Text.{is}
use Rattle.rules.specs.Opening.{among}
use Rattle.rules.specs.Book.{Customer, on_side, opened, traded}
use Rattle.rules.specs.Standing.{gain_of}
use Rattle.laws.specs.ByTest.{by_test}
use Rattle.laws.specs.Gains.{lots_on, all_gain, Priced, none}
use Rattle.order.specs.Order.{arranged}
use Rattle.order.specs.Rising.{Rising, rising_none, rising_more}
use Rattle.order.specs.Side.{sided}
use Rattle.order.specs.Trades.{when, among_arranged, priced_among}
use Rattle.trades.specs.declared.Order.{Order}
use Rattle.trades.specs.Trades.{none_yet, order_after}

-- a field that closes a group is no trade
pub closing_no_trade : (t : ℕ) → (is "C" t || is "Z" t) ≡ true → (is "B" t || is "A" t) ≡ false
closing_no_trade t h =
    by_test (is "C" t)
    (λ c. let n : t ≡ code "C" = eqb-true t (code "C") c in rw n)
    (λ c. let z = rw c at h in let n : t ≡ code "Z" = eqb-true t (code "Z") z in rw n)

module _ (long : Bool) (s : Fen) where
  -- those on the side come in order, as far as they are read
  abbrev Ordered : Order → List Trade → Type 0
  Ordered o ts = o.kept ≡ true → Rising when o.last (sided (on_side long) ts)

  ordered_more : (o : Order) (x : Trade) (ts : List Trade) → Ordered o ts → Ordered (order_after long o x) (x ∷ ts)
  ordered_more o x ts r =
      by_test (on_side long x)
      (λ side. rw side (λ k.
      let (kept, later) = both o.kept (leb o.last (when x)) k in
      rising_more when o.last x (sided (on_side long) ts) (leb-true o.last (when x) later) (r kept)))
      (λ side. rw side r)
    where
      both : (a b : Bool) → (a && b) ≡ true → (a ≡ true) × (b ≡ true)
      both true b h = (refl, h)
      both false b h = (h, absurd (let z : ◌≡◌ {A = ℕ} 0 1 = cc in omega arith))

  -- the trades that are read make what is read of them
  pub record Adds (c : Customer) (ts : List Trade) (sum : ℕ) (gain : ℤ) (o : Order) : Type 0 where
    pub held : c.trades ≡ arranged when ts
    pub lots : sum ≡ opened long ts
    pub gained : gain ≡ all_gain long s ts
    pub order : Ordered o ts
    pub priced : Priced c.trades

  -- nothing is read yet
  pub adds_none : (c : Customer) → c.trades ≡ [] → Adds c [] 0 (pos 0) none_yet
  unfolding arranged all_gain
  adds_none c h = record { held = h; lots = refl; gained = refl; order = λ k. rising_none when; priced = subst Priced (sym h) none }

  pub adds_more : (c : Customer) (ts : List Trade) (sum : ℕ) (gain : ℤ) (o : Order) (x : Trade) → x.price.0 ≤ 9_999_999 → x.lots.0 ≤ 1_000_000 →
      Adds c ts sum gain o → Adds (traded c x) (x ∷ ts) (sum + lots_on long x) (gain +ℤ gain_of long s x.price (lots_on long x)) (order_after long o x)
  unfolding all_gain
  adds_more c ts sum gain o x p l a =
      record {
        held = ap (among x) a.held ∙ among_arranged x ts;
        lots = omega (arith, a.lots);
        gained = ap (λ (z : ℤ). z +ℤ gain_of long s x.price (lots_on long x)) a.gained;
        order = ordered_more o x ts a.order;
        priced = priced_among x p l a.priced;
      }
