-- The total gain of a customer by the list of its trades by place: where those on the net side come in order, that of the list as it stands; in any
-- order, by an edge; and the same for trades rearranged.
-- Assumes nothing.
use Prim.Native.Nat.{ℕ, ◌+◌, ◌-◌, ◌≤◌, min}
use Rattle.std.specs.Prelude.{◌≡◌, Bool, eqb, ℤ, pos}
use Rattle.std.proofs.Math.Path.{refl}
use Rattle.std.proofs.Common.{sym, ap, ◌∙◌}
use mathlib.Core.List.{List, [], ◌∷◌}
use native.Mathlib.Omega.{arith}
use Rattle.rules.specs.declared.Fen.{Fen}
use Rattle.rules.specs.declared.Terms.{Terms}
use Rattle.rules.specs.declared.Trade.{Trade}
use Rattle.rules.specs.Book.{Seat, Customer, on_side}
use Rattle.rules.specs.Standing.{gain_of, gain_from, total_gain, standing}
use Rattle.laws.specs.ByTest.{by_test}
use Rattle.laws.specs.Gains.{lots_on, gain_none, counted_is}
use Rattle.order.specs.Order.{in_front, arranged, of_stamp, Rearranged, InOrder, lots_from, newest, kept_gain}
use Rattle.order.specs.Sorted.{rearranged_same}
use Rattle.order.specs.Edge.{newest_by_edge}
use Rattle.order.specs.Side.{sided, newest_in_order}
use Rattle.order.specs.Trades.{when, reading, reading_arranged}

-- the trades on the side come in order of their stamps
abbrev pub OnSideInOrder : Bool → List Trade → Type 0
OnSideInOrder long ts = InOrder when (sided (on_side long) ts)

module _ (long : Bool) (s : Fen) where
  abbrev pub gain_in : Trade → ℕ → ℤ
  gain_in t n = gain_of long s t.price n

  pub gain_newest : (need : ℕ) (ts : List Trade) → gain_from long s need ts ≡ newest (lots_on long) gain_in need ts
  unfolding gain_from newest
  gain_newest need [] = refl
  gain_newest need (t ∷ ts) = rw (counted_is long need t, gain_newest (need - min (lots_on long t) need) ts)

  -- where no lots are needed, none count
  pub gain_of_none : (ts : List Trade) → gain_from long s 0 ts ≡ pos 0
  unfolding gain_from
  gain_of_none [] = refl
  gain_of_none (t ∷ ts) =
      let z : min (lots_on long t) 0 ≡ 0 = omega arith in
      rw (counted_is long 0 t, z, gain_none long s t.price, gain_of_none ts)

  -- trades in order are newest first as they are held
  pub gain_in_order : (need : ℕ) (ts : List Trade) → OnSideInOrder long ts → gain_from long s need (arranged when ts) ≡ gain_from long s need ts
  gain_in_order need ts o =
      gain_newest need (arranged when ts)
      ∙ newest_in_order (on_side long) (lots_on long) gain_in (λ t off. rw off) (λ t. gain_none long s t.price) when need ts o
      ∙ sym (gain_newest need ts)

  -- in any order, by an edge
  pub gain_by_edge : (e need : ℕ) (ts : List Trade) → lots_from when (lots_on long) (e + 1) ts ≤ need → need ≤ lots_from when (lots_on long) e ts →
      gain_from long s need (arranged when ts) ≡ kept_gain when (lots_on long) gain_in e (lots_from when (lots_on long) e ts - need) ts
  gain_by_edge e need ts h k = gain_newest need (arranged when ts) ∙ newest_by_edge when (lots_on long) gain_in e need ts h k

-- ---- rearranged
of_front : (d : ℕ) (ts before : List Trade) → of_stamp when d (in_front ts before) ≡ in_front (of_stamp when d ts) (of_stamp when d before)
of_front d [] before = refl
of_front d (t ∷ ts) before = of_front d ts (t ∷ before) ∙ by_test (eqb (when t) d) (λ e. rw e) (λ e. rw e)

front_same : (ts us : List Trade) → Rearranged when ts us → Rearranged when (in_front ts []) (in_front us [])
front_same ts us r = record { same = λ d. of_front d ts [] ∙ ap (λ (l : List Trade). in_front l []) (r.same d) ∙ sym (of_front d us []) }

-- "so long as trades of equal day and minute keep their order": bought and sold together, in the order of the book
pub rearranged_held : (ts us : List Trade) → Rearranged when ts us → reading ts [] ≡ reading us []
unfolding arranged
rearranged_held ts us r =
    reading_arranged ts [] ∙ rearranged_same when (in_front ts []) (in_front us []) (front_same ts us r) ∙ sym (reading_arranged us [])

-- the same customer, with the same gain and standing
module _ (code : List ℕ) (seats : List Seat) (ts us : List Trade) (r : Rearranged when ts us) where
  abbrev pub having : List Trade → Customer
  having l = record { code = code; seats = seats; trades = reading l [] }

  pub rearranged_customer : having ts ≡ having us
  rearranged_customer = ap (λ (l : List Trade). record { code = code; seats = seats; trades = l }) (rearranged_held ts us r)

  pub rearranged_gain : (terms : Terms) → total_gain terms (having ts) ≡ total_gain terms (having us)
  rearranged_gain terms = ap (total_gain terms) rearranged_customer

  pub rearranged_standing : (terms : Terms) → standing terms (having ts) ≡ standing terms (having us)
  rearranged_standing terms = ap (standing terms) rearranged_customer
