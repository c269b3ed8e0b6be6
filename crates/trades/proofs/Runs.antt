-- What a run of trades comes to in a group: the same refusal, or a customer whose lots and gain on the side are those that were summed up.
-- Assumes nothing.
use Prim.Native.Nat.{ℕ, ◌+◌}
use mathlib.Core.Path.{◌≡◌, refl}
use mathlib.Core.List.{List, [], ◌∷◌}
use mathlib.Core.Bool.{Bool, true, false, cond, ◌||◌}
use lib.ListN.{length}
use lib.Dec.{eqb}
use lib.IntN.{ℤ, ◌+ℤ◌}
use Rattle.rules.specs.declared.Terms.{Terms}
use Rattle.rules.specs.declared.Trade.{Trade}
use Rattle.rules.specs.declared.Opening.{Opening}
use Rattle.rules.specs.declared.Opening.TheVariants.{Made, Comma, Malformed}
use Rattle.rules.specs.Refusal as refusal
use Rattle.rules.specs.Text.{is}
use Rattle.rules.specs.Opening.{opening_of}
use Rattle.rules.specs.Fields.{Field, Whole, Cut}
use Rattle.rules.specs.Book.{Customer, opened, astray, DueTrade, Open, traded, within}
use Rattle.rules.specs.Standing.{gain_of}
use Rattle.laws.specs.ByTest.{by_test}
use Rattle.laws.specs.Figures.{opening_within}
use Rattle.laws.specs.Gains.{lots_on, all_gain, Priced}
use Rattle.laws.specs.Groups.{Bad, closing, group_from}
use Rattle.order.specs.Order.{in_front, arranged}
use Rattle.order.specs.Trades.{when}
use Rattle.order.specs.Gains.{OnSideInOrder}
use Rattle.trades.specs.declared.Order.{Order}
use Rattle.trades.specs.declared.TradesAt.{TradesAt}
use Rattle.trades.specs.declared.TradesAt.TheVariants.{Closed, Refused}
use Rattle.fields.specs.Reading.{refused_at}
use Rattle.trades.specs.Trades.{opening, order_after, trades_from}
use Rattle.trades.specs.Walk.{trades_in}
use Rattle.trades.proofs.Adds.{closing_no_trade, Adds, adds_more}

module _ (long : Bool) (terms : Terms) (last_c : ℕ) where
  -- the group ends with a customer who holds the trades of c, which stand in the book as ts, and those of the fields; the latest place is first
  pub record Ends (c : Customer) (ts : List Trade) (at : ℕ) (fs : List Field) (place sum : ℕ) (gain : ℤ) (ordered : Bool) : Type 0 where
    pub customer : Customer
    pub back : List Field
    pub latest : List Trade
    pub seats : customer.seats ≡ c.seats
    pub reads : group_from terms (Open DueTrade c) last_c at fs ≡ closing last_c place back (Open DueTrade customer)
    pub stand : latest ≡ in_front (trades_in fs) ts
    pub held : customer.trades ≡ arranged when latest
    pub lots : sum ≡ opened long latest
    pub gained : gain ≡ all_gain long terms.settlement latest
    pub order : ordered ≡ true → OnSideInOrder long latest
    pub priced : Priced customer.trades

  abbrev pub Means : Customer → List Trade → ℕ → List Field → TradesAt → Type 0
  Means c ts at fs (Refused r) = group_from terms (Open DueTrade c) last_c at fs ≡ Bad r.number r.place
  Means c ts at fs (Closed place sum gain ordered) = Ends c ts at fs place sum gain ordered

  module _ (c : Customer) (ts : List Trade) (at : ℕ) (t : ℕ) (v : List ℕ) (fs : List Field) (plain : (is "C" t || is "Z" t) ≡ false) where
    -- a refusal, and a customer, of the fields after a trade are those of the fields with it
    extend : (x : Trade) (d : ℕ) → (is "B" t || is "A" t) ≡ true → opening_of (is "B" t) v ≡ Made x d → eqb d terms.decimals ≡ true → astray terms.settlement x.price ≡ false → (r : TradesAt) →
        Means (traded c x) (x ∷ ts) (at + 3 + length v) fs r → Means c ts at (Whole t v ∷ fs) r
    unfolding within
    extend x d b e places near (Refused r) m = rw (plain, b, e, places, near) m
    extend x d b e places near (Closed place sum gain ordered) m =
        record {
          customer = m.customer;
          back = m.back;
          latest = m.latest;
          seats = m.seats;
          reads = rw (plain, b, e, places, near) m.reads;
          stand = rw (b, e) m.stand;
          held = m.held;
          lots = m.lots;
          gained = m.gained;
          order = m.order;
          priced = m.priced;
        }

  pub run_means : (c : Customer) (ts : List Trade) (at sum : ℕ) (gain : ℤ) (o : Order) (fs : List Field) → Adds long terms.settlement c ts sum gain o →
      Means c ts at fs (trades_from terms.decimals long terms.settlement at sum gain o fs)
  unfolding within
  run_means c ts at sum gain o [] a = refl
  run_means c ts at sum gain o (Cut ∷ fs) a = refl
  run_means c ts at sum gain o (Whole t v ∷ fs) a =
      go (is "C" t || is "Z" t) (is "B" t || is "A" t) (opening_of (is "B" t) v) refl refl refl
      (λ x w. run_means (traded c x) (x ∷ ts) (at + 3 + length v) (sum + lots_on long x) (gain +ℤ gain_of long terms.settlement x.price (lots_on long x)) (order_after long o x) fs w)
    where
      go : (p₁ p₂ : Bool) (read : Opening) → (is "C" t || is "Z" t) ≡ p₁ → (is "B" t || is "A" t) ≡ p₂ → opening_of (is "B" t) v ≡ read →
          ((x : Trade) → Adds long terms.settlement (traded c x) (x ∷ ts) (sum + lots_on long x) (gain +ℤ gain_of long terms.settlement x.price (lots_on long x)) (order_after long o x) →
          Means (traded c x) (x ∷ ts) (at + 3 + length v) fs (trades_from terms.decimals long terms.settlement (at + 3 + length v) (sum + lots_on long x) (gain +ℤ gain_of long terms.settlement x.price (lots_on long x)) (order_after long o x) fs)) →
          Means c ts at (Whole t v ∷ fs)
          (cond p₁ (Closed at sum gain o.kept)
          (cond p₂ (opening terms.decimals terms.settlement at read λ x. trades_from terms.decimals long terms.settlement (at + 3 + length v) (sum + lots_on long x) (gain +ℤ gain_of long terms.settlement x.price (lots_on long x)) (order_after long o x) fs)
          (Refused (refused_at refusal.misplaced at))))
      go true p₂ read e b m ih =
          record {
            customer = c;
            back = Whole t v ∷ fs;
            latest = ts;
            seats = refl;
            reads = rw e;
            stand = rw (closing_no_trade t e);
            held = a.held;
            lots = a.lots;
            gained = a.gained;
            order = λ k. (a.order k).order;
            priced = a.priced;
          }
      go false false read e b m ih = rw (e, b)
      go false true Comma e b m ih = rw (e, b, m)
      go false true Malformed e b m ih = rw (e, b, m)
      go false true (Made x d) e b m ih =
          let w = opening_within (is "B" t) v x d m in
          let r = trades_from terms.decimals long terms.settlement (at + 3 + length v) (sum + lots_on long x) (gain +ℤ gain_of long terms.settlement x.price (lots_on long x)) (order_after long o x) fs in
          by_test (eqb d terms.decimals)
          (λ places.
          by_test (astray terms.settlement x.price)
          (λ far. rw (places, far) (rw (e, b, m, places, far)))
          (λ near. rw (places, near) (extend c ts at t v fs e x d b m places near r (ih x (adds_more long terms.settlement c ts sum gain o x w.price_most w.lots_most a)))))
          (λ places. rw places (rw (e, b, m, places)))
