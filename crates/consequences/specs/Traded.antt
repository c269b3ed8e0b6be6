-- A group by its fields: C, then its seats, then trades. Only a trade changes what a customer holds of trades, a trade may stand where a group may
-- end, and after it only trades; what they come to is what reading them one after the other holds.
-- Assumes nothing.
use Rattle.std.specs.Prelude.{ℕ, ◌≡◌, refl, List, [], ◌∷◌, Bool, true, false, not, ◌&&◌, ◌||◌, length, ltb}
use Prim.Native.Char.{code}
use Rattle.std.proofs.Common.{sym, ap, subst, ◌∙◌, eq-eqb, eqb-true}
use Rattle.rules.specs.declared.Terms.{Terms}
use Rattle.rules.specs.declared.Trade.{Trade}
use Rattle.rules.specs.declared.Opening.TheVariants.{Made}
use Rattle.rules.specs.Refusal as refusal
use Rattle.rules.specs.Limits.{most_seats}
use Rattle.rules.specs.Text.{is}
use Rattle.rules.specs.Codes.{is_code}
use Rattle.rules.specs.Figures.{held_form}
use Rattle.rules.specs.Opening.{opening_of}
use Rattle.rules.specs.Fields.{Field, Whole, Cut}
use Rattle.rules.specs.Book.{
  Customer,
  overdrawn,
  astray,
  seated,
  Step,
  Next,
  must,
  refuse,
  Part,
  DueI,
  DueK,
  DueH,
  DueQ,
  DueSeat,
  DueTrade,
  Group,
  Nobody,
  Open,
  seat_at,
  traded,
  sits,
  within,
  may_end,
}
use Rattle.laws.specs.ByTest.{by_test}
use Rattle.laws.specs.All2.{All2}
use Rattle.laws.specs.Keeps.{Keeps, must_keeps, cond_keeps, refuse_keeps, figure_keeps}
use Rattle.order.specs.Trades.{reading}
use Rattle.consequences.specs.Runs.{stop_not, then_next}
use Rattle.consequences.specs.Steps.{Any, must_next, refuse_next, trade_next}
use Rattle.consequences.specs.Described.{inside}

-- a trade's tag
abbrev pub trade_tag : ℕ → Bool
trade_tag t = is "B" t || is "A" t

pub by_tag : (P : ℕ → Type 0) → P (code "B") → P (code "A") → (t : ℕ) → trade_tag t ≡ true → P t
by_tag P b a t h =
    by_test (is "B" t)
    (λ e. subst P (sym (eqb-true t (code "B") e)) b)
    (λ e. subst P (sym (eqb-true t (code "A") (rw e at h))) a)

-- ---- where a trade may stand

-- where a group may end, and there as after a trade
pub trade_due : (terms : Terms) (part : Part) (c : Customer) (t : ℕ) (v : List ℕ) → trade_tag t ≡ true → within terms (Open part c) t v ≡ must (may_end part) (within terms (Open DueTrade c) t v)
unfolding within
trade_due terms part c t v = by_tag (λ u. within terms (Open part c) u v ≡ must (may_end part) (within terms (Open DueTrade c) u v)) (at part).0 (at part).1 t
  where
    at : (p : Part) → (within terms (Open p c) (code "B") v ≡ must (may_end p) (within terms (Open DueTrade c) (code "B") v)) × (within terms (Open p c) (code "A") v ≡ must (may_end p) (within terms (Open DueTrade c) (code "A") v))
    at DueI = (refl, refl)
    at (DueK s) = (refl, refl)
    at (DueH s) = (refl, refl)
    at (DueQ s) = (refl, refl)
    at DueSeat = (refl, refl)
    at DueTrade = (refl, refl)

-- ---- before the trades

-- a customer of the same code, with the trades that it held
abbrev pub Holds : List Trade → Group → Type 0
Holds ts Nobody = ⊥
Holds ts (Open q c) = c.trades ≡ ts

sits_holds : (v : List ℕ) (c : Customer) → Keeps Any (Holds c.trades) (sits v c)
sits_holds v c =
    refuse_keeps Any (Holds c.trades) _ (not (is_code v)) _ tt (λ e.
    refuse_keeps Any (Holds c.trades) _ (seated v c.seats) _ tt (λ f. refl))

pub front_holds : (terms : Terms) (part : Part) (c : Customer) (t : ℕ) (v : List ℕ) → trade_tag t ≡ false → Keeps Any (Holds c.trades) (within terms (Open part c) t v)
unfolding within
front_holds terms DueI c t v n = must_keeps Any (Holds c.trades) tt (is "I" t) _ (sits_holds v c)
front_holds terms (DueK s) c t v n = must_keeps Any (Holds c.trades) tt (is "K" t) _ (figure_keeps Any (Holds c.trades) held_form v _ tt tt (λ k h. refl))
front_holds terms (DueH s) c t v n = must_keeps Any (Holds c.trades) tt (is "H" t) _ (figure_keeps Any (Holds c.trades) held_form v _ tt tt (λ k h. refl))
front_holds terms (DueQ s) c t v n =
    must_keeps Any (Holds c.trades) tt (is "Q" t) _ (figure_keeps Any (Holds c.trades) held_form v _ tt tt (λ q h.
    refuse_keeps Any (Holds c.trades) _ (overdrawn terms (seat_at s.code s.position.long.0 s.position.short.0 q).position) _ tt (λ e. refl)))
front_holds terms DueSeat c t v n = cond_keeps Any (Holds c.trades) (is "I" t && ltb (length c.seats) most_seats) _ _ (λ e. sits_holds v c) (λ e. rw n tt)
front_holds terms DueTrade c t v n = rw n tt

-- ---- trades

-- a field is this trade under the terms: its price has as many decimals as they say, and is not too far from the settlement price
abbrev pub Trades : Terms → Field → Trade → Type 0
Trades terms Cut x = ⊥
Trades terms (Whole t v) x = (trade_tag t ≡ true) × (opening_of (is "B" t) v ≡ Made x terms.decimals) × (astray terms.settlement x.price ≡ false)

abbrev pub holding : Customer → List Trade → Customer
holding c ts = record { code = c.code; seats = c.seats; trades = ts }

-- the fields of trades lead on with what is read of them
pub trades_lead : (terms : Terms) (c : Customer) (fs : List Field) (ts : List Trade) → All2 (Trades terms) fs ts →
    inside terms (Open DueTrade c) fs ≡ Next (Open DueTrade (holding c (reading ts c.trades)))
unfolding within
trades_lead terms c [] [] h = refl
trades_lead terms c [] (t ∷ ts) h = absurd h
trades_lead terms c (f ∷ fs) [] h = absurd h
trades_lead terms c (Cut ∷ fs) (x ∷ ts) h = absurd h.0
trades_lead terms c (Whole t v ∷ fs) (x ∷ ts) h = rw (h.0.0, h.0.1, eq-eqb terms.decimals terms.decimals refl, h.0.2) (trades_lead terms (traded c x) fs ts h.1)

-- and fields that lead to where a group ends are trades
pub record Read (terms : Terms) (c : Customer) (fs : List Field) (d : Customer) : Type 0 where
  pub trades : List Trade
  pub all : All2 (Trades terms) fs trades
  pub held : d ≡ holding c (reading trades c.trades)

pub trades_read : (terms : Terms) (c : Customer) (fs : List Field) (last : Part) (d : Customer) → inside terms (Open DueTrade c) fs ≡ Next (Open last d) → Read terms c fs d
unfolding within
trades_read terms c [] last d e = record { trades = []; all = tt; held = cc }
trades_read terms c (Cut ∷ fs) last d e = stop_not e
trades_read terms c (Whole t v ∷ fs) last d e =
    let (next, w, rest) = then_next (within terms (Open DueTrade c) t v) (λ next. inside terms next fs) (Open last d) e in
    let (tag, o) = must_next (trade_tag t) _ next w in
    let judged : Trade → Step Group = λ x. refuse refusal.astray (astray terms.settlement x.price) (Next (Open DueTrade (traded c x))) in
    let (x, written, is-good) = trade_next terms.decimals (opening_of (is "B" t) v) judged next o in
    let (near, is-next) = refuse_next refusal.astray (astray terms.settlement x.price) (Next (Open DueTrade (traded c x))) next is-good in
    let same : Open DueTrade (traded c x) ≡ next = cc in
    let r = trades_read terms (traded c x) fs last d (ap (λ (g : Group). inside terms g fs) same ∙ rest) in
    record { trades = x ∷ r.trades; all = ((tag, written, near), r.all); held = r.held }
