-- Request [5]: a group is its front, C and its seats', and its trades. Where its fields lead to a customer, those before the first trade lead to the
-- same customer without trades, there the group may end, and all from there on are trades.
-- Assumes nothing.
use Rattle.std.specs.Prelude.{ℕ, ◌+◌, ◌≡◌, refl, List, [], ◌∷◌, ◌++◌, map, true, false, not}
use Rattle.std.proofs.Common.{sym, ap, subst, ◌∙◌, arith}
use Rattle.rules.specs.declared.Terms.{Terms}
use Rattle.rules.specs.declared.Trade.{Trade}
use Rattle.rules.specs.Division.{sum_of, one_if}
use Rattle.rules.specs.Fields.{Field, Whole, Cut}
use Rattle.rules.specs.Book.{Customer, Step, Stop, Next, Part, DueTrade, Group, Nobody, Open, within, may_end}
use Rattle.laws.specs.ByTest.{by_test}
use Rattle.laws.specs.All2.{All2}
use Rattle.laws.specs.Keeps.{Keeps}
use Rattle.order.specs.Trades.{reading}
use Rattle.consequences.specs.Rearranged.{is_trade, before_trades, from_trades}
use Rattle.consequences.specs.Runs.{then, stop_not, then_next}
use Rattle.consequences.specs.Steps.{Any, must_next}
use Rattle.consequences.specs.Framed.{field_in, field_stands}
use Rattle.consequences.specs.Described.{inside}
use Rattle.consequences.specs.Traded.{trade_tag, trade_due, Holds, front_holds, Trades, holding, trades_lead, trades_read}

-- ---- a front and its trades, as cuts

-- nothing is lost
pub front_trades : (ks : List (List ℕ)) → before_trades ks ++ from_trades ks ≡ ks
front_trades [] = refl
front_trades (k ∷ ks) = by_test (is_trade k) (λ e. rw e) (λ e. rw (e, front_trades ks))

-- how many are trades, and how many are not
abbrev pub a_trade : List ℕ → ℕ
a_trade k = one_if (is_trade k)

abbrev pub no_trade : List ℕ → ℕ
no_trade k = one_if (not (is_trade k))

pub none_before : (ks : List (List ℕ)) → sum_of a_trade (before_trades ks) ≡ 0
none_before [] = refl
none_before (k ∷ ks) = by_test (is_trade k) (λ e. rw e) (λ e. rw e (omega (arith, ap one_if e, none_before ks)))

-- cuts without trades and trades behind them are such a front and such trades
pub split_append : (ks ls : List (List ℕ)) → sum_of a_trade ks ≡ 0 → sum_of no_trade ls ≡ 0 → (before_trades (ks ++ ls) ≡ ks) × (from_trades (ks ++ ls) ≡ ls)
split_append [] [] h n = (refl, refl)
split_append [] (l ∷ ls) h n = by_test (is_trade l) (λ e. rw e (refl, refl)) (λ e. absurd (let z : 1 + sum_of no_trade ls ≡ 0 = rw e at n in omega arith))
split_append (k ∷ ks) ls h n =
    by_test (is_trade k)
    (λ e. absurd (let z : 1 + sum_of a_trade ks ≡ 0 = rw e at h in omega arith))
    (λ e. let r = split_append ks ls (omega arith) n in rw e (ap (λ (l : List (List ℕ)). k ∷ l) r.0, r.1))

-- cuts that write trades are trades
pub all_trades : (terms : Terms) (ks : List (List ℕ)) (ts : List Trade) → All2 (Trades terms) (map field_in ks) ts → sum_of no_trade ks ≡ 0
all_trades terms [] ts h = refl
all_trades terms (k ∷ ks) [] h = absurd h
all_trades terms (k ∷ ks) (t ∷ ts) h = omega (arith, go (field_in k) refl h.0, all_trades terms ks ts h.1)
  where
    go : (f : Field) → field_in k ≡ f → Trades terms f t → no_trade k ≡ 0
    go Cut e w = absurd w
    go (Whole x v) e w = rw (ap trade_tag (field_stands k x v e).tag ∙ w.0)

-- ---- what they lead to

pub inside_append : (terms : Terms) (g : Group) (fs gs : List Field) → inside terms g (fs ++ gs) ≡ then (inside terms g fs) λ next. inside terms next gs
inside_append terms g [] gs = refl
inside_append terms g (Cut ∷ fs) gs = refl
inside_append terms g (Whole t v ∷ fs) gs = go (within terms g t v) (λ next. inside_append terms next fs gs)
  where
    go : (r : Step Group) → ((next : Group) → inside terms next (fs ++ gs) ≡ then (inside terms next fs) λ last. inside terms last gs) →
        then r (λ next. inside terms next (fs ++ gs)) ≡ then (then r λ next. inside terms next fs) λ last. inside terms last gs
    go (Stop n) h = refl
    go (Next next) h = h next

-- trades where a group may end lead to where it may end
pub trades_end : (terms : Terms) (part : Part) (c : Customer) → may_end part ≡ true → (fs : List Field) (ts : List Trade) → All2 (Trades terms) fs ts →
    (last : Part) × (may_end last ≡ true) × (inside terms (Open part c) fs ≡ Next (Open last (holding c (reading ts c.trades))))
trades_end terms part c m [] [] h = (part, m, refl)
trades_end terms part c m [] (t ∷ ts) h = absurd h
trades_end terms part c m (f ∷ fs) [] h = absurd h
trades_end terms part c m (Cut ∷ fs) (x ∷ ts) h = absurd h.0
trades_end terms part c m (Whole t v ∷ fs) (x ∷ ts) h =
    (DueTrade, refl, rw (trade_due terms part c t v h.0.0, m) (trades_lead terms c (Whole t v ∷ fs) (x ∷ ts) h))

-- the customer whom the front leads to, and the trades behind it
pub record Split (terms : Terms) (part : Part) (c : Customer) (front trades : List (List ℕ)) (d : Customer) : Type 0 where
  pub last : Part
  pub customer : Customer
  pub leads : inside terms (Open part c) (map field_in front) ≡ Next (Open last customer)
  pub may_end_lem : may_end last ≡ true
  pub held : customer.trades ≡ c.trades
  pub made : List Trade
  pub all : All2 (Trades terms) (map field_in trades) made
  pub whole : d ≡ holding customer (reading made customer.trades)

module _ (terms : Terms) (part : Part) (c : Customer) (k : List ℕ) (ks : List (List ℕ)) (t : ℕ) (v : List ℕ) (f : field_in k ≡ Whole t v) (last : Part) (d : Customer)
    (e : inside terms (Open part c) (Whole t v ∷ map field_in ks) ≡ Next (Open last d)) where
  tag_is : is_trade k ≡ trade_tag t
  tag_is = ap trade_tag (field_stands k t v f).tag

  split_here : trade_tag t ≡ true → Split terms part c [] (k ∷ ks) d
  split_here b =
      let (next, w, rest) = then_next (within terms (Open part c) t v) (λ next. inside terms next (map field_in ks)) (Open last d) e in
      let (m, o) = must_next (may_end part) (within terms (Open DueTrade c) t v) next (sym (trade_due terms part c t v b) ∙ w) in
      let again : inside terms (Open DueTrade c) (Whole t v ∷ map field_in ks) ≡ Next (Open last d) = rw o rest in
      let r = trades_read terms c (Whole t v ∷ map field_in ks) last d again in
      record { last = part; customer = c; leads = refl; may_end_lem = m; held = refl; made = r.trades; all = subst (λ (x : Field). All2 (Trades terms) (x ∷ map field_in ks) r.trades) (sym f) r.all; whole = r.held }

  split_later : trade_tag t ≡ false → ((p : Part) (b : Customer) → inside terms (Open p b) (map field_in ks) ≡ Next (Open last d) → Split terms p b (before_trades ks) (from_trades ks) d) →
      Split terms part c (k ∷ before_trades ks) (from_trades ks) d
  split_later n ih = go (within terms (Open part c) t v) refl (front_holds terms part c t v n) e
    where
      go : (r : Step Group) → within terms (Open part c) t v ≡ r → Keeps Any (Holds c.trades) r → then r (λ next. inside terms next (map field_in ks)) ≡ Next (Open last d) →
          Split terms part c (k ∷ before_trades ks) (from_trades ks) d
      go (Stop x) w u e = stop_not e
      go (Next Nobody) w u e = absurd u
      go (Next (Open p b)) w u e =
          let s = ih p b e in
          record { last = s.last; customer = s.customer; leads = rw (f, w) s.leads; may_end_lem = s.may_end_lem; held = s.held ∙ u; made = s.made; all = s.all; whole = s.whole }

pub split : (terms : Terms) (part : Part) (c : Customer) (ks : List (List ℕ)) (last : Part) (d : Customer) → inside terms (Open part c) (map field_in ks) ≡ Next (Open last d) → may_end last ≡ true →
    Split terms part c (before_trades ks) (from_trades ks) d
split terms part c [] last d e m =
    let same : part ≡ last = cc in
    record { last = part; customer = c; leads = refl; may_end_lem = ap may_end same ∙ m; held = refl; made = []; all = tt; whole = cc }
split terms part c (k ∷ ks) last d e m = go (field_in k) refl e (λ p b h. split terms p b ks last d h m)
  where
    go : (x : Field) → field_in k ≡ x → inside terms (Open part c) (x ∷ map field_in ks) ≡ Next (Open last d) →
        ((p : Part) (b : Customer) → inside terms (Open p b) (map field_in ks) ≡ Next (Open last d) → Split terms p b (before_trades ks) (from_trades ks) d) →
        Split terms part c (before_trades (k ∷ ks)) (from_trades (k ∷ ks)) d
    go Cut f e ih = stop_not e
    go (Whole t v) f e ih =
        let tag = tag_is terms part c k ks t v f last d e in
        by_test (trade_tag t)
        (λ b. rw (tag ∙ b) (split_here terms part c k ks t v f last d e b))
        (λ b. rw (tag ∙ b) (split_later terms part c k ks t v f last d e b ih))
