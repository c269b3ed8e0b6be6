-- A group with its trades in another order describes the same customer, as long as trades of equal day and minute keep their order: its bytes
-- are the same fields, and what is held of the trades does not see where each stands.
-- Assumes nothing.
use Rattle.std.specs.Prelude.{ℕ, ◌+◌, ◌*◌, ◌≡◌, refl, List, [], ◌∷◌, map, Bool, true, false, cond, ◌||◌, eqb, length}
use Rattle.std.proofs.Common.{sym, ap, ap₂, ◌∙◌, arith, eqb-true, eq-eqb}
use Rattle.rules.specs.declared.Terms.{Terms}
use Rattle.rules.specs.declared.Trade.{Trade}
use Rattle.rules.specs.declared.Opening.{Opening}
use Rattle.rules.specs.declared.Opening.TheVariants.{Made}
use Rattle.rules.specs.declared.Opening.TheVariants.{Comma as CommaIn}
use Rattle.rules.specs.declared.Opening.TheVariants.{Malformed as NoTrade}
use Rattle.rules.specs.Text.{is}
use Rattle.rules.specs.Opening.{opening_of}
use Rattle.rules.specs.Division.{sum_of}
use Rattle.rules.specs.Fields.{Field, Whole, Cut}
use Rattle.rules.specs.Book.{astray}
use Rattle.laws.specs.ByTest.{by_test}
use Rattle.laws.specs.All2.{All2}
use Rattle.order.specs.Order.{of_stamp}
use Rattle.order.specs.Order.{Rearranged as InOtherOrder}
use Rattle.order.specs.Sorted.{rearranged_same}
use Rattle.order.specs.Sums.{sum_arranged}
use Rattle.order.specs.Trades.{when, reading}
use Rattle.order.specs.Gains.{rearranged_held}
use Rattle.consequences.specs.Rearranged.{trade_in, trade_at, made_at}
use Rattle.consequences.specs.Framed.{field_in}
use Rattle.consequences.specs.Traded.{Trades}

-- ---- sums, and trades, of lists in another order

pub sum_other : {A : Type 0} (stamp f : A → ℕ) (ts us : List A) → InOtherOrder stamp ts us → sum_of f ts ≡ sum_of f us
sum_other stamp f ts us r = sym (sum_arranged stamp f ts) ∙ ap (sum_of f) (rearranged_same stamp ts us r) ∙ sum_arranged stamp f us

of_map : (d : ℕ) (ks : List (List ℕ)) → of_stamp when d (map trade_at ks) ≡ map trade_at (of_stamp made_at d ks)
of_map d [] = refl
of_map d (k ∷ ks) = by_test (eqb (made_at k) d) (λ e. rw (e, of_map d ks)) (λ e. rw (e, of_map d ks))

pub trades_other : (ks ls : List (List ℕ)) → InOtherOrder made_at ks ls → InOtherOrder when (map trade_at ks) (map trade_at ls)
trades_other ks ls r = record { same = λ d. of_map d ks ∙ ap (map trade_at) (r.same d) ∙ sym (of_map d ls) }

-- ---- bytes that write a trade

module _ (terms : Terms) where
  abbrev unmade : Opening → ℕ
  unmade (Made x d) = cond (eqb d terms.decimals) (cond (astray terms.settlement x.price) 1 0) 1
  unmade CommaIn = 1
  unmade NoTrade = 1

  -- 0 where a field writes a trade that is good under the terms, and 1 where it does not
  abbrev no_trade : Field → ℕ
  no_trade Cut = 1
  no_trade (Whole t v) = cond (is "B" t || is "A" t) (unmade (opening_of (is "B" t) v)) 1

  abbrev bad : List ℕ → ℕ
  bad k = no_trade (field_in k)

  writes : (t : ℕ) (v : List ℕ) → no_trade (Whole t v) ≡ 0 → Trades terms (Whole t v) (trade_in (opening_of (is "B" t) v))
  writes t v = go (is "B" t || is "A" t) (opening_of (is "B" t) v)
    where
      go : (b : Bool) (o : Opening) → cond b (unmade o) 1 ≡ 0 → (b ≡ true) × (o ≡ Made (trade_in o) terms.decimals) × (astray terms.settlement (trade_in o).price ≡ false)
      go true (Made x d) e =
          by_test (eqb d terms.decimals)
          (λ same.
          by_test (astray terms.settlement x.price)
          (λ far. absurd (let z : ◌≡◌ {A = ℕ} 1 0 = rw (same, far) at e in omega arith))
          (λ near. (refl, ap (Made x) (eqb-true d terms.decimals same), near)))
          (λ same. absurd (let z : ◌≡◌ {A = ℕ} 1 0 = rw same at e in omega arith))
      go true CommaIn e = absurd (omega arith)
      go true NoTrade e = absurd (omega arith)
      go false o e = absurd (omega arith)

  written : (t : ℕ) (v : List ℕ) (x : Trade) → Trades terms (Whole t v) x → (no_trade (Whole t v) ≡ 0) × (x ≡ trade_in (opening_of (is "B" t) v))
  written t v x h = (rw (h.0, h.1, eq-eqb terms.decimals terms.decimals refl, h.2), ap trade_in (sym h.1))

  good : (k : List ℕ) → bad k ≡ 0 → Trades terms (field_in k) (trade_at k)
  good [] e = absurd (omega arith)
  good (t ∷ []) e = absurd (omega arith)
  good (t ∷ a ∷ []) e = absurd (omega arith)
  good (t ∷ a ∷ b ∷ v) e = go (eqb (length v) (a * 256 + b)) e
    where
      go : (q : Bool) → no_trade (cond q (Whole t v) Cut) ≡ 0 → Trades terms (cond q (Whole t v) Cut) (trade_in (opening_of (is "B" t) v))
      go true e = writes t v e
      go false e = absurd (omega arith)

  good_back : (k : List ℕ) (x : Trade) → Trades terms (field_in k) x → (bad k ≡ 0) × (x ≡ trade_at k)
  good_back [] x h = absurd h
  good_back (t ∷ []) x h = absurd h
  good_back (t ∷ a ∷ []) x h = absurd h
  good_back (t ∷ a ∷ b ∷ v) x h = go (eqb (length v) (a * 256 + b)) h
    where
      go : (q : Bool) → Trades terms (cond q (Whole t v) Cut) x → (no_trade (cond q (Whole t v) Cut) ≡ 0) × (x ≡ trade_in (opening_of (is "B" t) v))
      go true h = written t v x h
      go false h = absurd h

  all_good : (ks : List (List ℕ)) → sum_of bad ks ≡ 0 → All2 (Trades terms) (map field_in ks) (map trade_at ks)
  all_good [] e = tt
  all_good (k ∷ ks) e = (good k (omega arith), all_good ks (omega arith))

  all_back : (ks : List (List ℕ)) (xs : List Trade) → All2 (Trades terms) (map field_in ks) xs → (sum_of bad ks ≡ 0) × (xs ≡ map trade_at ks)
  all_back [] [] h = (refl, refl)
  all_back [] (x ∷ xs) h = absurd h
  all_back (k ∷ ks) [] h = absurd h
  all_back (k ∷ ks) (x ∷ xs) h =
      let one = good_back k x h.0 in
      let more = all_back ks xs h.1 in
      (omega (arith, one.0, more.0), ap₂ (λ (y : Trade) (ys : List Trade). y ∷ ys) one.1 more.1)

  -- the trades of a group in another order are trades, those that were there
  pub record Others (ls : List (List ℕ)) (xs : List Trade) : Type 0 where
    pub all : All2 (Trades terms) (map field_in ls) (map trade_at ls)
    pub same : reading (map trade_at ls) [] ≡ reading xs []

  pub others : (ks ls : List (List ℕ)) (xs : List Trade) → All2 (Trades terms) (map field_in ks) xs → InOtherOrder made_at ks ls → Others ls xs
  others ks ls xs h r =
      let b = all_back ks xs h in
      record {
        all = all_good ls (sym (sum_other made_at bad ks ls r) ∙ b.0);
        same = sym (rearranged_held (map trade_at ks) (map trade_at ls) (trades_other ks ls r)) ∙ ap (λ (l : List Trade). reading l []) (sym b.1);
      }
