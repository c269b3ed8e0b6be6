-- A group with its trades in another order describes the same customer.
-- Assumes nothing.
use Rattle.std.specs.Prelude.{ℕ, ◌≡◌, refl, true, false, length}
use Prim.Native.Char.{code}
use Rattle.std.proofs.Math.Path.{sym, ap}
use Rattle.std.proofs.Common.{subst, ◌∙◌, arith}
use mathlib.Core.List.{List, [], ◌∷◌, ◌++◌, map, map-append, append-nil}
use Rattle.rules.specs.declared.Terms.{Terms}
use Rattle.rules.specs.declared.Trade.{Trade}
use Rattle.rules.specs.Text.{is}
use Rattle.rules.specs.Division.{sum_of}
use Rattle.rules.specs.Fields.{Field, Whole, Cut, fields_of}
use Rattle.rules.specs.Book.{Customer, Next, DueI, Open, begun, after_c}
use Rattle.laws.specs.All2.{All2}
use Rattle.order.specs.Trades.{reading}
use Rattle.consequences.specs.Rearranged.{cut_in, before_trades, from_trades, trade_at, Retraded}
use Rattle.consequences.specs.Framed.{Framed, field_in, field_stands, fields_cuts, cuts_joined}
use Rattle.consequences.specs.WholeCuts.{AllWhole, inner_whole, framed_cuts, broken, none_broken}
use Rattle.consequences.specs.Described.{Inner, inside, Describes}
use Rattle.consequences.specs.Traded.{trade_tag, by_tag, Trades, holding}
use Rattle.consequences.specs.Front.{front_trades, no_trade, all_trades, inside_append, trades_end, Split, split}
use Rattle.consequences.specs.Retrade.{Others, others}

-- ---- the fields of trades neither open nor close a group

not_other : (t : ℕ) → trade_tag t ≡ true → (is "C" t ≡ false) × (is "Z" t ≡ false)
not_other t h = by_tag (λ u. (is "C" u ≡ false) × (is "Z" u ≡ false)) (refl, refl) (refl, refl) t h

trades_inner : (terms : Terms) (fs : List Field) (xs : List Trade) → All2 (Trades terms) fs xs → Inner fs
trades_inner terms [] [] h = tt
trades_inner terms [] (x ∷ xs) h = absurd h
trades_inner terms (f ∷ fs) [] h = absurd h
trades_inner terms (Cut ∷ fs) (x ∷ xs) h = absurd h.0
trades_inner terms (Whole t v ∷ fs) (x ∷ xs) h = let n = not_other t h.0.0 in (n.0, n.1, trades_inner terms fs xs h.1)

inner_append : (fs gs : List Field) → Inner fs → Inner gs → Inner (fs ++ gs)
inner_append [] gs h k = k
inner_append (Cut ∷ fs) gs h k = absurd h
inner_append (Whole t v ∷ fs) gs h k = (h.0, h.1, inner_append fs gs h.2 k)

inner_first : (fs gs : List Field) → Inner (fs ++ gs) → Inner fs
inner_first [] gs h = tt
inner_first (Cut ∷ fs) gs h = absurd h
inner_first (Whole t v ∷ fs) gs h = (h.0, h.1, inner_first fs gs h.2)

-- ---- a group's cuts: its C, and behind it seats and trades

record Begins (ks : List (List ℕ)) (v : List ℕ) (fs : List Field) : Type 0 where
  first : List ℕ
  rest : List (List ℕ)
  are : ks ≡ first ∷ rest
  front : before_trades ks ≡ first ∷ before_trades rest
  trades : from_trades ks ≡ from_trades rest
  field : field_in first ≡ Whole (code "C") v
  inner : map field_in rest ≡ fs

begins : (ks : List (List ℕ)) (v : List ℕ) (fs : List Field) → map field_in ks ≡ Whole (code "C") v ∷ fs → Begins ks v fs
begins [] v fs e = absurd (omega (arith, ap length e))
begins (k ∷ ks) v fs e =
    let f : field_in k ≡ Whole (code "C") v = cc in
    let tag = (field_stands k (code "C") v f).tag in
    record { first = k; rest = ks; are = refl; front = rw tag; trades = rw tag; field = f; inner = cc }

module _ (terms : Terms) (g : List ℕ) (c : Customer) (d : Describes terms g c) where
  abbrev ks : List (List ℕ)
  ks = cut_in (length g) g

  cuts : map field_in ks ≡ Whole (code "C") c.code ∷ d.inner
  unfolding fields_of
  cuts =
      sym (fields_cuts g) ∙ ap fields_of (sym (append-nil g)) ∙ d.framed []
      ∙ ap (λ (fs : List Field). Whole (code "C") c.code ∷ fs) (append-nil d.inner)

  pub all_whole : sum_of broken ks ≡ 0
  all_whole = none_broken ks (subst AllWhole (sym cuts) (inner_whole d.inner d.plain))

  abbrev b : Begins ks c.code d.inner
  b = begins ks c.code d.inner cuts

  abbrev seats : List (List ℕ)
  seats = before_trades b.rest

  -- the seats, and then the trades
  abbrev s : Split terms DueI (begun c.code) seats (from_trades b.rest) c
  s =
      split terms DueI (begun c.code) b.rest d.whole.last c
      (ap (inside terms (after_c c.code)) b.inner ∙ d.whole.reads) d.whole.may_end_lem

  trades_are : All2 (Trades terms) (map field_in (from_trades ks)) s.made
  trades_are = rw b.trades s.all

  pub only_trades : sum_of no_trade (from_trades ks) ≡ 0
  only_trades = all_trades terms (from_trades ks) s.made trades_are

  module _ (h : List ℕ) (r : Retraded g h) where
    abbrev ls : List (List ℕ)
    ls = cut_in (length h) h

    abbrev us : List (List ℕ)
    us = from_trades ls

    other : Others terms us s.made
    other = others terms (from_trades ks) us s.made trades_are r.trades

    abbrev fields : List Field
    fields = map field_in seats ++ map field_in us

    new_cuts : map field_in ls ≡ Whole (code "C") c.code ∷ fields
    new_cuts =
        ap (map field_in) (sym (front_trades ls) ∙ ap (λ (l : List (List ℕ)). l ++ us) (sym r.front ∙ b.front))
        ∙ rw (map-append, b.field)

    same_customer : holding s.customer (reading (map trade_at us) s.customer.trades) ≡ c
    same_customer = ap (holding s.customer) (ap (reading (map trade_at us)) s.held ∙ other.same ∙ ap (reading s.made) (sym s.held)) ∙ sym s.whole

    seats_inner : Inner (map field_in seats)
    seats_inner =
        inner_first (map field_in seats) (map field_in (from_trades b.rest))
        (subst Inner (sym b.inner ∙ ap (map field_in) (sym (front_trades b.rest)) ∙ map-append field_in seats (from_trades b.rest)) d.plain)

    plain : Inner fields
    plain = inner_append (map field_in seats) (map field_in us) seats_inner (trades_inner terms (map field_in us) (map trade_at us) other.all)

    framed : Framed h (Whole (code "C") c.code ∷ fields)
    framed =
        subst (λ (fs : List Field). Framed h fs) new_cuts
        (subst (λ (l : List ℕ). Framed l (map field_in ls)) (cuts_joined (length h) h (omega arith))
        (framed_cuts ls (subst AllWhole (sym new_cuts) (inner_whole fields plain))))

    pub retraded_describes : Describes terms h c
    retraded_describes =
        let (last, may, leads) = trades_end terms s.last s.customer s.may_end_lem (map field_in us) (map trade_at us) other.all in
        record {
          inner = fields;
          plain = plain;
          framed = framed;
          good = d.good;
          whole = record {
            last = last;
            may_end_lem = may;
            reads = inside_append terms (after_c c.code) (map field_in seats) (map field_in us) ∙ rw s.leads (leads ∙ ap (λ (x : Customer). Next (Open last x)) same_customer);
            covered = d.whole.covered;
          };
        }
