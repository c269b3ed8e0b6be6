-- What a figure or a trade that was read tells of its bytes and its number: each definition, by tests, read backwards.
-- Assumes nothing.
use Rattle.std.specs.Prelude.{ℕ, ◌≤◌, ◌≡◌, refl, Bool, true, false, cond, ◌&&◌, List, leb, eqb}
use Rattle.std.proofs.Common.{sym, ap, ap₂, ◌∙◌, arith, leb-true, eqb-true}
use Rattle.std.proofs.Math.Bool.{and-eq-true_iff}
use Rattle.rules.specs.declared.Form.{Form}
use Rattle.rules.specs.declared.Trade.{Trade}
use Rattle.rules.specs.declared.Written.{Written}
use Rattle.rules.specs.declared.Written.TheVariants.{Number}
use Rattle.rules.specs.declared.Written.TheVariants.{Comma as CommaWritten}
use Rattle.rules.specs.declared.Written.TheVariants.{Malformed as NoFigure}
use Rattle.rules.specs.declared.Figure.{Figure}
use Rattle.rules.specs.declared.Figure.TheVariants.{Value, Comma, Malformed}
use Rattle.rules.specs.declared.Opening.TheVariants.{Made}
use Rattle.rules.specs.declared.Opening.TheVariants.{Comma as CommaIn}
use Rattle.rules.specs.declared.Opening.TheVariants.{Malformed as NoTrade}
use Rattle.rules.specs.Figures.{fen, lots, price_form, traded_form, has, in_range, written_of, asked, figure_of}
use Rattle.rules.specs.Stamp.{stamp, stamp_of}
use Rattle.rules.specs.Opening.{up_to_blank, after_blank, wanted, trade_from, opening_of}

both : (a b : Bool) → (a && b) ≡ true → (a ≡ true) × (b ≡ true)
both a b h = (and-eq-true_iff a b).0 h

-- `cc` shows 0 and 1 equal where two constructors would be
differ : ◌≡◌ {A = ℕ} 0 1 → ⊥
differ e = omega arith

-- What a figure that was read says.

pub record FigureRead (form : Form) (v : List ℕ) (n : ℕ) : Type 0 where
  pub written : written_of v ≡ Number n form.decimals
  pub least : form.least ≤ n
  pub most : n ≤ form.most

-- what who asks was told
pub asked_read : (form : Form) (w : Written) (n : ℕ) → asked form w ≡ Value n → (w ≡ Number n form.decimals) × (form.least ≤ n) × (n ≤ form.most)
asked_read form (Number m d) n h = go (eqb d form.decimals && in_range form m) refl h
  where
    go : (b : Bool) → (eqb d form.decimals && in_range form m) ≡ b → cond b (Value m) Malformed ≡ Value n → (Number m d ≡ Number n form.decimals) × (form.least ≤ n) × (n ≤ form.most)
    go false e k = absurd (differ (cc))
    go true e k =
        let g = both (eqb d form.decimals) (in_range form m) e in
        let r = both (leb form.least m) (leb m form.most) g.1 in
        let same : m ≡ n = cc in
        let places : d ≡ form.decimals = eqb-true d form.decimals g.0 in
        (ap₂ Number same places, omega (arith, leb-true form.least m r.0, same), omega (arith, leb-true m form.most r.1, same))
asked_read form CommaWritten n h = absurd (differ (cc))
asked_read form NoFigure n h = absurd (differ (cc))

pub figure_read : (form : Form) (v : List ℕ) (n : ℕ) → figure_of form v ≡ Value n → FigureRead form v n
unfolding figure_of
figure_read form v n h = let r = asked_read form (written_of v) n h in record { written = r.0; least = r.1; most = r.2 }

pub figure_within : (form : Form) (v : List ℕ) (n : ℕ) → figure_of form v ≡ Value n → (form.least ≤ n) × (n ≤ form.most)
figure_within form v n h = let f = figure_read form v n h in (f.least, f.most)

-- What a trade that was read says.

-- the parts of its value behind the price, and behind the lots
abbrev pub behind_price : List ℕ → List ℕ
behind_price v = after_blank v

abbrev pub behind_lots : List ℕ → List ℕ
behind_lots v = after_blank (behind_price v)

pub record OpeningRead (bought : Bool) (v : List ℕ) (t : Trade) (x : ℕ) : Type 0 where
  pub no_comma : has "," v ≡ false
  pub price : written_of (up_to_blank v) ≡ Number t.price.0 x
  pub price_in : in_range (price_form x) t.price.0 ≡ true
  pub lots : figure_of traded_form (up_to_blank (behind_price v)) ≡ Value t.lots.0
  pub stamp : stamp_of (up_to_blank (behind_lots v)) (after_blank (behind_lots v)) ≡ Value t.stamp.0
  pub side : t.bought ≡ bought

-- the parts of a trade
record Parted (bought comma : Bool) (w : Written) (n d : Figure) (t : Trade) (x : ℕ) : Type 0 where
  no_comma : comma ≡ false
  price : w ≡ Number t.price.0 x
  price_in : in_range (price_form x) t.price.0 ≡ true
  lots : n ≡ Value t.lots.0
  stamp : d ≡ Value t.stamp.0
  side : t.bought ≡ bought

parted : (bought comma : Bool) (w : Written) (n d : Figure) (t : Trade) (x : ℕ) → cond comma CommaIn (trade_from bought w n d) ≡ Made t x → Parted bought comma w n d t x
parted bought true w n d t x h = absurd (differ (cc))
parted bought false CommaWritten n d t x h = absurd (differ (cc))
parted bought false NoFigure n d t x h = absurd (differ (cc))
parted bought false (Number p y) n d t x h = go (in_range (price_form y) p) refl n d h
  where
    go : (b : Bool) → in_range (price_form y) p ≡ b → (n d : Figure) →
        cond b (wanted n λ l. wanted d λ e. Made (record { bought = bought; price = fen p; lots = lots l; stamp = stamp e }) y) NoTrade ≡ Made t x → Parted bought false (Number p y) n d t x
    go false e n d k = absurd (differ (cc))
    go true e Comma d k = absurd (differ (cc))
    go true e Malformed d k = absurd (differ (cc))
    go true e (Value l) Comma k = absurd (differ (cc))
    go true e (Value l) Malformed k = absurd (differ (cc))
    go true e (Value l) (Value m) k =
        let same : record { bought = bought; price = fen p; lots = lots l; stamp = stamp m } ≡ t = cc in
        let places : y ≡ x = cc in
        let price : p ≡ t.price.0 = ap (λ (z : Trade). z.price.0) same in
        record {
          no_comma = refl;
          price = ap₂ Number price places;
          price_in = (λ i. in_range (price_form (sym places i)) (sym price i)) ∙ e;
          lots = ap (λ (z : Trade). Value z.lots.0) same;
          stamp = ap (λ (z : Trade). Value z.stamp.0) same;
          side = ap (λ (z : Trade). z.bought) (sym same);
        }

pub opening_read : (bought : Bool) (v : List ℕ) (t : Trade) (x : ℕ) → opening_of bought v ≡ Made t x → OpeningRead bought v t x
unfolding opening_of
opening_read bought v t x h =
    let d = stamp_of (up_to_blank (behind_lots v)) (after_blank (behind_lots v)) in
    let s = parted bought (has "," v) (written_of (up_to_blank v)) (figure_of traded_form (up_to_blank (behind_price v))) d t x h in
    record { no_comma = s.no_comma; price = s.price; price_in = s.price_in; lots = s.lots; stamp = s.stamp; side = s.side }

pub record OpeningWithin (bought : Bool) (t : Trade) : Type 0 where
  pub price_least : 1 ≤ t.price.0
  pub price_most : t.price.0 ≤ 9_999_999
  pub lots_least : 1 ≤ t.lots.0
  pub lots_most : t.lots.0 ≤ 1_000_000
  pub side : t.bought ≡ bought

pub opening_within : (bought : Bool) (v : List ℕ) (t : Trade) (x : ℕ) → opening_of bought v ≡ Made t x → OpeningWithin bought t
opening_within bought v t x h =
    let o = opening_read bought v t x h in
    let p = both (leb 1 t.price.0) (leb t.price.0 9_999_999) o.price_in in
    let n = figure_within traded_form (up_to_blank (behind_price v)) t.lots.0 o.lots in
    record {
      price_least = leb-true 1 t.price.0 p.0;
      price_most = leb-true t.price.0 9_999_999 p.1;
      lots_least = n.0;
      lots_most = n.1;
      side = o.side;
    }
