-- A trade as it is written: a price, lots, a day and a time, with a blank between each two. Definition `openingOf` reads what is written so, and
-- nothing else.
-- Assumes nothing.
use Rattle.std.proofs.Common.{◌≡◌, ℕ, ◌<◌, Bool, true, false, cond, List, ◌∷◌, ◌++◌, ap, ◌∙◌, arith, lit<}
use Prim.Native.Char.{Char, code}
use Rattle.rules.specs.declared.Trade.{Trade}
use Rattle.rules.specs.declared.Written.{Written}
use Rattle.rules.specs.declared.Written.TheVariants.{Number}
use Rattle.rules.specs.declared.Figure.{Figure}
use Rattle.rules.specs.declared.Figure.TheVariants.{Value}
use Rattle.rules.specs.declared.Opening.TheVariants.{Made}
use Rattle.rules.specs.declared.Opening.TheVariants.{Comma as CommaIn}
use Rattle.rules.specs.declared.Opening.TheVariants.{Malformed as NoTrade}
use Rattle.rules.specs.Figures.{has, written_of, figure_of, in_range, price_form, traded_form}
use Rattle.rules.specs.Stamp.{stamp_of}
use Rattle.rules.specs.Opening.{opening_of, up_to_blank, after_blank, trade_from}
use Rattle.laws.specs.Figures.{figure_read, opening_read}
use Rattle.figures.specs.Good.{trade_of}
use Rattle.figures.proofs.Shapes.{has_append, digits_have_none, written_has_none}
use Rattle.figures.proofs.Blanks.{blank_inside, blank_before, up_to_part, after_part}
use Rattle.figures.proofs.Stamps.{stamp_parts}

-- ` 20250115 2031`
abbrev pub made : List ℕ → List ℕ → List ℕ
made day time = code " " ∷ (day ++ (code " " ∷ time))

pub record AsTrade (v : List ℕ) (p x n d : ℕ) : Type 0 where
  pub price : List ℕ
  pub lots : List ℕ
  pub day : List ℕ
  pub time : List ℕ
  pub whole : v ≡ price ++ (code " " ∷ (lots ++ made day time))
  pub priced : written_of price ≡ Number p x
  pub ranged : in_range (price_form x) p ≡ true
  pub traded : figure_of traded_form lots ≡ Value n
  pub stamped : stamp_of day time ≡ Value d

-- a trade that was read is written so
pub made_written : (bought : Bool) (v : List ℕ) (t : Trade) (x : ℕ) → opening_of bought v ≡ Made t x → AsTrade v t.price.0 x t.lots.0 t.stamp.0
made_written bought v t x h =
    let o = opening_read bought v t x h in
    let rest = after_blank v in
    let last = after_blank rest in
    let sizes = stamp_parts (up_to_blank last) (after_blank last) t.stamp.0 o.stamp in
    let third = blank_before last (omega (arith, sizes.time_size)) in
    let second = blank_before rest (omega (arith, third)) in
    let first = blank_before v (omega (arith, second)) in
    record {
      price = up_to_blank v;
      lots = up_to_blank rest;
      day = up_to_blank last;
      time = after_blank last;
      whole = blank_inside v first
          ∙ ap (λ (l : List ℕ). up_to_blank v ++ (code " " ∷ l))
          (blank_inside rest second ∙ ap (λ (l : List ℕ). up_to_blank rest ++ (code " " ∷ l)) (blank_inside last third));
      priced = o.price;
      ranged = o.price_in;
      traded = o.lots;
      stamped = o.stamp;
    }

-- and what is written so, is read

parted :
    (bought comma : Bool) (w : Written) (y z : Figure) (p x n d : ℕ) → comma ≡ false → w ≡ Number p x → in_range (price_form x) p ≡ true → y ≡ Value n → z ≡ Value d →
    cond comma CommaIn (trade_from bought w y z) ≡ Made (trade_of bought p n d) x
parted bought comma w y z p x n d c e r f g = simp (c, e, f, g) (ap (λ (b : Bool). cond b (Made (trade_of bought p n d) x) NoTrade) r)

-- the parts that `openingOf` reads by first blanks
read_parts :
    (bought : Bool) (v a b c e : List ℕ) (p x n d : ℕ) →
    has "," v ≡ false → up_to_blank v ≡ a → up_to_blank (after_blank v) ≡ b →
    up_to_blank (after_blank (after_blank v)) ≡ c → after_blank (after_blank (after_blank v)) ≡ e →
    written_of a ≡ Number p x → in_range (price_form x) p ≡ true → figure_of traded_form b ≡ Value n → stamp_of c e ≡ Value d →
    opening_of bought v ≡ Made (trade_of bought p n d) x
unfolding opening_of
read_parts bought v a b c e p x n d plain i j k l w r y z =
    parted bought (has "," v) _ _ _ p x n d plain
    (ap written_of i ∙ w)
    r
    (ap (figure_of traded_form) j ∙ y)
    (ap (λ (s : List ℕ). stamp_of s (after_blank (after_blank (after_blank v)))) k ∙ ap (stamp_of c) l ∙ z)

-- a price and lots have no comma and no blank
lots_have_none : (c : Char) (u : List ℕ) (n : ℕ) → code c < code "." → figure_of traded_form u ≡ Value n → has c u ≡ false
lots_have_none c u n l h = written_has_none c u n 0 l (figure_read traded_form u n h).written

pub written_made : (bought : Bool) (v : List ℕ) (p x n d : ℕ) → AsTrade v p x n d → opening_of bought v ≡ Made (trade_of bought p n d) x
written_made bought v p x n d w =
    let s = stamp_parts w.day w.time d w.stamped in
    let last = w.day ++ (code " " ∷ w.time) in
    let rest = w.lots ++ (code " " ∷ last) in
    let price-plain = written_has_none " " w.price p x (lit< tt) w.priced in
    let lots-plain = lots_have_none " " w.lots n (lit< tt) w.traded in
    let day-plain = digits_have_none " " w.day (lit< tt) s.day_digits in
    let one = ap after_blank w.whole ∙ after_part w.price rest price-plain in
    let two = ap after_blank one ∙ after_part w.lots last lots-plain in
    let plain : has "," v ≡ false =
    ap (has ",") w.whole
    ∙ simp (
      has_append,
      written_has_none "," w.price p x (lit< tt) w.priced,
      lots_have_none "," w.lots n (lit< tt) w.traded,
      digits_have_none "," w.day (lit< tt) s.day_digits,
      digits_have_none "," w.time (lit< tt) s.time_digits,
    ) in
    read_parts bought v w.price w.lots w.day w.time p x n d plain
    (ap up_to_blank w.whole ∙ up_to_part w.price rest price-plain)
    (ap up_to_blank one ∙ up_to_part w.lots last lots-plain)
    (ap up_to_blank two ∙ up_to_part w.day w.time day-plain)
    (ap after_blank two ∙ after_part w.day w.time day-plain)
    w.priced
    w.ranged
    w.traded
    w.stamped
