-- What a trade's value is by what the reader finds: a trade where all is found, and none where one part is missing, or where there are too few
-- bytes.
-- Assumes nothing.
use Rattle.std.proofs.Common.{◌≡◌, ℕ, ◌+◌, ◌-◌, ◌<◌, Bool, true, false, cond, List, length, take, drop, refl, arith}
use Rattle.rules.specs.declared.Trade.{Trade}
use Rattle.rules.specs.declared.Written.{Written}
use Rattle.rules.specs.declared.Written.TheVariants.{Number as Figured}
use Rattle.rules.specs.declared.Written.TheVariants.{Comma as CommaWritten}
use Rattle.rules.specs.declared.Written.TheVariants.{Malformed as NoFigure}
use Rattle.rules.specs.declared.Figure.{Figure}
use Rattle.rules.specs.declared.Figure.TheVariants.{Value, Comma, Malformed}
use Rattle.rules.specs.declared.Opening.TheVariants.{Made}
use Rattle.rules.specs.declared.Opening.TheVariants.{Comma as CommaIn}
use Rattle.rules.specs.declared.Opening.TheVariants.{Malformed as NoTrade}
use Rattle.rules.specs.Figures.{has, in_range, written_of, figure_of, price_form, traded_form}
use Rattle.rules.specs.Stamp.{stamp_of}
use Rattle.rules.specs.Opening.{opening_of, up_to_blank, after_blank, wanted, trade_from}
use Rattle.figures.specs.declared.number.Digits.TheVariants.{Number, Other}
use Rattle.figures.specs.declared.pair.Pair.TheVariants.{Both}
use Rattle.figures.specs.declared.pair.Pair.TheVariants.{Other as NoPair}
use Rattle.figures.specs.Good.{good, trade_of, good_made}
use Rattle.figures.specs.Numbers.{no_opening}
use Rattle.figures.specs.Pairs.{pair_of}
use Rattle.figures.specs.Stamps.{stamp_in}
use Rattle.figures.proofs.Trades.{AsTrade, made_written, written_made}
use Rattle.figures.proofs.Cuts.{trade_size, cut_written, read_trade}

sifted :
    (bought comma : Bool) (w : Written) (n d : Figure) → ((t : Trade) (x : ℕ) → cond comma CommaIn (trade_from bought w n d) ≡ Made t x → ⊥) →
    cond comma CommaIn (trade_from bought w n d) ≡ cond comma CommaIn NoTrade
sifted bought true w n d h = refl
sifted bought false (Figured p x) n d h = go (in_range (price_form x) p) n d h
  where
    go : (b : Bool) (n d : Figure) → ((t : Trade) (y : ℕ) → cond b (wanted n λ l. wanted d λ m. Made (trade_of bought p l m) x) NoTrade ≡ Made t y → ⊥) → cond b (wanted n λ l. wanted d λ m. Made (trade_of bought p l m) x) NoTrade ≡ NoTrade
    go true (Value n) (Value d) k = absurd (k _ _ refl)
    go true (Value n) Comma k = refl
    go true (Value n) Malformed k = refl
    go true Comma d k = refl
    go true Malformed d k = refl
    go false n d k = refl
sifted bought false CommaWritten n d h = refl
sifted bought false NoFigure n d h = refl

no_trade : (bought : Bool) (v : List ℕ) → ((t : Trade) (x : ℕ) → opening_of bought v ≡ Made t x → ⊥) → opening_of bought v ≡ no_opening v
unfolding opening_of
no_trade bought v h =
    let price = written_of (up_to_blank v) in
    let lots = figure_of traded_form (up_to_blank (after_blank v)) in
    let last = after_blank (after_blank v) in
    sifted bought (has "," v) price lots (stamp_of (up_to_blank last) (after_blank last)) h

-- a value that is not written as a trade is none
not_trade : (bought : Bool) (v : List ℕ) → ((p x n d : ℕ) → AsTrade v p x n d → ⊥) → opening_of bought v ≡ no_opening v
not_trade bought v h = no_trade bought v (λ t x m. h _ _ _ _ (made_written bought v t x m))

pub too_short : (bought : Bool) (v : List ℕ) → length v < 14 → opening_of bought v ≡ no_opening v
too_short bought v l = not_trade bought v (λ p x n d w. omega (arith, trade_size v p x n d w))

-- one part that is missing

pub no_stamp :
    (bought : Bool) (v : List ℕ) (cut : ℕ) → cut + 14 ≡ length v → stamp_in (drop cut v) ≡ Other → opening_of bought v ≡ no_opening v
no_stamp bought v cut c h =
    not_trade bought v (λ p x n d w.
    let s = (cut_written v cut p x n d c w).1 in
    let z : ◌≡◌ {A = ℕ} 0 1 = cc in
    absurd (omega arith))

pub no_pair :
    (bought : Bool) (v : List ℕ) (cut : ℕ) → cut + 14 ≡ length v → pair_of (take cut v) ≡ NoPair → opening_of bought v ≡ no_opening v
no_pair bought v cut c h =
    not_trade bought v (λ p x n d w.
    let s = (cut_written v cut p x n d c w).0 in
    let z : ◌≡◌ {A = ℕ} 0 1 = cc in
    absurd (omega arith))

-- all is found
pub all_read :
    (bought : Bool) (v : List ℕ) (cut p x n d : ℕ) → cut + 14 ≡ length v →
    pair_of (take cut v) ≡ Both p x n → stamp_in (drop cut v) ≡ Number d → opening_of bought v ≡ Made (trade_of bought p n d) x
all_read bought v cut p x n d c pair stamp = written_made bought v p x n d (read_trade v cut p x n d c pair stamp)

-- a trade that was read has both parts

pub record Parts (v : List ℕ) : Type 0 where
  pub price : ℕ
  pub places : ℕ
  pub lots : ℕ
  pub made : ℕ
  pub room : length v - 14 + 14 ≡ length v
  pub pair : pair_of (take (length v - 14) v) ≡ Both price places lots
  pub stamp : stamp_in (drop (length v - 14) v) ≡ Number made

pub good_parts : (bought : Bool) (v : List ℕ) → good (opening_of bought v) ≡ true → Parts v
good_parts bought v h =
    let m = good_made (opening_of bought v) h in
    let t = m.0 in
    let w = made_written bought v t m.1.0 m.1.1 in
    let room : length v - 14 + 14 ≡ length v = omega (arith, trade_size v _ _ _ _ w) in
    let c = cut_written v (length v - 14) _ _ _ _ room w in
    record { price = t.price.0; places = m.1.0; lots = t.lots.0; made = t.stamp.0; room = room; pair = c.0; stamp = c.1 }
