-- The gain of the newest lots, by going forward. The definition goes back from the newest trade; a reader meets the oldest
-- first, and each further trade goes in front of the list. So it takes the gain of all lots on the side, then goes again over
-- the oldest, those that do not count, and takes their gain off. This holds because a trade's lots fall into two parts, those
-- that count and those that do not, and a gain is a sum over lots.
-- Assumes nothing.
use Prim.Native.Nat.{ℕ, ◌+◌, ◌-◌, ◌*◌, ◌≤◌, min}
use Rattle.std.specs.Prelude.{◌≡◌, Bool, true, false, cond, length, ℤ, pos, nat_abs, ◌+ℤ◌, ◌-ℤ◌}
use Rattle.std.proofs.Math.Path.{refl, ap}
use Rattle.std.proofs.Common.{sym, ◌∙◌, le_refl}
use mathlib.Core.List.{List, [], ◌∷◌}
use Rattle.std.proofs.Math.Decide.{dec_le}
use native.Mathlib.Omega.{arith}
use Rattle.std.proofs.Math.IntN.{+ℤ_assoc, +ℤ_comm, +ℤ_idr, +ℤ-neg_ℤ_cancel, *ℤ-zero}
use Rattle.rules.specs.declared.Fen.{Fen}
use Rattle.rules.specs.declared.Trade.{Trade}
use Rattle.rules.specs.Book.{on_side, opened}
use Rattle.rules.specs.Standing.{gain_of, counted, gain_from}
use Rattle.laws.specs.Exact.{size_minus, size_add, size_mul, mul-sum}

-- the lots of a trade that are on the side
abbrev pub lots_on : Bool → Trade → ℕ
lots_on long t = cond (on_side long t) t.lots.0 0

-- the gain of all lots on the side
unfoldable pub all_gain : Bool → Fen → List Trade → ℤ
all_gain long s [] = pos 0
all_gain long s (t ∷ ts) = all_gain long s ts +ℤ gain_of long s t.price (lots_on long t)

-- the gain of the oldest `skip` lots on the side
unfoldable pub oldest_gain : Bool → Fen → ℕ → List Trade → ℤ
oldest_gain long s skip [] = pos 0
oldest_gain long s skip (t ∷ ts) =
    oldest_gain long s skip ts +ℤ gain_of long s t.price (min (lots_on long t) (skip - opened long ts))

-- a customer's trades have prices and lots of their range
pub data Priced : List Trade → Type 0 where
  none : Priced []
  more : {t : Trade} {ts : List Trade} → t.price.0 ≤ 9_999_999 → t.lots.0 ≤ 1_000_000 → Priced ts → Priced (t ∷ ts)

-- ---- lots at one price

pub gain_none : (long : Bool) (s price : Fen) → gain_of long s price 0 ≡ pos 0
gain_none true s price = *ℤ-zero (pos s.0 -ℤ pos price.0)
gain_none false s price = *ℤ-zero (pos price.0 -ℤ pos s.0)

gain_sum : (long : Bool) (s price : Fen) (a b : ℕ) →
    gain_of long s price (a + b) ≡ gain_of long s price a +ℤ gain_of long s price b
gain_sum true s price = mul-sum (pos s.0 -ℤ pos price.0)
gain_sum false s price = mul-sum (pos price.0 -ℤ pos s.0)

pub gain_size : (long : Bool) (s price : Fen) (n : ℕ) → s.0 ≤ 9_999_999 → price.0 ≤ 9_999_999 →
    nat_abs (gain_of long s price n) ≤ 9_999_999 * n
gain_size true s price n hs hp =
    size_mul (pos s.0 -ℤ pos price.0) (pos n) (size_minus s.0 price.0 _ (omega arith) (omega arith)) (le_refl n)
gain_size false s price n hs hp =
    size_mul (pos price.0 -ℤ pos s.0) (pos n) (size_minus price.0 s.0 _ (omega arith) (omega arith)) (le_refl n)

-- the lots that count of a trade, with the side inside
pub counted_is : (long : Bool) (needed : ℕ) (t : Trade) → counted long needed t ≡ min (lots_on long t) needed
counted_is long needed t = go (on_side long t)
  where
    go : (b : Bool) → cond b (min t.lots.0 needed) 0 ≡ min (cond b t.lots.0 0) needed
    go true = refl
    go false = omega arith

-- a trade's part that counts, its part that does not, and the same of the trades before it
regroup : (a b c d : ℤ) → (a +ℤ b) +ℤ (c +ℤ d) ≡ (b +ℤ c) +ℤ (a +ℤ d)
regroup a b c d =
    ap (λ (z : ℤ). z +ℤ (c +ℤ d)) (+ℤ_comm a b) ∙ +ℤ_assoc b a (c +ℤ d)
    ∙ ap (λ (z : ℤ). b +ℤ z) (sym (+ℤ_assoc a c d) ∙ ap (λ (z : ℤ). z +ℤ d) (+ℤ_comm a c) ∙ +ℤ_assoc c a d)
    ∙ sym (+ℤ_assoc b c (a +ℤ d))

module _ (long : Bool) (s : Fen) where
  -- ---- the oldest lots

  pub oldest_none : (ts : List Trade) → oldest_gain long s 0 ts ≡ pos 0
  unfolding oldest_gain
  oldest_none [] = refl
  oldest_none (t ∷ ts) =
      let z : min (lots_on long t) (0 - opened long ts) ≡ 0 = omega arith in
      rw (z, gain_none long s t.price, oldest_none ts)

  -- once so many lots are passed, a further trade changes nothing
  pub oldest_stops : (skip : ℕ) (t : Trade) (ts : List Trade) → skip ≤ opened long ts →
      oldest_gain long s skip (t ∷ ts) ≡ oldest_gain long s skip ts
  unfolding oldest_gain
  oldest_stops skip t ts h =
      let z : min (lots_on long t) (skip - opened long ts) ≡ 0 = omega arith in
      rw (z, gain_none long s t.price) (+ℤ_idr (oldest_gain long s skip ts))

  oldest_all : (skip : ℕ) (ts : List Trade) → opened long ts ≤ skip → oldest_gain long s skip ts ≡ all_gain long s ts
  unfolding oldest_gain all_gain
  oldest_all skip [] h = refl
  oldest_all skip (t ∷ ts) h =
      let z : min (lots_on long t) (skip - opened long ts) ≡ lots_on long t = omega arith in
      let rest : opened long ts ≤ skip = omega arith in
      rw (z, oldest_all skip ts rest)

  oldest_capped : (skip : ℕ) (ts : List Trade) →
      oldest_gain long s skip ts ≡ oldest_gain long s (min skip (opened long ts)) ts
  oldest_capped skip ts = go (dec_le skip (opened long ts))
    where
      go : Dec (skip ≤ opened long ts) → oldest_gain long s skip ts ≡ oldest_gain long s (min skip (opened long ts)) ts
      go (yes h) = ap (λ (k : ℕ). oldest_gain long s k ts) (omega arith)
      go (no h) = oldest_all skip ts (omega arith) ∙ sym (oldest_all (min skip (opened long ts)) ts (omega arith))

  -- ---- the newest lots and the oldest together

  both_parts : (needed : ℕ) (ts : List Trade) → needed ≤ opened long ts →
      gain_from long s needed ts +ℤ oldest_gain long s (opened long ts - needed) ts ≡ all_gain long s ts
  unfolding gain_from oldest_gain all_gain
  both_parts needed [] h = refl
  both_parts needed (t ∷ ts) h =
      let l = lots_on long t in
      let o = opened long ts in
      let n = counted long needed t in
      let is : n ≡ min l needed = counted_is long needed t in
      let gain = gain_of long s t.price in
      let newest = gain_from long s (needed - n) ts in
      let oldest = oldest_gain long s (o - (needed - n)) ts in
      let same : oldest_gain long s (l + o - needed) ts ≡ oldest =
      oldest_capped (l + o - needed) ts ∙ ap (λ (k : ℕ). oldest_gain long s k ts) (omega arith) in
      let other : min l (l + o - needed - o) ≡ l - n = omega arith in
      let whole : n + (l - n) ≡ l = omega arith in
      (λ i. (gain n +ℤ newest) +ℤ (same i +ℤ gain (other i))) ∙ regroup (gain n) newest oldest (gain (l - n))
      ∙ (λ i. both_parts (needed - n) ts (omega arith) i +ℤ (sym (gain_sum long s t.price n (l - n)) ∙ ap gain whole) i)

  pub newest_first : (needed : ℕ) (ts : List Trade) → needed ≤ opened long ts →
      gain_from long s needed ts ≡ all_gain long s ts -ℤ oldest_gain long s (opened long ts - needed) ts
  newest_first needed ts h =
      let oldest = oldest_gain long s (opened long ts - needed) ts in
      sym (+ℤ-neg_ℤ_cancel (gain_from long s needed ts) oldest) ∙ ap (λ (z : ℤ). z -ℤ oldest) (both_parts needed ts h)

-- ---- sizes: at most the highest price for each lot

pub opened_size : (long : Bool) {ts : List Trade} → Priced ts → opened long ts ≤ 1_000_000 * length ts
opened_size long none = omega arith
opened_size long (more {t} hp hl h) = omega (arith, opened_size long h, part (on_side long t))
  where
    part : (b : Bool) → cond b t.lots.0 0 ≤ t.lots.0
    part true = le_refl t.lots.0
    part false = omega arith

module _ (long : Bool) (s : Fen) (hs : s.0 ≤ 9_999_999) where
  pub newest_size : (needed : ℕ) {ts : List Trade} → Priced ts → nat_abs (gain_from long s needed ts) ≤ 9_999_999 * needed
  unfolding gain_from
  newest_size needed none = omega arith
  newest_size needed (more {t} {ts} hp hl h) =
      let n = counted long needed t in
      let is : n ≡ min (lots_on long t) needed = counted_is long needed t in
      let sum = size_add (gain_of long s t.price n) (gain_from long s (needed - n) ts) in
      omega (arith, sum, gain_size long s t.price n hs hp, newest_size (needed - n) h)

  pub all_size : {ts : List Trade} → Priced ts → nat_abs (all_gain long s ts) ≤ 9_999_999 * opened long ts
  unfolding all_gain
  all_size none = omega arith
  all_size (more {t} {ts} hp hl h) =
      let n = lots_on long t in
      let sum = size_add (all_gain long s ts) (gain_of long s t.price n) in
      omega (arith, sum, gain_size long s t.price n hs hp, all_size h)

  oldest_within : (skip : ℕ) {ts : List Trade} → Priced ts →
      nat_abs (oldest_gain long s skip ts) ≤ 9_999_999 * min skip (opened long ts)
  unfolding oldest_gain
  oldest_within skip none = omega arith
  oldest_within skip (more {t} {ts} hp hl h) =
      let n = min (lots_on long t) (skip - opened long ts) in
      let sum = size_add (oldest_gain long s skip ts) (gain_of long s t.price n) in
      omega (arith, sum, gain_size long s t.price n hs hp, oldest_within skip h)

  pub oldest_size : (skip : ℕ) {ts : List Trade} → Priced ts → nat_abs (oldest_gain long s skip ts) ≤ 9_999_999 * skip
  oldest_size skip h = omega (arith, oldest_within skip h)
