-- A store that holds the trades with lots on the side that were passed: with none, with one more, and with all.
-- Assumes nothing.
use Prim.Native.Nat.{ℕ, ◌+◌, ◌≤◌, ◌<◌}
use mathlib.Core.Path.{◌≡◌, refl, sym, ap, ◌∙◌}
use mathlib.Core.Bool.{Bool, true, false, cond, not}
use mathlib.Core.List.{List, [], ◌∷◌, ◌++◌, map, append_assoc, append-nil}
use native.Mathlib.Omega.{arith}
use lib.Dec.{ltb}
use lib.ListN.{length, set, length-append, length-set}
use lib.Seq.{get_or-set_same, get_or-set_other}
use borrow.Author.Tests.{lt-ltb, le-ltb, ltb-true, ltb-false}
use Rattle.rules.specs.declared.Trade.{Trade}
use Rattle.laws.specs.ByTest.{by_test}
use Rattle.laws.specs.Gains.{lots_on}
use Rattle.laws.specs.Sums.{up_to}
use Rattle.laws.specs.Indices.{map_more, map_below, length-map_up_to}
use Rattle.trades.specs.Walk.{trades_at}
use Rattle.store.specs.Held.{at, Few, Sizes, held_at, on_side_in, Filled}

-- ---- the trades on the side from a place on, where one stands there
module _ (long : Bool) (book : List ℕ) (place end : ℕ) (t : Trade) (here : trades_at book place ≡ t ∷ trades_at book end) where
  pub side_next : 0 < lots_on long t → on_side_in long book place ≡ t ∷ on_side_in long book end
  side_next h = rw (here, lt-ltb 0 (lots_on long t) h)

  pub side_none : lots_on long t ≤ 0 → on_side_in long book place ≡ on_side_in long book end
  side_none h = rw (here, le-ltb 0 (lots_on long t) h)

-- a trade with lots on the side is on it, with all of them
on_side : (long : Bool) (t : Trade) → 0 < lots_on long t → (long ≡ t.bought) × (lots_on long t ≡ t.lots.0)
on_side true t h = go t.bought h
  where
    go : (b : Bool) → 0 < cond b t.lots.0 0 → (true ≡ b) × (cond b t.lots.0 0 ≡ t.lots.0)
    go true g = (refl, refl)
    go false g = absurd (omega arith)
on_side false t h = go t.bought h
  where
    go : (b : Bool) → 0 < cond (not b) t.lots.0 0 → (false ≡ b) × (cond (not b) t.lots.0 0 ≡ t.lots.0)
    go true g = absurd (omega arith)
    go false g = (refl, refl)

trades : {b c : Bool} {p q n m s u : ℕ} → b ≡ c → p ≡ q → n ≡ m → s ≡ u →
    ◌≡◌ {A = Trade} (record { bought = b; price = record { 0 = p }; lots = record { 0 = n }; stamp = record { 0 = s } })
    (record { bought = c; price = record { 0 = q }; lots = record { 0 = m }; stamp = record { 0 = u } })
trades b p n s = λ i. record { bought = b i; price = record { 0 = p i }; lots = record { 0 = n i }; stamp = record { 0 = s i } }

pub record Filling (long : Bool) (book : List ℕ) (first place count : ℕ) (stamps lots prices : List ℕ) : Type 0 where
  pub sizes : Sizes stamps lots prices
  pub few : Few lots count
  pub priced : (i : ℕ) → i < count → at prices i ≤ 9_999_999
  pub whole : map (held_at long stamps lots prices) (up_to count) ++ on_side_in long book place ≡ on_side_in long book first

pub filling_none : (long : Bool) (book : List ℕ) (first : ℕ) (stamps lots prices : List ℕ) → Sizes stamps lots prices →
    Filling long book first first 0 stamps lots prices
filling_none long book first stamps lots prices z =
    record { sizes = z; few = record { few = omega arith; most = λ i b. absurd (omega arith) }; priced = λ i b. absurd (omega arith); whole = refl }

-- a list bounded at the indices below n, with one more
below_more : (l : List ℕ) (n v most : ℕ) → n < length l → v ≤ most → ((i : ℕ) → i < n → at l i ≤ most) → (i : ℕ) → i < n + 1 → at (set l n v) i ≤ most
below_more l n v most inside h k i b =
    by_test (ltb i n)
    (λ e. let before = ltb-true i n e in rw (get_or-set_other l n i v 0 (λ z. omega arith)) (k i before))
    (λ e. let same : i ≡ n = omega (arith, ltb-false i n e) in rw (same, get_or-set_same l n v 0 inside) h)

module _ (long : Bool) (book : List ℕ) (first place count : ℕ) (stamps lots prices : List ℕ) (f : Filling long book first place count stamps lots prices) where
  counts : count + length (on_side_in long book place) ≡ length (on_side_in long book first)
  counts =
      let held = map (held_at long stamps lots prices) (up_to count) in
      omega (arith, ap length f.whole, length-append held (on_side_in long book place), length-map_up_to (held_at long stamps lots prices) count)

  -- one that has no lots on the side
  pub filling_same : (end : ℕ) → on_side_in long book place ≡ on_side_in long book end → Filling long book first end count stamps lots prices
  filling_same end h =
      let held = map (held_at long stamps lots prices) (up_to count) in
      record { sizes = f.sizes; few = f.few; priced = f.priced; whole = sym (ap (λ (l : List Trade). held ++ l) h) ∙ f.whole }

  -- one that has
  pub filling_more : (end n : ℕ) (t : Trade) → on_side_in long book place ≡ t ∷ on_side_in long book end → n ≡ lots_on long t → 0 < n → n ≤ 1_000_000 → t.price.0 ≤ 9_999_999 →
      count < 128 → Filling long book first end (count + 1) (set stamps count t.stamp.0) (set lots count n) (set prices count t.price.0)
  filling_more end n t h is some most priced room =
      let z = f.sizes in
      let s = t.stamp.0 in
      let p = t.price.0 in
      let side = on_side long t (omega arith) in
      let old = held_at long stamps lots prices in
      let new = held_at long (set stamps count s) (set lots count n) (set prices count p) in
      let same : map new (up_to count) ≡ map old (up_to count) =
      map_below new old count (λ i b. trades refl (get_or-set_other prices count i p 0 (λ e. omega arith)) (get_or-set_other lots count i n 0 (λ e. omega arith)) (get_or-set_other stamps count i s 0 (λ e. omega arith))) in
      let here : new count ≡ t =
      trades side.0 (get_or-set_same prices count p 0 (omega (arith, z.prices_size))) (get_or-set_same lots count n 0 (omega (arith, z.lots_size)) ∙ is ∙ side.1)
      (get_or-set_same stamps count s 0 (omega (arith, z.stamps_size))) in
      record {
        sizes = record { stamps_size = length-set stamps count s ∙ z.stamps_size; lots_size = length-set lots count n ∙ z.lots_size; prices_size = length-set prices count p ∙ z.prices_size };
        few = record { few = omega arith; most = below_more lots count n 1_000_000 (omega (arith, z.lots_size)) most f.few.most };
        priced = below_more prices count p 9_999_999 (omega (arith, z.prices_size)) priced f.priced;
        whole = rw (map_more new count, append_assoc, same, here) (sym (ap (λ (l : List Trade). map old (up_to count) ++ l) h) ∙ f.whole);
      }

  -- all of them
  pub filled : on_side_in long book place ≡ [] → Filled long book first count stamps lots prices
  filled h =
      let held = map (held_at long stamps lots prices) (up_to count) in
      record {
        many = omega (arith, counts, ap length h, f.few.few);
        holds = λ r. record { same = sym (append-nil held) ∙ sym (ap (λ (l : List Trade). held ++ l) h) ∙ f.whole; few = f.few; priced = f.priced };
      }

  -- one too many
  pub too_many : (end : ℕ) (t : Trade) → on_side_in long book place ≡ t ∷ on_side_in long book end → count ≡ 128 → Filled long book first 129 stamps lots prices
  too_many end t h full = record { many = omega (arith, counts, ap length h); holds = λ r. absurd (omega arith) }
