-- Lots passed one after the other: their sum, and whether one is too many; and those of the seats that go before another.
-- Assumes nothing.
use Prim.Native.Nat.{ℕ, zero, suc, ◌+◌, ◌*◌, ◌<◌, ◌≤◌}
use mathlib.Core.Path.{◌≡◌, refl, ap, ◌∙◌}
use mathlib.Core.List.{List, [], ◌∷◌}
use mathlib.Core.Bool.{true, false}
use native.Mathlib.Omega.{arith}
use lib.ListN.{length, drop, drop_of_length-le}
use lib.Dec.{ltb}
use borrow.Author.Tests.{lt-ltb, le-ltb, ltb-false}
use Rattle.rules.specs.Division.{sum_of}
use Rattle.laws.specs.ByTest.{not_either}
use Rattle.laws.specs.Sums.{up_to}
use Rattle.laws.specs.Indices.{sum_more}
use Rattle.reasons.proofs.Texts.{drop_step}
use Rattle.cutback.specs.Judge.{lots_bad}
use Rattle.cutback.specs.Keyed.{at, before_by, before_at}

-- lots up to a place
pub record Added (lots : List ℕ) (i sum : ℕ) : Type 0 where
  pub inside : i ≤ length lots
  pub bad : lots_bad lots ≡ lots_bad (drop i lots)
  pub whole : sum + sum_of (λ n. n) (drop i lots) ≡ sum_of (λ n. n) lots
  pub small : sum ≤ 1_000_000 * i

pub added_none : (lots : List ℕ) → Added lots 0 0
added_none lots = record { inside = omega arith; bad = refl; whole = omega arith; small = omega arith }

module _ (lots : List ℕ) (i sum : ℕ) (p : Added lots i sum) where
  pub added_bad : i < length lots → 1_000_000 < at lots i → lots_bad lots ≡ true
  added_bad h k = p.bad ∙ ap lots_bad (drop_step lots i h) ∙ rw (lt-ltb 1_000_000 (at lots i) k)

  pub added_more : i < length lots → at lots i ≤ 1_000_000 → Added lots (i + 1) (sum + at lots i)
  added_more h k =
      record {
        inside = omega arith;
        bad = p.bad ∙ ap lots_bad (drop_step lots i h) ∙ rw (le-ltb 1_000_000 (at lots i) k);
        whole = omega (arith, p.whole, ap (sum_of (λ n. n)) (drop_step lots i h));
        small = omega (arith, p.small);
      }

  pub added_all : length lots ≤ i → (lots_bad lots ≡ false) × (sum ≡ sum_of (λ n. n) lots)
  added_all h =
      let e : drop i lots ≡ [] = drop_of_length-le lots h in
      (p.bad ∙ ap lots_bad e, omega (arith, p.whole, ap (sum_of (λ n. n)) e))

-- none is too many
pub all_small : (lots : List ℕ) → lots_bad lots ≡ false → (i : ℕ) → i < length lots → at lots i ≤ 1_000_000
all_small [] h i l = absurd (omega arith)
all_small (n ∷ ns) h zero l = ltb-false 1_000_000 n (not_either (ltb 1_000_000 n) (lots_bad ns) h).0
all_small (n ∷ ns) h (suc i) l = all_small ns (not_either (ltb 1_000_000 n) (lots_bad ns) h).1 i (omega arith)

-- the lots before a seat, up to a place
pub record Gone (keys lots : List ℕ) (i j sum : ℕ) : Type 0 where
  pub small : sum ≤ 1_000_000 * j
  pub whole : sum ≡ sum_of (before_at keys lots i) (up_to j)

module _ (keys lots : List ℕ) (i j sum key held : ℕ) (p : Gone keys lots i j sum) (k : key ≡ at keys j) (h : held ≡ at lots j) where
  pub gone_before : held ≤ 1_000_000 → before_by key held (at keys i) (at lots i) ≡ true → Gone keys lots i (j + 1) (sum + held)
  gone_before l b =
      let e : before_at keys lots i j ≡ held = rw (← k, ← h, b) refl in
      record { small = omega (arith, p.small); whole = omega (arith, p.whole, e, sum_more (before_at keys lots i) j) }

  pub gone_behind : before_by key held (at keys i) (at lots i) ≡ false → Gone keys lots i (j + 1) sum
  gone_behind b =
      let e : before_at keys lots i j ≡ 0 = rw (← k, ← h, b) refl in
      record { small = omega (arith, p.small); whole = omega (arith, p.whole, e, sum_more (before_at keys lots i) j) }
