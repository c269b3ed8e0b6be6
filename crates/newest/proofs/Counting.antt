-- Buckets with no lots, with one trade more, and with all; and ranges that have the edge.
-- Assumes nothing.
use Prim.Native.Nat.{ℕ, zero, suc, ◌+◌, ◌*◌, ◌≤◌, ◌<◌}
use mathlib.Core.Path.{◌≡◌, refl, sym, ◌∙◌}
use mathlib.Core.Bool.{Bool, cond}
use mathlib.Core.List.{List, [], ◌∷◌}
use Rattle.rules.specs.declared.Trade.{Trade}
use native.Mathlib.Omega.{arith}
use lib.Dec.{ltb, leb, eqb}
use borrow.Author.Tests.{ltb-true, ltb-false}
use lib.ListN.{get_or, set, length-set, replicate}
use Rattle.laws.specs.ByTest.{by_test}
use Rattle.laws.specs.Gains.{lots_on}
use Rattle.order.specs.Buckets.{bucket_of, bumped, one_bucket}
use Rattle.order.specs.Span.{from_mono}
use Rattle.order.specs.Trades.{when}
use Rattle.trades.specs.Walk.{trades_at}
use Rattle.newest.specs.Search.{at, from_in, Counted, Counting, Range}

zeros : (n j : ℕ) → ◌≡◌ {A = ℕ} (get_or (replicate n 0) j 0) 0
zeros zero j = refl
zeros (suc n) zero = refl
zeros (suc n) (suc j) = zeros n j

part_le : (j k l : ℕ) → cond (eqb j k) l 0 ≤ l
part_le j k l = by_test (eqb j k) (λ e. rw e (omega arith)) (λ e. rw e (omega arith))

module _ (from : ℕ → ℕ) (low width : ℕ) where
  pub counting_none : (passed : ℕ) → Counting from from low width passed (replicate 73 0)
  counting_none passed =
      record { size = refl; parts = λ j h. omega (arith, zeros 73 j); small = λ j. omega (arith, zeros 73 j) }

  pub counting_more : (rest rest' : ℕ → ℕ) (passed passed' s l k : ℕ) (b : List ℕ) → 0 < width → ((e : ℕ) → rest e ≡ cond (leb e s) l 0 + rest' e) →
      l ≤ 1_000_000 → passed < passed' → k ≡ bucket_of low width s → k ≤ 72 →
      Counting from rest low width passed b → Counting from rest' low width passed' (set b k (at b k + l))
  counting_more rest rest' passed passed' s l k b p r m n is inside c =
      let more : (j : ℕ) → at (set b k (at b k + l)) j ≡ at b j + cond (eqb j k) l 0 = λ j. bumped b k l j (omega (arith, c.size)) in
      record {
        size = length-set b k _ ∙ c.size;
        parts = λ j h. omega (arith, more j, c.parts j h, rw (sym is) at (one_bucket low width s l j p h), r (low + j * width), r (low + (j + 1) * width));
        small = λ j. omega (arith, more j, c.small j, part_le j k l);
      }

  pub counting_done : (rest : ℕ → ℕ) (passed : ℕ) (b : List ℕ) → ((e : ℕ) → rest e ≡ 0) → Counting from rest low width passed b → Counted from low width b
  counting_done rest passed b z c = record { size = c.size; parts = λ j h. omega (arith, c.parts j h, z (low + j * width), z (low + (j + 1) * width)) }

-- what holds of the last bucket
pub at_last : (f : ℕ → ℕ) (i need : ℕ) → f 72 < need → i ≡ 71 → f (i + 1) < need
at_last f i need h e = rw e h

pub mono : (long : Bool) (book : List ℕ) (first d e : ℕ) → d ≤ e → from_in long book first e ≤ from_in long book first d
unfolding from_in
mono long book first d e h = from_mono when (lots_on long) d e (trades_at book first) h

module _ (from : ℕ → ℕ) (falls : (d e : ℕ) → d ≤ e → from e ≤ from d) (need low width have : ℕ) (r : Range from need low width have) where
  -- a wider range has the edge too
  pub wider : (v : ℕ) → width ≤ v → Range from need low v have
  wider v h = record { has = r.has; enough = r.enough; over = omega (arith, falls (low + width) (low + v) (omega arith), r.over) }

  -- another range that has it begins before this one's end
  pub begins : (low' width' have' : ℕ) → Range from need low' width' have' → low' < low + width
  begins low' width' have' q =
      by_test (ltb low' (low + width)) (ltb-true low' (low + width))
      (λ e. absurd (omega (arith, falls (low + width) low' (ltb-false low' (low + width) e), r.over, q.enough, q.has)))

-- the lots from a place on, where a trade stands there, and where none does
pub from_read : (long : Bool) (book : List ℕ) (place end : ℕ) (t : Trade) → trades_at book place ≡ t ∷ trades_at book end →
    (e : ℕ) → from_in long book place e ≡ cond (leb e (when t)) (lots_on long t) 0 + from_in long book end e
unfolding from_in
from_read long book place end t h e = rw h

pub from_none : (long : Bool) (book : List ℕ) (place : ℕ) → trades_at book place ≡ [] → (e : ℕ) → from_in long book place e ≡ 0
unfolding from_in
from_none long book place h e = rw h
