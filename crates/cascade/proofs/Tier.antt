-- What one tier's code computes is what the tier says. The arrays of weights hold what the lines offer and have pending, so the two sums,
-- and then the two divisions over the arrays, are those over the lines.
-- Assumes nothing.
use Prim.Native.Nat.{ℕ, ◌+◌, ◌≤◌, ◌<◌, min}
use mathlib.Core.Path.{◌≡◌, refl, sym, ap, ◌∙◌}
use mathlib.Core.List.{List, ◌++◌, map}
use lib.ListN.{length, drop, length-append}
use native.Mathlib.Omega.{arith}
use Rattle.rules.specs.Division.{sum_of, share}
use Rattle.rules.specs.Cascade.{Line, code_of, pending_of, offered_in, quantity}
use Rattle.laws.specs.Sums.{up_to, sum-map}
use Rattle.laws.specs.Indices.{up_to_below, below_up_to, map_below, sum_below, length-map_up_to}
use Rattle.laws.specs.Division.{share_along}
use Rattle.laws.specs.Filled.{filled, front_at, filled_filled, length_filled}
use Rattle.division.specs.Shares.{at, code_at, share_at, Lent}
use Rattle.cascade.proofs.Weights.{weight_le}
use Rattle.cascade.specs.declared.Cascade.{Cascade}
use Rattle.cascade.specs.Columns.{Columns, standing_of, pending_as, line_at, lines_of}
use Rattle.cascade.specs.State.{offset_of, after_tier, Steady, Staked, Weighed, Open, weight_at, stake_at, dealt_at}
use Rattle.cascade.specs.After.{state_is, idle, offered_byte, pending_byte, weight_offered, gives_of, closes_of, closes_le, line_after_of, offset_is, offset_after, total_after, quantity_le, more_le}

pub staked : {most : ℕ} {c : Columns} {st : Cascade} → Steady most c st → Staked c.standings c.stakes st.offset c.count
staked s =
    record {
      stood = record { few = s.few; stood = s.stood; staked = s.staked; small = λ i l. (s.each i l).small };
      wide = s.wide;
      each = s.each;
    }

-- an array of weights that are the lines'
module _ (c : Columns) (offset : List ℕ) (weight : Line → ℕ) (weights : List ℕ)
    (agree : (i : ℕ) → i < c.count → at weights i ≡ weight (line_at c offset i)) where
  sum_is : sum_of (at weights) (up_to c.count) ≡ sum_of weight (lines_of c offset)
  unfolding lines_of
  sum_is = sum_below _ _ c.count agree ∙ sym (sum-map weight _ (up_to c.count))

  share_is : (x i : ℕ) → i < c.count → share_at c.keys weights c.count x i ≡ share code_of weight x (lines_of c offset) (line_at c offset i)
  unfolding share_at lines_of
  share_is x i h =
      sym (share_along code_of weight (code_at c.keys) (at weights) (line_at c offset) (up_to c.count) (λ j m. sym (agree j (up_to_below c.count m))) (λ j l _ _. refl) x i (below_up_to c.count h))

-- what a loop that weighs leaves
weighed_at : {w : ℕ → ℕ} {n r : ℕ} {entry exit : List ℕ} → Weighed w n entry exit r → (i : ℕ) → i < n → at exit i ≡ w i
weighed_at {w} {n} z i h = rw z.weights (front_at w n _ i 0 h)

weighed_sum : {w : ℕ → ℕ} {n r : ℕ} {entry exit : List ℕ} → Weighed w n entry exit r → r ≡ sum_of (at exit) (up_to n)
weighed_sum {w} {n} z = z.sum ∙ sym (sum_below _ w n (weighed_at z))

pub weighed_room : {w : ℕ → ℕ} {n r : ℕ} {entry exit : List ℕ} → Weighed w n entry exit r → n ≤ length exit
weighed_room {w} {n} {entry = entry} z = omega (arith, ap length z.weights ∙ length-append (map w (up_to n)) (drop n entry), length-map_up_to w n)

-- What is known once x is found: the columns, and the two sums.
pub record Found (k : ℕ) (c : Columns) (st : Cascade) (x offered pending : ℕ) : Type 0 where
  pub steady : Steady 4_000_000_000 c st
  pub first : 0 < k
  pub last : k ≤ 3
  pub offers : offered ≡ sum_of (weight_at k c.standings c.stakes st.offset) (up_to c.count)
  pub waits : pending ≡ sum_of (weight_at 0 c.standings c.stakes st.offset) (up_to c.count)
  pub smaller : x ≡ min pending offered

-- what is offered in a tier is what is at stake in it, whatever is offset
pub offers_are : (k : ℕ) → 0 < k → (standings stakes offset : List ℕ) (count : ℕ) →
    sum_of (stake_at k standings stakes) (up_to count) ≡ sum_of (weight_at k standings stakes offset) (up_to count)
offers_are k h standings stakes offset count = sum_below _ _ count (λ i l. sym (weight_offered k (at standings i) (at stakes i) (at offset i) h))

module _ {k : ℕ} {c : Columns} {st : Cascade} {x offered pending : ℕ} (f : Found k c st x offered pending) where
  abbrev ls : List Line
  ls = lines_of c st.offset

  -- a weight in a tier does not depend on the offsets
  offered_line : (offset : List ℕ) (i : ℕ) → weight_at k c.standings c.stakes offset i ≡ offered_in k (line_at c st.offset i)
  offered_line offset i =
      weight_offered k (at c.standings i) (at c.stakes i) (at offset i) f.first ∙ offered_byte (at c.standings i) k (at c.stakes i) f.first f.last

  pending_line : (i : ℕ) → weight_at 0 c.standings c.stakes st.offset i ≡ pending_of (line_at c st.offset i)
  pending_line i = pending_byte (at c.standings i) (at c.stakes i) (at st.offset i)

  offered_sum : offered ≡ sum_of (offered_in k) ls
  unfolding lines_of
  offered_sum = f.offers ∙ sum_below _ _ c.count (λ i h. offered_line st.offset i) ∙ sym (sum-map (offered_in k) (line_at c st.offset) (up_to c.count))

  pending_sum : pending ≡ sum_of pending_of ls
  unfolding lines_of
  pending_sum = f.waits ∙ sum_below _ _ c.count (λ i h. pending_line i) ∙ sym (sum-map pending_of (line_at c st.offset) (up_to c.count))

  x_is : x ≡ quantity k ls
  unfolding quantity
  x_is = omega (arith, offered_sum, pending_sum, f.smaller)

  -- a tier of no lots changes nothing
  pub rests : x ≡ 0 → st ≡ after_tier k c st
  rests z = idle k c st f.steady.wide (sym x_is ∙ z)

  pub total_fits : st.total + x ≤ 6_000_000_000
  total_fits = omega (arith, x_is, quantity_le k c st f.steady, f.steady.total)

  -- an array that holds the weights in a tier, or what is pending
  module _ (j : ℕ) (offset : List ℕ) {entry weights : List ℕ} {r : ℕ} (w : Weighed (weight_at j c.standings c.stakes offset) c.count entry weights r) where
    small : (i : ℕ) → i < c.count → at weights i ≤ 4_000_000
    small i h = omega (arith, weighed_at w i h, weight_le j (at c.standings i) (at c.stakes i) (at offset i), (f.steady.each i h).small)

    lent : {sum : ℕ} → sum ≡ r → x ≤ sum → Lent weights c.keys c.count x sum
    lent e most =
        record {
          bounded = record { few = f.steady.few; within = weighed_room w; small = small };
          keyed = f.steady.keyed;
          total = e ∙ weighed_sum w;
          most = most;
        }

  -- the first division: what is pending
  module _ {entry weights : List ℕ} (w : Weighed (weight_at 0 c.standings c.stakes st.offset) c.count entry weights pending) where
    pub pending_lent : Lent weights c.keys c.count x pending
    pending_lent = lent 0 st.offset w refl (omega (arith, f.smaller))

    pub pending_open : Open weights st.offset c.count
    pending_open = record { offsets = f.steady.wide; fits = λ i h. omega (arith, small 0 st.offset w i h, f.steady.offset i h) }

    closed_at : (i : ℕ) → i < c.count → share_at c.keys weights c.count x i ≡ closes_of k c st i
    closed_at i h = rw (sym x_is) (share_is c st.offset pending_of weights (λ j l. weighed_at w j l ∙ pending_line j) x i h)

    module _ {mid : List ℕ} (e : mid ≡ filled (dealt_at c.keys weights c.count x st.offset) c.count st.offset) where
      mid_at : (i : ℕ) → i < c.count → at mid i ≡ at st.offset i + closes_of k c st i
      mid_at i h =
          rw e (front_at (dealt_at c.keys weights c.count x st.offset) c.count _ i 0 h ∙ ap (λ n. at st.offset i + n) (closed_at i h))

      mid_wide : c.count ≤ length mid
      mid_wide = omega (arith, ap length e ∙ length_filled (dealt_at c.keys weights c.count x st.offset) c.count st.offset f.steady.wide, f.steady.wide)

      -- nobody has closed more than it had pending
      pub mid_staked : Staked c.standings c.stakes mid c.count
      mid_staked =
          record {
            stood = (staked f.steady).stood;
            wide = mid_wide;
            each = λ i h. record {
              within = λ z. omega (arith, mid_at i h, closes_le k c st i, (f.steady.each i h).within z, ap (λ b. pending_as (standing_of b) (at c.stakes i)) z);
              small = (f.steady.each i h).small;
            };
          }

      -- the second: what is offered
      module _ {entry' weights' : List ℕ} {r : ℕ} (v : Weighed (weight_at k c.standings c.stakes mid) c.count entry' weights' r) where
        same_sum : offered ≡ r
        same_sum = f.offers ∙ sum_below _ _ c.count (λ i h. offered_line st.offset i ∙ sym (offered_line mid i)) ∙ sym v.sum

        pub offered_lent : Lent weights' c.keys c.count x offered
        offered_lent = lent k mid v same_sum (omega (arith, f.smaller))

        pub offered_open : Open weights' mid c.count
        offered_open =
            record {
              offsets = mid_wide;
              fits = λ i h. omega (arith, mid_at i h, small k mid v i h, more_le k c st f.steady i h, f.steady.offset i h);
            }

        given_at : (i : ℕ) → i < c.count → share_at c.keys weights' c.count x i ≡ gives_of k c st i
        given_at i h = rw (sym x_is) (share_is c st.offset (offered_in k) weights' (λ j l. weighed_at v j l ∙ offered_line mid j) x i h)

        same_at : (i : ℕ) → i < c.count → dealt_at c.keys weights' c.count x mid i ≡ offset_of (line_after_of k c st i)
        same_at i h = omega (arith, mid_at i h, given_at i h, offset_is k c st i)

        pub worked : {end : List ℕ} → end ≡ filled (dealt_at c.keys weights' c.count x mid) c.count mid →
            record { offset = end; total = st.total + x } ≡ after_tier k c st
        worked z =
            state_is k c st
            (z ∙ ap (filled (dealt_at c.keys weights' c.count x mid) c.count) e ∙ filled_filled _ _ c.count st.offset ∙ ap (λ p. p ++ drop c.count st.offset) (map_below _ _ c.count same_at) ∙ sym (offset_after k c st))
            (omega (arith, total_after k c st, x_is))

-- a tier that nobody is in changes nothing
pub nobody : {k : ℕ} {c : Columns} {st : Cascade} {offered : ℕ} → Steady 4_000_000_000 c st → 0 < k → k ≤ 3 →
    offered ≡ sum_of (stake_at k c.standings c.stakes) (up_to c.count) → offered ≡ 0 → st ≡ after_tier k c st
nobody {k} {c} {st} s first last e z =
    rests {x = 0} (record { steady = s; first = first; last = last; offers = e ∙ offers_are k first c.standings c.stakes st.offset c.count; waits = refl; smaller = omega (arith, z) }) refl
