-- What a tier makes of a state. The lines that the columns show afterwards are the tier's lines, so a run is the cascade of document 01;
-- and no share is above its weight, so a state stays steady.
-- Assumes nothing.
use Rattle.std.specs.Prelude.{ℕ, zero, suc, ◌+◌, ◌-◌, ◌≤◌, ◌<◌, ◌≡◌, ◌⊎◌, Bool, true, false, cond, List, map, eqb, length, drop}
use Rattle.std.proofs.Math.Path.{refl, sym, ap}
use Rattle.std.proofs.Common.{◌∙◌, inl, inr, add-zero, length-append, ne_eqb}
use Rattle.std.proofs.Math.Logic.{⊎_elim}
use Rattle.std.proofs.lemmas.Simd.{map-map}
use Rattle.std.proofs.Math.Nat.{zero-sub, sub-zero}
use native.Mathlib.Omega.{arith}
use Rattle.rules.specs.Division.{sum_of, share}
use Rattle.rules.specs.Cascade.{Line, Outcome, tier_of, code_of, pending_of, offered_in, quantity, after, tier, cascade}
use Rattle.rules.specs.declared.Standing.{Standing}
use Rattle.rules.specs.declared.Standing.TheVariants.{Pending, Tier1, Tier2, Tier3, Neither}
use Rattle.laws.specs.Sums.{up_to, sum-map}
use Rattle.laws.specs.Indices.{map_below, length-map_up_to, sum_below, sum_bound}
use Rattle.laws.specs.Division.{share_at_most, share_of_none}
use Rattle.laws.specs.Recode.{InOrder, recode, recode_all, cascade_recode}
use Rattle.laws.specs.Filled.{filled, front_at, filled_same}
use Rattle.division.specs.Shares.{at}
use Rattle.cascade.specs.Columns.{standing_of, offered_as, pending_as, Columns, line_at, lines_of}
use Rattle.cascade.specs.declared.Cascade.{Cascade}
use Rattle.cascade.specs.State.{offset_of, after_tier, after_all, Within, Steady, weight_in, stake_at}

-- the code's tests of a byte are the definition's of a standing
pub offered_byte : (b k n : ℕ) → 0 < k → k ≤ 3 → cond (eqb b k) n 0 ≡ cond (eqb (tier_of (standing_of b)) k) (offered_as (standing_of b) n) 0
offered_byte zero k n h l = rw (ne_eqb 0 k (λ e. omega arith))
offered_byte (suc zero) k n h l = refl
offered_byte (suc (suc zero)) k n h l = refl
offered_byte (suc (suc (suc zero))) k n h l = refl
offered_byte (suc (suc (suc (suc b)))) k n h l = rw (ne_eqb (suc (suc (suc (suc b)))) k (λ e. omega arith), ne_eqb 0 k (λ e. omega arith))

pub pending_byte : (b n o : ℕ) → cond (eqb b 0) (n - o) 0 ≡ pending_as (standing_of b) n - o
pending_byte zero n o = refl
pending_byte (suc zero) n o = omega arith
pending_byte (suc (suc zero)) n o = omega arith
pending_byte (suc (suc (suc zero))) n o = omega arith
pending_byte (suc (suc (suc (suc b)))) n o = rw (ne_eqb (suc (suc (suc (suc b)))) 0 (λ e. omega arith)) (sym (zero-sub o))

-- what is at stake in a tier is the whole stake
pub weight_offered : (k standing stake offset : ℕ) → 0 < k → weight_in k standing stake offset ≡ cond (eqb standing k) stake 0
weight_offered k standing stake offset h = rw (ne_eqb k 0 (λ e. omega arith), sub-zero stake)

cond_none : (b : Bool) {n : ℕ} → n ≡ 0 → cond b n 0 ≡ 0
cond_none true e = e
cond_none false e = refl

-- nobody offers and has lots pending
one_side : (s : Standing) (n : ℕ) → (offered_as s n ≡ 0) ⊎ (pending_as s n ≡ 0)
one_side Pending n = inl refl
one_side Tier1 n = inr refl
one_side Tier2 n = inr refl
one_side Tier3 n = inr refl
one_side Neither n = inl refl

pending_most : (s : Standing) (n : ℕ) → pending_as s n ≤ n
pending_most Pending n = omega arith
pending_most Tier1 n = omega arith
pending_most Tier2 n = omega arith
pending_most Tier3 n = omega arith
pending_most Neither n = omega arith

offered_most : (b : Bool) (s : Standing) (n : ℕ) → cond b (offered_as s n) 0 ≤ n
offered_most true s n = ⊎_elim (λ e. omega arith) (λ e. omega arith) (offered_or s n)
  where
    offered_or : (s : Standing) (n : ℕ) → (offered_as s n ≡ 0) ⊎ (offered_as s n ≡ n)
    offered_or Pending n = inl refl
    offered_or Tier1 n = inr refl
    offered_or Tier2 n = inr refl
    offered_or Tier3 n = inr refl
    offered_or Neither n = inl refl
offered_most false s n = omega arith

pub steady_wider : {most more : ℕ} {c : Columns} {st : Cascade} → most ≤ more → Steady most c st → Steady more c st
steady_wider l s =
    record {
      few = s.few;
      keyed = s.keyed;
      stood = s.stood;
      staked = s.staked;
      wide = s.wide;
      each = s.each;
      offset = λ i h. omega (arith, s.offset i h);
      total = omega arith;
    }

-- 256 customers have at most 4,000,000 lots each pending
module _ (c : Columns) (st : Cascade) {most : ℕ} (s : Steady most c st) where
  pending_small : (i : ℕ) → i < c.count → (line_at c st.offset i).pending ≤ 4_000_000
  pending_small i h = omega (arith, pending_most (standing_of (at c.standings i)) (at c.stakes i), (s.each i h).small)

  pub pending_le : sum_of pending_of (lines_of c st.offset) ≤ 1_024_000_000
  unfolding lines_of
  pending_le =
      omega (
        arith,
        sum-map pending_of (line_at c st.offset) (up_to c.count),
        sum_bound (λ i. (line_at c st.offset i).pending) 4_000_000 c.count pending_small,
        s.few,
      )

module _ (k : ℕ) (c : Columns) (st : Cascade) where
  abbrev ls : List Line
  ls = lines_of c st.offset

  -- what customer i gives in the tier, what it closes, and its line afterwards
  abbrev pub gives_of : ℕ → ℕ
  gives_of i = share code_of (offered_in k) (quantity k ls) ls (line_at c st.offset i)

  abbrev pub closes_of : ℕ → ℕ
  closes_of i = share code_of pending_of (quantity k ls) ls (line_at c st.offset i)

  abbrev pub line_after_of : ℕ → Line
  line_after_of i = after k ls (line_at c st.offset i)

  pub offset_is : (i : ℕ) → offset_of (line_after_of i) ≡ at st.offset i + gives_of i + closes_of i
  unfolding after
  offset_is i = refl

  pub offset_after : (after_tier k c st).offset ≡ filled (λ i. offset_of (line_after_of i)) c.count st.offset
  unfolding after_tier lines_of
  offset_after = rw (map-map, map-map)

  pub offset_at : (i : ℕ) → i < c.count → at (after_tier k c st).offset i ≡ at st.offset i + gives_of i + closes_of i
  offset_at i h = rw offset_after (front_at (λ j. offset_of (line_after_of j)) c.count _ i 0 h ∙ offset_is i)

  wide_after : c.count ≤ length (after_tier k c st).offset
  wide_after =
      let f : ℕ → ℕ = λ i. offset_of (line_after_of i) in
      omega (arith, ap length offset_after ∙ length-append (map f (up_to c.count)) (drop c.count st.offset), length-map_up_to f c.count)

  pub total_after : (after_tier k c st).total ≡ st.total + quantity k ls
  unfolding after_tier
  total_after = refl

  pub state_is : {offset : List ℕ} {total : ℕ} → offset ≡ (after_tier k c st).offset → total ≡ (after_tier k c st).total →
      record { offset = offset; total = total } ≡ after_tier k c st
  unfolding after_tier
  state_is e f = rw (e, f)

  -- a tier of no lots changes nothing
  pub idle : c.count ≤ length st.offset → quantity k ls ≡ 0 → st ≡ after_tier k c st
  idle room z =
      state_is (sym (offset_after ∙ filled_same _ c.count st.offset 0 room offset_same)) (omega (arith, total_after))
    where
      none : (weight : Line → ℕ) (l : Line) → share code_of weight (quantity k ls) ls l ≡ 0
      none weight l = share_of_none code_of weight (quantity k ls) ls l z

      offset_same : (i : ℕ) → i < c.count → offset_of (line_after_of i) ≡ at st.offset i
      offset_same i h = rw (offset_is i) (simp (none, add-zero))

  pub gives_le : (i : ℕ) → gives_of i ≤ offered_in k (line_at c st.offset i)
  unfolding quantity
  gives_le i = share_at_most code_of (offered_in k) (quantity k ls) ls (omega arith) (line_at c st.offset i)

  pub closes_le : (i : ℕ) → closes_of i ≤ (line_at c st.offset i).pending
  unfolding quantity
  closes_le i = share_at_most code_of pending_of (quantity k ls) ls (omega arith) (line_at c st.offset i)

  -- whoever may have lots pending gives none
  pub one_way : (i : ℕ) → (gives_of i ≡ 0) ⊎ (pending_as (standing_of (at c.standings i)) (at c.stakes i) ≡ 0)
  one_way i =
      let s = standing_of (at c.standings i) in
      ⊎_elim (λ e. inl (omega (arith, gives_le i, cond_none (eqb (tier_of s) k) e))) (λ e. inr e) (one_side s (at c.stakes i))

  pending_is : (i : ℕ) → i < c.count → (line_at c (after_tier k c st).offset i).pending ≡ (line_after_of i).pending
  unfolding after
  pending_is i h = ⊎_elim (λ e. omega (arith, offset_at i h)) (λ e. omega (arith, offset_at i h)) (one_way i)

  line_is : (l : Line) (p o : ℕ) → p ≡ l.pending → o ≡ l.offset →
      record { code = l.code; seats = l.seats; standing = l.standing; offered = l.offered; pending = p; offset = o } ≡ l
  line_is l p o e f = rw (e, f)

  line_after : (i : ℕ) → i < c.count → line_at c (after_tier k c st).offset i ≡ line_after_of i
  unfolding after
  line_after i h = line_is (line_after_of i) _ _ (pending_is i h) (offset_at i h)

  pub lines_after : lines_of c (after_tier k c st).offset ≡ tier k (lines_of c st.offset)
  unfolding lines_of
  lines_after = map_below _ line_after_of c.count line_after ∙ sym (map-map (after k ls) _ (up_to c.count))

  pub within_after : (i : ℕ) → i < c.count → Within (at c.standings i) (at c.stakes i) (at st.offset i) →
      Within (at c.standings i) (at c.stakes i) (at (after_tier k c st).offset i)
  within_after i h w = record { within = λ e. omega (arith, w.within e, offset_at i h, closes_le i, none e, ap (λ b. pending_as (standing_of b) (at c.stakes i)) e); small = w.small }
    where
      none : at c.standings i ≡ 0 → gives_of i ≡ 0
      none e = omega (arith, gives_le i, cond_none (eqb (tier_of (standing_of (at c.standings i))) k) (ap (λ b. offered_as (standing_of b) (at c.stakes i)) e))

  module _ {most : ℕ} (s : Steady most c st) where
    -- a tier's quantity is at most what is pending
    pub quantity_le : quantity k ls ≤ 1_024_000_000
    unfolding quantity
    quantity_le = omega (arith, pending_le c st s)

    pub more_le : (i : ℕ) → i < c.count → gives_of i + closes_of i ≤ 8_000_000
    more_le i h =
        let b = standing_of (at c.standings i) in
        omega (arith, gives_le i, closes_le i, pending_small c st s i h, offered_most (eqb (tier_of b) k) b (at c.stakes i), (s.each i h).small)

    pub steady_after : Steady (most + 1_024_000_000) c (after_tier k c st)
    steady_after =
        record {
          few = s.few;
          keyed = s.keyed;
          stood = s.stood;
          staked = s.staked;
          wide = wide_after;
          each = λ i h. within_after i h (s.each i h);
          offset = λ i h. omega (arith, offset_at i h, more_le i h, s.offset i h);
          total = omega (arith, s.total, total_after, quantity_le);
        }

module _ (c : Columns) (st : Cascade) where
  abbrev second : Cascade
  second = after_tier 1 c st

  abbrev third : Cascade
  third = after_tier 2 c second

  pub steady_all : Steady 0 c st → Steady 3_072_000_000 c (after_all c st)
  steady_all s = steady_after 3 c third (steady_after 2 c second (steady_after 1 c st s))

  -- where nothing is pending, nothing moves
  still : c.count ≤ length st.offset → sum_of pending_of (lines_of c st.offset) ≡ 0 → (k : ℕ) → after_tier k c st ≡ st
  unfolding quantity
  still room z k = sym (idle k c st room (omega arith))

  pub none_moved : c.count ≤ length st.offset → sum_of pending_of (lines_of c st.offset) ≡ 0 → st ≡ after_all c st
  none_moved room z = sym (ap (after_tier 3 c) (ap (after_tier 2 c) (still room z 1) ∙ still room z 2) ∙ still room z 3)

  -- before the first tier a stake that is pending is pending whole
  pub owed_is : ((i : ℕ) → i < c.count → at st.offset i ≡ 0) → sum_of (stake_at 0 c.standings c.stakes) (up_to c.count) ≡ sum_of pending_of (lines_of c st.offset)
  unfolding lines_of
  owed_is z =
      sum_below _ _ c.count (λ i h. rw (z i h) (rw sub-zero at (pending_byte (at c.standings i) (at c.stakes i) 0))) ∙ sym (sum-map pending_of (line_at c st.offset) (up_to c.count))

  pub lines_all : lines_of c (after_all c st).offset ≡ tier 3 (tier 2 (tier 1 (lines_of c st.offset)))
  lines_all = lines_after 3 c third ∙ ap (tier 3) (lines_after 2 c second ∙ ap (tier 2) (lines_after 1 c st))

  -- what the state after a run shows
  abbrev pub outcome_of : Outcome
  outcome_of =
      record {
        total = (after_all c st).total;
        residue = sum_of pending_of (lines_of c st.offset) - (after_all c st).total;
        lines = lines_of c (after_all c st).offset;
      }

  -- where nothing was offset before
  module _ (none : st.total ≡ 0) where
    total_all : (after_all c st).total ≡ (cascade (lines_of c st.offset)).total
    unfolding cascade
    total_all =
        omega (
          arith,
          total_after 3 c third,
          total_after 2 c second,
          total_after 1 c st,
          ap (quantity 2) (lines_after 1 c st),
          ap (quantity 3) (lines_after 2 c second ∙ ap (tier 2) (lines_after 1 c st)),
        )

    -- that is the cascade of the columns' lines
    pub run_outcome : cascade (lines_of c st.offset) ≡ outcome_of
    unfolding cascade
    run_outcome = rw (lines_all, total_all)

    -- and of any lines whose codes the keys stand for
    pub run_recoded : (key : List ℕ → ℕ) (ls : List Line) → InOrder key ls → lines_of c st.offset ≡ map (recode key) ls →
        recode_all key (cascade ls) ≡ outcome_of
    run_recoded key ls o e = sym (cascade_recode key ls o) ∙ ap cascade (sym e) ∙ run_outcome
