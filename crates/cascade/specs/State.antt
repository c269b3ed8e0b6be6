-- What the contracts of this crate cite: the state after a tier, and what the code asks of a state and of the columns.
-- Assumes nothing.
use Rattle.std.specs.Prelude.{ℕ, ◌+◌, ◌-◌, ◌≤◌, ◌<◌, ◌≡◌, cond, List, ◌++◌, map, eqb, length, drop}
use Rattle.rules.specs.Limits.{most_customers}
use Rattle.rules.specs.Division.{sum_of}
use Rattle.rules.specs.Cascade.{Line, quantity, tier}
use Rattle.laws.specs.Sums.{up_to}
use Rattle.laws.specs.Filled.{filled}
use Rattle.division.specs.Shares.{at, share_at}
use Rattle.cascade.specs.Columns.{Columns, lines_of}
use Rattle.cascade.specs.declared.Cascade.{Cascade}

abbrev pub offset_of : Line → ℕ
offset_of l = l.offset

-- the state after tier k; what stands behind the customers is as it was
unfoldable pub after_tier : ℕ → Columns → Cascade → Cascade
after_tier k c st =
    record {
      offset = map offset_of (tier k (lines_of c st.offset)) ++ drop c.count st.offset;
      total = st.total + quantity k (lines_of c st.offset);
    }

-- "Tiers go 1, 2, 3."
abbrev pub after_all : Columns → Cascade → Cascade
after_all c st = after_tier 3 c (after_tier 2 c (after_tier 1 c st))

-- a pending customer has offset no more than its stake
pub record Within (standing stake offset : ℕ) : Type 0 where
  pub within : standing ≡ 0 → offset ≤ stake
  pub small : stake ≤ 4_000_000

-- nobody holds more than 4,000,000 lots, and at most `most` lots were offset so far
pub record Steady (most : ℕ) (c : Columns) (st : Cascade) : Type 0 where
  pub few : c.count ≤ most_customers
  pub keyed : c.count ≤ length c.keys
  pub stood : c.count ≤ length c.standings
  pub staked : c.count ≤ length c.stakes
  pub wide : c.count ≤ length st.offset
  pub each : (i : ℕ) → i < c.count → Within (at c.standings i) (at c.stakes i) (at st.offset i)
  pub offset : (i : ℕ) → i < c.count → at st.offset i ≤ most
  pub total : st.total ≤ most

-- What a customer with a stake has at stake in tier k, and for 0 what it still has pending; nothing where its standing is another
abbrev pub weight_in : ℕ → ℕ → ℕ → ℕ → ℕ
weight_in k standing stake offset = cond (eqb standing k) (stake - cond (eqb k 0) offset 0) 0

abbrev pub weight_at : ℕ → List ℕ → List ℕ → List ℕ → ℕ → ℕ
weight_at k standings stakes offset i = weight_in k (at standings i) (at stakes i) (at offset i)

-- the stake of customer i where its standing is k
abbrev pub stake_at : ℕ → List ℕ → List ℕ → ℕ → ℕ
stake_at k standings stakes i = cond (eqb (at standings i) k) (at stakes i) 0

-- its offset with some lots more
abbrev pub added_at : List ℕ → List ℕ → ℕ → ℕ
added_at offset lots i = at offset i + at lots i

pub record Stood (standings stakes : List ℕ) (count : ℕ) : Type 0 where
  pub few : count ≤ most_customers
  pub stood : count ≤ length standings
  pub staked : count ≤ length stakes
  pub small : (i : ℕ) → i < count → at stakes i ≤ 4_000_000

pub record Staked (standings stakes offset : List ℕ) (count : ℕ) : Type 0 where
  pub stood : Stood standings stakes count
  pub wide : count ≤ length offset
  pub each : (i : ℕ) → i < count → Within (at standings i) (at stakes i) (at offset i)

-- the weights that a loop leaves in an array, and their sum
pub record Weighed (weight : ℕ → ℕ) (count : ℕ) (entry exit : List ℕ) (r : ℕ) : Type 0 where
  pub weights : exit ≡ filled weight count entry
  pub sum : r ≡ sum_of weight (up_to count)

pub record Addable (offset lots : List ℕ) (count : ℕ) : Type 0 where
  pub offsets : count ≤ length offset
  pub given : count ≤ length lots
  pub fits : (i : ℕ) → i < count → at offset i + at lots i ≤ 4_200_000_000

-- an offset with the customer's share more; a share is at most its weight
abbrev pub dealt_at : List ℕ → List ℕ → ℕ → ℕ → List ℕ → ℕ → ℕ
dealt_at keys weights count x offset i = at offset i + share_at keys weights count x i

pub record Open (weights offset : List ℕ) (count : ℕ) : Type 0 where
  pub offsets : count ≤ length offset
  pub fits : (i : ℕ) → i < count → at offset i + at weights i ≤ 4_200_000_000
