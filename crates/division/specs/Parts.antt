-- How a division finds the shares. A member's part is its whole lots and what it lacks of one lot more. Who lacks less goes before, and
-- where two lack the same the smaller key: so the last to get a lot is a pair of numbers, and no member's rank has to be counted.
-- Assumes nothing.
use Rattle.std.specs.Prelude.{ℕ, ◌+◌, ◌-◌, ◌*◌, ◌/◌, ◌%◌, ◌≤◌, ◌<◌, ◌≡◌, Bool, cond, ◌&&◌, ◌||◌, List, ltb, eqb}
use Rattle.rules.specs.Limits.{most_customers}
use Rattle.rules.specs.Division.{sum_of, one_if}
use Rattle.laws.specs.Sums.{up_to}
use Rattle.laws.specs.Filled.{filled}
use Rattle.division.specs.Shares.{at, Bounded}

-- a part is one number: whole lots times this, and what is lacked
abbrev pub base : ℕ
base = 4_294_967_296

abbrev pub whole_in_of : ℕ → ℕ
whole_in_of part = part / base

abbrev pub lack_in : ℕ → ℕ
lack_in part = part % base

-- the part of member i
abbrev pub whole_at : List ℕ → ℕ → ℕ → ℕ → ℕ
whole_at weights x sum i = x * at weights i / sum

abbrev pub lack_at : List ℕ → ℕ → ℕ → ℕ → ℕ
lack_at weights x sum i = sum - x * at weights i % sum

abbrev pub part_at : List ℕ → ℕ → ℕ → ℕ → ℕ
part_at weights x sum i = whole_at weights x sum i * base + lack_at weights x sum i

-- of two members, each what it lacks and its key: the first goes before the second
abbrev pub before : ℕ → ℕ → ℕ → ℕ → Bool
before lack key lack' key' = ltb lack lack' || eqb lack lack' && ltb key key'

-- how many of the first n members go before one that lacks `lack'` and has the key `key'`
abbrev pub before_of : (ℕ → ℕ) → (ℕ → ℕ) → ℕ → ℕ → ℕ → ℕ
before_of lack key n lack' key' = sum_of (λ i. one_if (before (lack i) (key i) lack' key')) (up_to n)

-- whether a member counts in a search below t: by what it lacks where `edge` is 0; else by its key, if it lacks the edge
abbrev pub counts : ℕ → ℕ → ℕ → ℕ → Bool
counts edge part key t = cond (eqb edge 0) (ltb (lack_in part) t) (eqb (lack_in part) edge && ltb key t)

abbrev pub count_of : List ℕ → List ℕ → ℕ → ℕ → ℕ → ℕ
count_of parts keys edge n t = sum_of (λ i. one_if (counts edge (at parts i) (at keys i) t)) (up_to n)

-- a member's lots, where the last lacks `lack` and has the key `key`
abbrev pub lots_at : List ℕ → List ℕ → ℕ → ℕ → ℕ → ℕ
lots_at parts keys lack key i = whole_in_of (at parts i) + one_if (before (lack_in (at parts i)) (at keys i) lack (key + 1))

-- An edge has `need` up to it; and fewer below it, unless it has exactly `need` up to it.
pub record Edge (up below need : ℕ) : Type 0 where
  pub enough : need ≤ up
  pub least : (up ≡ need → ⊥) → below < need

-- What the search for an edge asks of the numbers below each t, and what it finds.
pub record Sought (below : ℕ → ℕ) (need least most : ℕ) : Type 0 where
  pub span : least ≤ most
  pub under : below least < need
  pub enough : need ≤ below (most + 1)

pub record Found (below : ℕ → ℕ) (need least r : ℕ) : Type 0 where
  pub above : least ≤ r
  pub edge : Edge (below (r + 1)) (below r) need

-- The steps of a division. First the parts,
pub record Ready (weights : List ℕ) (count x sum : ℕ) : Type 0 where
  pub bounded : Bounded weights count
  pub total : sum ≡ sum_of (at weights) (up_to count)
  pub less : x < sum

pub record Spread (weights after : List ℕ) (count x sum r : ℕ) : Type 0 where
  pub whole : r ≡ sum_of (whole_at weights x sum) (up_to count)
  pub parts : after ≡ filled (part_at weights x sum) count weights

-- then the last: each lacks something, and at most a whole lot, and no more lots are left over than there are members;
pub record Parted (parts : List ℕ) (count spare sum : ℕ) : Type 0 where
  pub few : count ≤ most_customers
  pub spared : spare ≤ count
  pub some : (i : ℕ) → i < count → 0 < lack_in (at parts i)
  pub most : (i : ℕ) → i < count → lack_in (at parts i) ≤ sum

pub record Spanned (parts keys : List ℕ) (count edge least most : ℕ) : Type 0 where
  pub span : least ≤ most
  pub above : (i : ℕ) → i < count → lack_in (at parts i) ≡ edge → least ≤ at keys i
  pub under : (i : ℕ) → i < count → lack_in (at parts i) ≡ edge → at keys i ≤ most

pub record IsLast (parts keys : List ℕ) (count spare lack key : ℕ) : Type 0 where
  pub edge : Edge (before_of (λ i. lack_in (at parts i)) (at keys) count lack (key + 1)) (before_of (λ i. lack_in (at parts i)) (at keys) count lack key) spare

-- then the lots.
pub record Settled (parts keys after : List ℕ) (count lack key : ℕ) : Type 0 where
  pub lots : after ≡ filled (lots_at parts keys lack key) count parts
