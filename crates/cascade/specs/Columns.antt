-- The lines that lent columns show: a customer's key, its standing as a byte, its stake, and what it has offset so far. A line has its
-- customer's key for a code: keys are in order as the codes are.
-- Assumes nothing.
use Rattle.std.specs.Prelude.{ℕ, zero, suc, ◌-◌, List, [], ◌∷◌, map}
use Rattle.rules.specs.Cascade.{Line}
use Rattle.rules.specs.declared.Standing.{Standing}
use Rattle.rules.specs.declared.Standing.TheVariants.{Pending, Tier1, Tier2, Tier3, Neither}
use Rattle.laws.specs.Sums.{up_to}
use Rattle.division.specs.Shares.{at}

-- a standing's byte: the tier's number, 0 for pending, 4 for neither
abbrev pub standing_of : ℕ → Standing
standing_of zero = Pending
standing_of (suc zero) = Tier1
standing_of (suc (suc zero)) = Tier2
standing_of (suc (suc (suc zero))) = Tier3
standing_of (suc (suc (suc (suc n)))) = Neither

-- A stake is what a tier's customer offers, or what a pending one has counted pending.
abbrev pub offered_as : Standing → ℕ → ℕ
offered_as Pending n = 0
offered_as Tier1 n = n
offered_as Tier2 n = n
offered_as Tier3 n = n
offered_as Neither n = 0

abbrev pub pending_as : Standing → ℕ → ℕ
pending_as Pending n = n
pending_as Tier1 n = 0
pending_as Tier2 n = 0
pending_as Tier3 n = 0
pending_as Neither n = 0

-- the columns; the first `count` places are the customers'
pub record Columns : Type 0 where
  pub keys : List ℕ
  pub standings : List ℕ
  pub stakes : List ℕ
  pub count : ℕ

abbrev pub columns : List ℕ → List ℕ → List ℕ → ℕ → Columns
columns keys standings stakes count = record { keys = keys; standings = standings; stakes = stakes; count = count }

-- a customer's line: still pending is its stake less its offset
abbrev pub line_at : Columns → List ℕ → ℕ → Line
line_at c offset i =
    let s = standing_of (at c.standings i) in
    record {
      code = at c.keys i ∷ [];
      seats = [];
      standing = s;
      offered = offered_as s (at c.stakes i);
      pending = pending_as s (at c.stakes i) - at offset i;
      offset = at offset i;
    }

unfoldable pub lines_of : Columns → List ℕ → List Line
lines_of c offset = map (line_at c offset) (up_to c.count)
