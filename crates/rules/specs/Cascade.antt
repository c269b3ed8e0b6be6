-- docs/RULES.md, section 11. Document 01, "Cascade and whole lots".
-- Assumes nothing.
use Rattle.std.specs.Prelude.{ℕ, ◌+◌, ◌-◌, min, List, map, cond, eqb}
use Rattle.rules.specs.declared.Terms.{Terms}
use Rattle.rules.specs.declared.Position.{Position}
use Rattle.rules.specs.declared.Standing.{Standing}
use Rattle.rules.specs.declared.Standing.TheVariants.{Pending, Tier1, Tier2, Tier3, Neither}
use Rattle.rules.specs.Book.{Seat, Customer, position, net}
use Rattle.rules.specs.Standing.{standing, counted_pending}
use Rattle.rules.specs.Division.{sum_of, share}

-- A customer in the cascade: its seats, its standing, what it offers, what it still has pending, and its offset so far.
pub record Line : Type 0 where
  pub code : List ℕ
  pub seats : List Seat
  pub standing : Standing
  pub offered : ℕ
  pub pending : ℕ
  pub offset : ℕ

-- the tier of a standing, 0 for none
abbrev pub tier_of : Standing → ℕ
tier_of Pending = 0
tier_of Tier1 = 1
tier_of Tier2 = 2
tier_of Tier3 = 3
tier_of Neither = 0

-- "The whole net position is offered."
abbrev pub offered_by : Standing → Position → ℕ
offered_by Pending p = 0
offered_by Tier1 p = net p
offered_by Tier2 p = net p
offered_by Tier3 p = net p
offered_by Neither p = 0

abbrev pub pending_by : Standing → Position → ℕ
pending_by Pending p = counted_pending p
pending_by Tier1 p = 0
pending_by Tier2 p = 0
pending_by Tier3 p = 0
pending_by Neither p = 0

unfoldable pub line_of : Terms → Customer → Line
line_of terms c =
    let s = standing terms c in
    record { code = c.code; seats = c.seats; standing = s; offered = offered_by s (position c); pending = pending_by s (position c); offset = 0 }

abbrev pub code_of : Line → List ℕ
code_of l = l.code

abbrev pub pending_of : Line → ℕ
pending_of l = l.pending

-- what a line offers in tier k
abbrev pub offered_in : ℕ → Line → ℕ
offered_in k l = cond (eqb (tier_of l.standing) k) l.offered 0

-- "A tier's quantity is the smaller of what is still pending over all P customers and the tier's offered lots."
unfoldable pub quantity : ℕ → List Line → ℕ
quantity k ls = min (sum_of pending_of ls) (sum_of (offered_in k) ls)

-- "In each tier that quantity is divided twice: over the tier's customers by offered lots, and over P customers by what each
-- still has pending. A P customer's offset is the sum over the tiers." One line after tier k, where ls are all lines before it
unfoldable pub after : ℕ → List Line → Line → Line
after k ls l =
    let x = quantity k ls in
    let gives = share code_of (offered_in k) x ls l in
    let closes = share code_of pending_of x ls l in
    record { code = l.code; seats = l.seats; standing = l.standing; offered = l.offered; pending = l.pending - closes; offset = l.offset + gives + closes }

abbrev pub tier : ℕ → List Line → List Line
tier k ls = map (after k ls) ls

pub record Outcome : Type 0 where
  pub total : ℕ
  pub residue : ℕ
  pub lines : List Line

-- "Tiers go 1, 2, 3." "Total is the sum of the three quantities; residue is the counted pending of all P customers less the total."
unfoldable pub cascade : List Line → Outcome
cascade ls =
    let second = tier 1 ls in
    let third = tier 2 second in
    let total = quantity 1 ls + quantity 2 second + quantity 3 third in
    record { total = total; residue = sum_of pending_of ls - total; lines = tier 3 third }

unfoldable pub outcome : Terms → List Customer → Outcome
outcome terms cs = cascade (map (line_of terms) cs)
