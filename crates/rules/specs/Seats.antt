-- docs/RULES.md, section 12. Request [5]: "The customer's offset is divided over its seats".
-- Assumes nothing.
use Rattle.std.specs.Prelude.{ℕ, List, Bool, true, false}
use Rattle.rules.specs.declared.Position.{Position}
use Rattle.rules.specs.declared.Standing.{Standing}
use Rattle.rules.specs.declared.Standing.TheVariants.{Pending, Tier1, Tier2, Tier3, Neither}
use Rattle.rules.specs.Book.{Seat, added, net_long}
use Rattle.rules.specs.Division.{share}
use Rattle.rules.specs.Cascade.{Line}

-- the lots held on a side, gross
abbrev pub held_on : Bool → Position → ℕ
held_on true p = p.long.0
held_on false p = p.short.0

-- "by Q for a P customer and by lots held on the net side for a tier customer"; the others have no offset to divide
abbrev pub seat_weight : Standing → Bool → Seat → ℕ
seat_weight Pending long s = s.position.unfilled.0
seat_weight Tier1 long s = held_on long s.position
seat_weight Tier2 long s = held_on long s.position
seat_weight Tier3 long s = held_on long s.position
seat_weight Neither long s = 0

abbrev pub seat_code : Seat → List ℕ
seat_code s = s.code

-- a seat's weight in its customer's line
abbrev pub weight_in : Line → Seat → ℕ
weight_in l = seat_weight l.standing (net_long (added l.seats))

-- "with document 01's division and ties to the smaller seat code"
unfoldable pub seat_lots : Line → Seat → ℕ
seat_lots l = share seat_code (weight_in l) l.offset l.seats
