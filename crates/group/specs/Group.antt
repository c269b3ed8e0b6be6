-- A customer's group as code reads it.
-- Assumes nothing.
use Rattle.std.specs.Prelude.{ℕ, ◌≡◌, []}
use Rattle.rules.specs.declared.Terms.{Terms}
use Rattle.rules.specs.declared.Standing.{Standing}
use Rattle.rules.specs.declared.Position.{Position}
use Rattle.rules.specs.Book.{Customer, position}
use Rattle.rules.specs.Standing.{standing}
use Rattle.rules.specs.Cascade.{offered_by, pending_by}
use Rattle.laws.specs.Groups.{Read, Bad, Good}
use Rattle.group.specs.declared.GroupAt.{GroupAt}
use Rattle.group.specs.declared.GroupAt.TheVariants.{Closed, Refused}
use Rattle.fields.specs.Reading.{refused_at}

-- a customer whose seats add up to this position, with no trade yet
pub record Holding (p : Position) (c : Customer) : Type 0 where
  pub sums : position c ≡ p
  pub untraded : c.trades ≡ []

-- a group that was read, as the roll takes it
abbrev pub closed_at : Standing → Position → ℕ → GroupAt
closed_at s p at = Closed at s (offered_by s p) (pending_by s p)

abbrev pub group_at : Terms → Read → GroupAt
group_at terms (Bad n place) = Refused (refused_at n place)
group_at terms (Good c at fs) = closed_at (standing terms c) (position c) at
