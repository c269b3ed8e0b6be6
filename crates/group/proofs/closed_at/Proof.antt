-- `group::closed_at` meets its contract: the standing, and what it offers and has pending.
-- Assumes nothing.
use Prim.Native.Nat.{◌≤◌}
use mathlib.Core.Path.{ap, ◌∙◌}
use native.Mathlib.Omega.{arith}
use Rattle.rules.specs.declared.Position.{Position}
use Rattle.rules.specs.declared.Standing.{Standing}
use Rattle.rules.specs.declared.Standing.TheVariants.{Pending, Tier1, Tier2, Tier3, Neither}
use Rattle.rules.specs.Cascade.{offered_by, pending_by}
use Rattle.group.specs.declared.GroupAt.TheVariants.{Closed}
use Rattle.group.specs.Group.{closed_at}
use Rattle.rules.specs.Standing.{standing_at}
use Rattle.laws.specs.Exact.{of_int}
use borrow.Author.Rules.{rules}
use Rattle.group.proofs.closed_at.Statement.{statement}
use Rattle.group.proofs.closed_at.Tie as tie

-- nobody offers, or has pending, more than a position holds
module _ (p : Position) (long : p.long.0 ≤ 4000000) (short : p.short.0 ≤ 4000000) where
  offered-small : (s : Standing) → offered_by s p ≤ 4000000
  offered-small Pending = omega arith
  offered-small Tier1 = omega arith
  offered-small Tier2 = omega arith
  offered-small Tier3 = omega arith
  offered-small Neither = omega arith

  pending_small : (s : Standing) → pending_by s p ≤ 4000000
  pending_small Pending = omega arith
  pending_small Tier1 = omega arith
  pending_small Tier2 = omega arith
  pending_small Tier3 = omega arith
  pending_small Neither = omega arith

standing-of-requires : tie.Need-standing_of-standing-requires
standing-of-requires c κs = search rules

offered-by-requires : tie.Need-offered_by-offered-requires
offered-by-requires c κs = search rules

cast-offered : tie.Need-overflow_cast-offered
cast-offered c = let s = c in omega (arith, c.offered_by-offered.ensures, offered-small s.args.position s.requires.long s.requires.short c.standing_of-standing.result)

pending-by-requires : tie.Need-pending_by-pending-requires
pending-by-requires c κs = search rules

cast-pending : tie.Need-overflow_cast-pending
cast-pending c = let s = c in omega (arith, c.pending_by-pending.ensures, pending_small s.args.position s.requires.long s.requires.short c.standing_of-standing.result)

returns : tie.Need-returns
returns c =
    let a = c.args in
    let s = c.standing_of-standing in
    (λ i. Closed a.place s.result (c.offered_by-offered.ensures i) (c.pending_by-pending.ensures i)) ∙ ap (λ (x : Standing). closed_at x a.position a.place) (s.ensures ∙ ap (standing_at a.terms a.position) (of_int a.total c.ranges.total).num)

pub closed_at_spec : {M : Type 1} → statement M
closed_at_spec =
    tie.close (tie.spec standing-of-requires offered-by-requires cast-offered pending-by-requires cast-pending returns)
