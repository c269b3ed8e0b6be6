-- A customer's seats are weighed by their lots on the side that is not locked, if by any side: who is in a tier is net on that side.
-- Assumes nothing.
use Rattle.std.specs.Prelude.{◌≡◌, refl, Bool, true, false, cond, not, ◌&&◌, ℤ, neg_ℤ, ltb, eqb}
use Rattle.std.proofs.Common.{sym, ap}
use Rattle.rules.specs.declared.Terms.{Terms}
use Rattle.rules.specs.declared.Position.{Position}
use Rattle.rules.specs.declared.Standing.TheVariants.{Pending, Neither}
use Rattle.rules.specs.Book.{Customer, position, net, net_long}
use Rattle.rules.specs.Standing.{standing, standing_at, reaches, counted_pending, on_locked_side, locked_standing, other_standing, total_gain}
use Rattle.rules.specs.Seats.{seat_weight}

-- net on the side that is not locked
other_side : (down long : Bool) → cond down long (not long) ≡ false → long ≡ not down
other_side true true e = e
other_side true false e = refl
other_side false true e = refl
other_side false false e = sym e

-- whoever is pending or neither is weighed by no side
no_side : (b x y : Bool) → seat_weight (cond b Pending Neither) x ≡ seat_weight (cond b Pending Neither) y
no_side true x y = refl
no_side false x y = refl

side_at : (terms : Terms) (p : Position) (total : ℤ) →
    seat_weight (standing_at terms p total) (net_long p) ≡ seat_weight (standing_at terms p total) (not terms.down)
side_at terms p total = go (eqb (net p) 0) (on_locked_side terms p) refl
  where
    go : (b o : Bool) → on_locked_side terms p ≡ o →
        let s = cond b Neither (cond o (locked_standing terms p total) (other_standing terms p total)) in
        seat_weight s (net_long p) ≡ seat_weight s (not terms.down)
    go true o e = refl
    go false true e = no_side (reaches terms p (neg_ℤ total) terms.loss && ltb 0 (counted_pending p)) (net_long p) (not terms.down)
    go false false e = ap (seat_weight (other_standing terms p total)) (other_side terms.down (net_long p) e)

pub side_is : (terms : Terms) (c : Customer) →
    seat_weight (standing terms c) (net_long (position c)) ≡ seat_weight (standing terms c) (not terms.down)
unfolding standing
side_is terms c = side_at terms (position c) (total_gain terms c)
