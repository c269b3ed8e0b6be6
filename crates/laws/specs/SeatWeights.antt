-- A customer's seats have at least the weight of what it has pending and offers: counted pending is no more than the Q of all seats, and a net
-- position is no more than what the seats hold on its side. So where an offset is no more than that, the division over the seats gives none more
-- than its weight and gives the whole offset.
-- Assumes nothing.
use Rattle.std.specs.Prelude.{◌+◌, ◌≤◌, ◌≡◌, refl, List, Bool, true, false}
use Rattle.std.proofs.Common.{arith, ltb-true, ltb-false}
use Rattle.rules.specs.declared.Standing.{Standing}
use Rattle.rules.specs.declared.Standing.TheVariants.{Pending, Tier1, Tier2, Tier3, Neither}
use Rattle.rules.specs.Division.{sum_of}
use Rattle.rules.specs.Book.{Seat, added, net, net_long}
use Rattle.rules.specs.Cascade.{Line, offered_by, pending_by}
use Rattle.rules.specs.Seats.{held_on, seat_weight, seat_code, weight_in, seat_lots}
use Rattle.laws.specs.Division.{share_at_most}
use Rattle.laws.specs.ShareSum.{Distinct, share_sum}

-- a net position is no more than what is held on its side
net_held : (seats : List Seat) (long : Bool) → net_long (added seats) ≡ long → net (added seats) ≤ sum_of (λ (s : Seat). held_on long s.position) seats
net_held seats true e = omega (arith, ltb-true (added seats).short.0 (added seats).long.0 e)
net_held seats false e = omega (arith, ltb-false (added seats).short.0 (added seats).long.0 e)

pub weights_cover : (s : Standing) (seats : List Seat) → offered_by s (added seats) + pending_by s (added seats) ≤ sum_of (seat_weight s (net_long (added seats))) seats
weights_cover Pending seats = omega arith
weights_cover Tier1 seats = omega (arith, net_held seats (net_long (added seats)) refl)
weights_cover Tier2 seats = omega (arith, net_held seats (net_long (added seats)) refl)
weights_cover Tier3 seats = omega (arith, net_held seats (net_long (added seats)) refl)
weights_cover Neither seats = omega arith

-- an offset that is no more than what the customer has pending and offers
module _ (l : Line) (h : l.offset ≤ offered_by l.standing (added l.seats) + pending_by l.standing (added l.seats)) where
  offset_covered : l.offset ≤ sum_of (weight_in l) l.seats
  offset_covered = omega (arith, h, weights_cover l.standing l.seats)

  pub seat_at_most : (s : Seat) → seat_lots l s ≤ weight_in l s
  unfolding seat_lots
  seat_at_most s = share_at_most seat_code (weight_in l) l.offset l.seats offset_covered s

  pub seats_sum : Distinct seat_code l.seats → sum_of (seat_lots l) l.seats ≡ l.offset
  unfolding seat_lots
  seats_sum d = share_sum seat_code (weight_in l) l.offset l.seats offset_covered d
