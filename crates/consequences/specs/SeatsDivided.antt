-- "The customer's offset is divided over its seats": in an accepted book's outcome no seat's lots exceed its weight, and a customer's seats together
-- have its offset. For the offset is within what the customer has pending or offers, which its seats' weights cover, and its seats' codes are distinct.
-- Assumes nothing.
use Rattle.std.specs.Prelude.{ℕ, zero, suc, ◌+◌, ◌≤◌, ◌<◌, ◌≡◌, List, [], ◌∷◌, length, get_or}
use Rattle.std.proofs.Math.Path.{refl}
use Rattle.std.proofs.Common.{sym, subst, arith}
use Rattle.rules.specs.declared.Terms.{Terms}
use Rattle.rules.specs.Division.{sum_of}
use Rattle.rules.specs.Book.{Seat, Customer, added, Accepted, judge}
use Rattle.rules.specs.Standing.{standing}
use Rattle.rules.specs.Cascade.{Line, offered_by, pending_by, line_of, outcome}
use Rattle.rules.specs.Seats.{seat_code, weight_in, seat_lots}
use Rattle.laws.specs.ShareSum.{Distinct}
use Rattle.laws.specs.SeatWeights.{seat_at_most, seats_sum}
use Rattle.laws.specs.Sane.{Sane, AllSane, accepted_sane}
use Rattle.consequences.specs.Rearranged.{nobody}
use Rattle.consequences.specs.Within.{Within, within_stake}
use Rattle.consequences.specs.Lines.{book_within}

pub sane_at : (cs : List Customer) → AllSane cs → (i : ℕ) (d : Customer) → i < length cs → Sane (get_or cs i d)
sane_at [] a i d h = absurd (omega arith)
sane_at (c ∷ cs) a zero d h = a.0
sane_at (c ∷ cs) a (suc i) d h = sane_at cs a.1 i d (omega arith)

-- a line's offset over its seats
pub record Divided (l : Line) : Type 0 where
  pub most : (s : Seat) → seat_lots l s ≤ weight_in l s
  pub all : sum_of (seat_lots l) l.seats ≡ l.offset

module _ (terms : Terms) (c : Customer) (l : Line) (w : Within (line_of terms c) l) where
  stake : l.offset ≤ offered_by l.standing (added l.seats) + pending_by l.standing (added l.seats)
  unfolding line_of
  stake = rw (w.standing, w.seats) (omega (arith, within_stake (standing terms c) (line_of terms c) l refl w))

  divided : Distinct seat_code c.seats → Divided l
  unfolding line_of
  divided d = record { most = seat_at_most l stake; all = seats_sum l stake (subst (Distinct seat_code) (sym w.seats) d) }

module _ (s : List ℕ) (terms : Terms) (cs : List Customer) (e : judge s ≡ Accepted terms cs) where
  pub book_divided : (i : ℕ) (none : Customer) → i < length cs → Divided (get_or (outcome terms cs).lines i nobody)
  book_divided i none h =
      divided terms (get_or cs i none) (get_or (outcome terms cs).lines i nobody) (book_within s terms cs e i none h)
      (sane_at cs (accepted_sane s terms cs e).all i none h).seats.distinct
