-- Each seat's lots where a customer's offset is divided over its seats, which stand in the book from a place on.
-- Assumes nothing.
use Rattle.std.specs.Prelude.{ℕ, ◌≤◌, ◌≡◌, List, [], ◌∷◌, ◌++◌, map, Bool, length, get_or, drop}
use Rattle.rules.specs.declared.Standing.{Standing}
use Rattle.rules.specs.Limits.{most_seats}
use Rattle.rules.specs.Fields.{fields_of}
use Rattle.rules.specs.Division.{sum_of, share}
use Rattle.rules.specs.Book.{Seat, seat_at}
use Rattle.rules.specs.Seats.{seat_weight, seat_code}
use Rattle.laws.specs.Keys.{key_of}
use Rattle.laws.specs.Sums.{up_to}
use Rattle.laws.specs.Filled.{filled}
use Rattle.laws.specs.Seats.{SaneSeats}
use Rattle.laws.specs.SeatFields.{seats_in}

unfoldable pub seats_at : List ℕ → ℕ → List Seat
seats_at s at = seats_in most_seats (fields_of (drop at s))

abbrev pub dealt : Standing → Bool → ℕ → List Seat → Seat → ℕ
dealt standing long x seats = share seat_code (seat_weight standing long) x seats

-- a place for each seat that there may be, and 0 where there is none
abbrev pub no_lots : List ℕ
no_lots = 0 ∷ 0 ∷ 0 ∷ 0 ∷ []

abbrev pub in_places : (Seat → ℕ) → List Seat → List ℕ
in_places f seats = map f seats ++ drop (length seats) no_lots

-- what is asked of the seats, and of what is divided over them
pub record Due (seats : List Seat) (standing : Standing) (long : Bool) (x : ℕ) : Type 0 where
  pub sane : SaneSeats seats
  pub most : x ≤ sum_of (seat_weight standing long) seats

-- the seat at an index
abbrev pub seat_of : List Seat → ℕ → Seat
seat_of seats i = get_or seats i (seat_at [] 0 0 0)

-- keys and weights laid into two arrays, in the order of the seats
pub record Weighed (seats : List Seat) (weight : Seat → ℕ) (keys₀ keyed lots₀ laid : List ℕ) (count weights : ℕ) : Type 0 where
  pub all : count ≡ length seats
  pub keys : keyed ≡ filled (λ i. key_of (seat_of seats i).code) count keys₀
  pub lots : laid ≡ filled (λ i. weight (seat_of seats i)) count lots₀
  pub sum : weights ≡ sum_of (λ i. weight (seat_of seats i)) (up_to count)
