-- Seat after seat: i of a customer's seats stand before a place, and those that are left stand from there on.
-- Assumes nothing.
use Rattle.std.specs.Prelude.{ℕ, zero, suc, ◌+◌, ◌-◌, ◌≤◌, ◌<◌, ◌≡◌, refl, List, [], ◌∷◌, length, get_or, drop}
use Rattle.std.proofs.Common.{sym, ap, subst, ◌∙◌, add-one, le_of_suc-le-suc, length-take, length-drop, drop-cons}
use native.Mathlib.Omega.{arith}
use Rattle.rules.specs.Limits.{most_seats}
use Rattle.rules.specs.Fields.{fields_of}
use Rattle.rules.specs.Book.{Seat}
use Rattle.laws.specs.Seats.{SaneSeat, AllSeats, SaneSeats}
use Rattle.laws.specs.SeatFields.{seats_in}
use Rattle.seats.specs.declared.Places.{Places}
use Rattle.seats.specs.declared.SeatAt.TheVariants.{Found, NoSeat}
use Rattle.seats.specs.Places.{code_in, seat_in, seat_from, Ordered}
use Rattle.seats.specs.Laws.{Says, says}
use Rattle.seats.specs.Dealt.{seats_at}

pub sane_at : (seats : List Seat) → AllSeats seats → (i : ℕ) (d : Seat) → i < length seats → SaneSeat (get_or seats i d)
sane_at [] h i d l = absurd (omega arith)
sane_at (s ∷ seats) h zero d l = h.0
sane_at (s ∷ seats) h (suc i) d l = sane_at seats h.1 i d (le_of_suc-le-suc l)

module _ (s : List ℕ) (at : ℕ) where
  pub record Behind (i place : ℕ) : Type 0 where
    pub rest : drop i (seats_at s at) ≡ seats_in (most_seats - i) (fields_of (drop place s))
    pub inside : i ≤ length (seats_at s at)

  pub behind_none : Behind 0 at
  unfolding seats_at
  behind_none = record { rest = refl; inside = omega arith }

  -- seat i stands here, and the others behind it
  pub record Next (i : ℕ) (p : Places) : Type 0 where
    pub here : (d : Seat) → get_or (seats_at s at) i d ≡ seat_in s p
    pub below : i < length (seats_at s at)
    pub ordered : Ordered s p
    pub behind : Behind (i + 1) p.next

  module _ {i place : ℕ} (b : Behind i place) where
    one_less : i < most_seats → most_seats - i ≡ suc (most_seats - (i + 1))
    one_less h = omega arith

    pub next : {p : Places} → i < most_seats → seat_from place (fields_of (drop place s)) ≡ Found p → Next i p
    next {p} h e =
        let found : Says s (fields_of (drop place s)) (Found p) = subst (Says s (fields_of (drop place s))) e (says s place) in
        let all : drop i (seats_at s at) ≡ seat_in s p ∷ seats_in (most_seats - (i + 1)) (fields_of (drop p.next s)) =
        b.rest ∙ ap (λ n. seats_in n (fields_of (drop place s))) (one_less h) ∙ found.seats (most_seats - (i + 1)) in
        let below : i < length (seats_at s at) = omega (arith, length-drop i (seats_at s at), ap length all) in
        let first : (d : Seat) → get_or (seats_at s at) i d ∷ drop (suc i) (seats_at s at) ≡ seat_in s p ∷ seats_in (most_seats - (i + 1)) (fields_of (drop p.next s)) =
        λ d. sym (drop-cons (seats_at s at) i d below) ∙ all in
        let others : drop (suc i) (seats_at s at) ≡ seats_in (most_seats - (i + 1)) (fields_of (drop p.next s)) = let z = first (seat_in s p) in cc in
        record {
          here = λ d. let z = first d in cc;
          below = below;
          ordered = found.ordered;
          behind = record { rest = ap (λ n. drop n (seats_at s at)) (add-one i) ∙ others; inside = omega arith };
        }

    over : drop i (seats_at s at) ≡ [] → i ≡ length (seats_at s at)
    over e = omega (arith, b.inside, length-drop i (seats_at s at), ap length e)

    pub last : i < most_seats → seat_from place (fields_of (drop place s)) ≡ NoSeat → i ≡ length (seats_at s at)
    last h e =
        let none : Says s (fields_of (drop place s)) NoSeat = subst (Says s (fields_of (drop place s))) e (says s place) in
        over (b.rest ∙ ap (λ n. seats_in n (fields_of (drop place s))) (one_less h) ∙ none.seats (most_seats - (i + 1)))

    pub full : most_seats ≤ i → i ≡ length (seats_at s at)
    full h = let z : most_seats - i ≡ 0 = omega arith in over (b.rest ∙ ap (λ n. seats_in n (fields_of (drop place s))) z)

-- a seat that stands in the book
pub sane_next : (s : List ℕ) (at : ℕ) {i : ℕ} {p : Places} → SaneSeats (seats_at s at) → Next s at i p → SaneSeat (seat_in s p)
sane_next s at {i} {p} h n = subst SaneSeat (n.here (seat_in s p)) (sane_at (seats_at s at) h.all i (seat_in s p) n.below)

pub code_size : (s : List ℕ) {p : Places} → Ordered s p → length (code_in s p) ≡ p.end - p.start
code_size s o = simp (length-take, length-drop) (omega (arith, o.code, o.long, o.short, o.unfilled, o.inside))
