-- The fields of a customer's seats: from the lots that stand in an array, from an only seat, and as the report's definition says them.
-- Assumes nothing.
use Prim.Native.Nat.{ℕ, ◌-◌, ◌≤◌, ◌<◌}
use mathlib.Core.Path.{◌≡◌, refl, sym, ap, subst, ◌∙◌}
use mathlib.Core.List.{List, [], ◌∷◌, ◌++◌, map, append-nil}
use mathlib.Core.Bool.{Bool}
use native.Mathlib.Omega.{arith}
use lib.ListN.{length, get_or, drop, length-map, get_or-append}
use Rattle.rules.specs.declared.Standing.{Standing}
use Rattle.rules.specs.Limits.{longest_code}
use Rattle.rules.specs.Division.{sum_of, share}
use Rattle.rules.specs.Book.{Seat, seat_at}
use Rattle.rules.specs.Cascade.{Line}
use Rattle.rules.specs.Seats.{seat_code, seat_weight, weight_in, seat_lots}
use Rattle.rules.specs.Report.{joined, reported_seat, reported}
use Rattle.laws.specs.Sums.{up_to, map_up_to}
use Rattle.laws.specs.Indices.{up_to_below, get_d_in}
use Rattle.laws.specs.CodeLength.{code_length_lem}
use Rattle.laws.specs.Seats.{AllSeats, SaneSeats}
use Rattle.seats.specs.declared.Places.{Places}
use Rattle.seats.specs.Places.{code_in, seat_in}
use Rattle.seats.specs.Walk.{Next, sane_next, code_size}
use Rattle.seats.specs.Dealt.{seats_at, dealt, no_lots, in_places, Due, seat_of}
use Rattle.seats.specs.Only.{Only, all_dealt}
use Rattle.entries.specs.Entries.{own_bytes, seat_bytes, reported_own, reported_seat_lem, seat_length, seat_length_lem}
use Rattle.report.specs.Sheet.{seat_piece, each_bytes, seats_bytes}
use Rattle.report.proofs.First.{first, first_of, joined_cong}

pub each_first : (seats : List Seat) (lots : List ℕ) → each_bytes seats lots ≡ first (seat_piece seats lots) (length seats)
unfolding each_bytes first
each_first seats lots = refl

module _ (standing : Standing) (long : Bool) (x : ℕ) (seats : List Seat) where
  abbrev lots_of : Seat → ℕ
  lots_of = dealt standing long x seats

  abbrev piece : Seat → List ℕ
  piece s = seat_bytes s.code (lots_of s)

  at_place : {lots : List ℕ} → lots ≡ in_places lots_of seats → (i : ℕ) → i < length seats → get_or lots i 0 ≡ lots_of (seat_of seats i)
  at_place e i h =
      ap (λ l. get_or l i 0) e
      ∙ get_or-append (map lots_of seats) (drop (length seats) no_lots) 0 i (omega (arith, length-map seats lots_of))
      ∙ get_d_in lots_of seats i (seat_at [] 0 0 0) 0 h

  -- each with its place in the array
  pub each_dealt : {lots : List ℕ} → lots ≡ in_places lots_of seats → each_bytes seats lots ≡ seats_bytes standing long x seats
  unfolding each_bytes seats_bytes first
  each_dealt {lots} e =
      joined_cong (seat_piece seats lots) (λ i. piece (seat_of seats i)) (up_to (length seats)) (λ i m. ap (seat_bytes (seat_of seats i).code) (at_place e i (up_to_below (length seats) m)))
      ∙ sym (first_of piece (seat_of seats) (length seats))
      ∙ ap (joined piece) (map_up_to (seat_at [] 0 0 0) seats)

  -- an only seat
  pub only_dealt : {seat : Seat} → seats ≡ seat ∷ [] → Due seats standing long x → seats_bytes standing long x seats ≡ seat_bytes seat.code x
  unfolding seats_bytes
  only_dealt {seat} e due =
      let most : x ≤ seat_weight standing long seat = omega (arith, due.most, ap (sum_of (seat_weight standing long)) e) in
      ap (λ l. joined (λ (s : Seat). seat_bytes s.code (dealt standing long x l s)) l) e
      ∙ append-nil (seat_bytes seat.code (dealt standing long x (seat ∷ []) seat))
      ∙ ap (seat_bytes seat.code) (all_dealt seat standing long x most)

-- a customer: its own fields, and its seats'
pub reported_is : (l : Line) (long : Bool) → weight_in l ≡ seat_weight l.standing long →
    reported l ≡ own_bytes l.code l.standing l.offset ++ seats_bytes l.standing long l.offset l.seats
unfolding seat_lots seats_bytes
reported_is l long e =
    let lots : (s : Seat) → seat_lots l s ≡ dealt l.standing long l.offset l.seats s = λ s. ap (λ (w : Seat → ℕ). share seat_code w l.offset l.seats s) e in
    reported_own l
    ∙ ap (λ t. own_bytes l.code l.standing l.offset ++ t)
    (joined_cong (reported_seat l) (λ (s : Seat). seat_bytes s.code (dealt l.standing long l.offset l.seats s)) l.seats (λ s m. reported_seat_lem l s ∙ ap (seat_bytes s.code) (lots s)))

-- the piece of the seat that stands at a place, where the array has its lots
module _ (book : List ℕ) (place : ℕ) (lots : List ℕ) {i : ℕ} {p : Places} (n : Next book place i p) where
  pub piece_is : seat_piece (seats_at book place) lots i ≡ seat_bytes (code_in book p) (get_or lots i 0)
  piece_is = ap (λ (s : Seat). seat_bytes s.code (get_or lots i 0)) (n.here (seat_at [] 0 0 0))

  pub piece_length : length (seat_piece (seats_at book place) lots i) ≡ seat_length (p.end - p.start) (get_or lots i 0)
  piece_length = ap length piece_is ∙ seat_length_lem (code_in book p) (get_or lots i 0) ∙ ap (λ k. seat_length k (get_or lots i 0)) (code_size book n.ordered)

-- and its code is short
pub code_short : (book : List ℕ) (place : ℕ) {i : ℕ} {p : Places} → SaneSeats (seats_at book place) → Next book place i p → p.end - p.start ≤ longest_code
code_short book place {p = p} sane n = omega (arith, code_length_lem (code_in book p) (sane_next book place sane n).code, code_size book n.ordered)

-- an only seat
module _ (book : List ℕ) (place : ℕ) (standing : Standing) (long : Bool) (x : ℕ) (due : Due (seats_at book place) standing long x) {p : Places} (o : Only book place p) where
  pub only_bytes : seats_bytes standing long x (seats_at book place) ≡ seat_bytes (code_in book p) x
  only_bytes = only_dealt standing long x (seats_at book place) o.seats due

  pub only_short : p.end - p.start ≤ longest_code
  only_short =
      let sane : AllSeats (seat_in book p ∷ []) = subst AllSeats o.seats due.sane.all in
      omega (arith, code_length_lem (code_in book p) sane.0.code, code_size book o.ordered)

  pub only_length : length (seats_bytes standing long x (seats_at book place)) ≡ seat_length (p.end - p.start) x
  only_length = ap length only_bytes ∙ seat_length_lem (code_in book p) x ∙ ap (λ k. seat_length k x) (code_size book o.ordered)
