-- Small right answers of the functions that read seats and divide over them, each the only one that the function's published contract allows, beside
-- `Answered`. A comment says what wrong programs answer there.
-- Assumes nothing.
use Rattle.std.specs.Prelude.{ℕ, true, false, ◌≡◌, List, [], ◌∷◌, ◌++◌, length}
use Rattle.std.proofs.Math.Path.{refl}
use Rattle.std.proofs.Common.{◌∙◌}
use contract.Lifetimes.{Lfts}
use denote.Triple.Entry.{Args, Res}
use denote.Triple.Clauses.{AtExit}
use Rattle.rules.specs.declared.Terms.{Terms}
use Rattle.rules.specs.declared.Standing.TheVariants.{Pending, Tier1}
use Rattle.rules.specs.Figures.{fen, lots, rate, written_of, figure_of}
use Rattle.rules.specs.Text.{bytes}
use Rattle.rules.specs.Refusal as refusal
use Rattle.rules.specs.Codes.{is_code}
use Rattle.rules.specs.Fields.{fields_of}
use Rattle.rules.specs.Division.{left_over_of, rank, share_of, share}
use Rattle.rules.specs.Report.{field, digits}
use Rattle.laws.specs.Keys.{digit_of, key_of}
use Rattle.cases.specs.Tables.{seat, end}
use Rattle.codes.specs.Codes.{code_of}
use Rattle.fields.specs.Reading.{refused_at}
use Rattle.positions.specs.declared.PositionAt.{PositionAt}
use Rattle.positions.specs.declared.PositionAt.TheVariants.{Read, Refused}
use Rattle.positions.specs.Position.{position_of}
use Rattle.positions.specs.Seats.{seat_of, seats_of}
use Rattle.seats.specs.declared.SeatAt.{SeatAt}
use Rattle.seats.specs.declared.SeatAt.TheVariants.{Found, NoSeat}
use Rattle.seats.specs.Dealt.{seats_at}
use Rattle.writing.specs.Written.{written}
use Rattle.positions.proofs as positions
use Rattle.positions.specs.contracts as positions_contracts
use Rattle.seats.proofs as seats
use Rattle.seats.specs.contracts as seats_contracts
use Rattle.entries.proofs as entries
use Rattle.entries.specs.contracts as entries_contracts

-- locked down, at 400.00
abbrev terms : Terms
terms = record { down = true; decimals = 2; settlement = fen 40_000; loss = rate 8_000; edge1 = rate 8_000; edge2 = rate 4_000 }

-- the seats of `Several`: P's, and W's
abbrev of_p : List ℕ
of_p = seat "B" "3" "0" "3" ++ seat "C" "9" "0" "3" ++ seat "A" "3" "0" "3" ++ end

abbrev of_w : List ℕ
of_w = seat "1" "4" "7" "4" ++ seat "2" "0" "2" "0" ++ end

abbrev empty : List ℕ → List ℕ
empty more = seat "1" "0" "0" "0" ++ more

module _ (κs : Lfts 1) (a : Args positions_contracts.read_seats.signature κs) (r : PositionAt) (s : AtExit positions_contracts.read_seats.ended κs) (h : positions.read_seats.Reads.Learnt κs a r s)
    (under : a.1.0 ≡ terms) (front : a.1.1.0 ≡ 0) where
  -- the last seat alone: 0, 2 and 0; the first: 4, 7 and 4
  pub added_up : a.0.now ≡ of_w → r ≡ Read (record { long = lots 4; short = lots 9; unfilled = lots 4 }) 32
  unfolding seats_of seat_of position_of code_of key_of digit_of is_code written_of figure_of fields_of
  added_up e = h ∙ rw (e, under, front) refl

  -- a seat code twice is taken: read, with no lots; told at the first of both: at 0
  pub twice : a.0.now ≡ empty (empty end) → r ≡ Refused (refused_at refusal.seat_twice (length (empty [])))
  unfolding seats_of seat_of position_of code_of key_of digit_of is_code written_of figure_of fields_of
  twice e = h ∙ rw (e, under, front) refl

module _ (κs : Lfts 1) (a : Args seats_contracts.seat_lots.signature κs) (r : Res seats_contracts.seat_lots.signature κs) (s : AtExit seats_contracts.seat_lots.ended κs) (h : seats.seat_lots.Reads.Learnt κs a r s)
    (front : a.1.0 ≡ 0) (x : a.1.1.1.1.0 ≡ 5) where
  -- ties by place or to the larger code: 2, 2 and 1; by lots held: 1, 3 and 1
  pub lots_of_p : a.0.now ≡ of_p → a.1.1.0 ≡ Pending → r ≡ 2 ∷ 1 ∷ 2 ∷ 0 ∷ []
  unfolding seats_at written_of figure_of fields_of share share_of left_over_of rank
  lots_of_p e standing = h ∙ rw (e, front, standing, x) refl

  -- by their own nets, or all seats alike: 3 and 2; by Q: 5 and 0
  pub lots_of_w : a.0.now ≡ of_w → a.1.1.0 ≡ Tier1 → a.1.1.1.0 ≡ false → r ≡ 4 ∷ 1 ∷ 0 ∷ 0 ∷ []
  unfolding seats_at written_of figure_of fields_of share share_of left_over_of rank
  lots_of_w e standing long = h ∙ rw (e, front, standing, long, x) refl

-- where a seat may begin with another tag: one that ends at 12
module _ (κs : Lfts 1) (a : Args seats_contracts.next_seat.signature κs) (r : SeatAt) (s : AtExit seats_contracts.next_seat.ended κs) (h : seats.next_seat.Reads.Learnt κs a r s) (front : a.1.0 ≡ 0) where
  pub no_seat : a.0.now ≡ field "C" (bytes "A") ++ seat "" "" "" "" → r ≡ NoSeat
  unfolding fields_of
  no_seat e = h ∙ rw (e, front) refl

  pub first_of_two : a.0.now ≡ of_w → r ≡ Found (record { start = 3; end = 4; short = 8; unfilled = 12; next = 16 })
  unfolding fields_of
  first_of_two e = h ∙ rw (e, front) refl

-- the first of two has all of the offset: a seat
module _ (κs : Lfts 1) (a : Args seats_contracts.only_seat.signature κs) (r : SeatAt) (s : AtExit seats_contracts.only_seat.ended κs) (h : seats.only_seat.Reads.Learnt κs a r s) where
  pub two_are_not_alone : a.0.now ≡ of_w → a.1.0 ≡ 0 → r ≡ NoSeat
  unfolding fields_of
  two_are_not_alone e front = h ∙ rw (e, front) refl

-- without the tag J: 9; with the code twice: 12
module _ (κs : Lfts 0) (a : Args entries_contracts.seat_length.signature κs) (r : ℕ) (s : AtExit entries_contracts.seat_length.ended κs) (h : entries.seat_length.Reads.Learnt κs a r s) where
  pub length_of_a_seat : a.0 ≡ 2 → a.1.0 ≡ 12 → r ≡ 10
  unfolding digits
  length_of_a_seat e f = h.0 ∙ rw (e, f) refl

-- the lots under O, and the lots before the code, are other bytes
module _ (κs : Lfts 2) (a : Args entries_contracts.put_seat.signature κs) (r : ℕ) (s : AtExit entries_contracts.put_seat.ended κs) (h : entries.put_seat.Reads.Learnt κs a r s) where
  pub seat_put : a.0.now ≡ bytes "xxxxxxxxxxx" → a.1.0 ≡ 0 → a.1.1.0.now ≡ bytes "M1" → a.1.1.1.0 ≡ 12 → s.0.now ≡ field "I" (bytes "M1") ++ field "J" (bytes "12") ++ bytes "x"
  unfolding written digits
  seat_put out at code n = h.whole ∙ rw (out, at, code, n) refl
