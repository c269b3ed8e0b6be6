-- A turn of the loop over seats: what is read from the first on is what is read from here on, with the keys and the lots so far.
-- Assumes nothing.
use Prim.Native.Nat.{ℕ, suc, ◌+◌, ◌-◌, ◌*◌, ◌≤◌, ◌<◌}
use mathlib.Core.Path.{◌≡◌, refl, sym, ap, subst, ◌∙◌}
use mathlib.Core.List.{List, [], ◌∷◌, ◌++◌}
use mathlib.Core.Bool.{true, false, cond}
use native.Mathlib.Omega.{arith}
use native.Mathlib.Numerals.{add-one}
use lib.ListN.{length, take, drop, set, length-set}
use lib.Seq.{take-suc-set}
use Rattle.rules.specs.declared.Terms.{Terms}
use Rattle.rules.specs.declared.Position.{Position}
use Rattle.rules.specs.Limits.{most_seats}
use Rattle.rules.specs.Fields.{fields_of}
use Rattle.fields.specs.declared.Refusal.{Refusal}
use Rattle.positions.specs.declared.PositionAt.{PositionAt}
use Rattle.positions.specs.declared.PositionAt.TheVariants.{Read as ReadPosition}
use Rattle.positions.specs.declared.PositionAt.TheVariants.{Refused as NoPosition}
use Rattle.positions.specs.declared.SeatAt.TheVariants.{Read as ReadSeat}
use Rattle.positions.specs.declared.SeatAt.TheVariants.{Refused as NoSeat}
use Rattle.positions.specs.Seats.{begins_seat, plus, no_lots, seat_of, then_seat, seats_from, seats_of}
use Rattle.positions.specs.Ranges.{Few}
use Rattle.positions.proofs.Within.{SeatFew, seat_within}

pub record Along (s : List ℕ) (terms : Terms) (first : ℕ) (keys : List ℕ) (sum : Position) (count at : ℕ) : Type 0 where
  pub most : count ≤ most_seats
  pub wide : length keys ≡ most_seats
  pub few : Few (1_000_000 * count) sum
  pub reads : seats_of s terms first ≡ seats_from s terms (most_seats - count) (take count keys) sum at

module _ (s : List ℕ) (terms : Terms) (first : ℕ) where
  pub none_along : (keys : List ℕ) → length keys ≡ most_seats → Along s terms first keys no_lots 0 first
  unfolding seats_of
  none_along keys h = record { most = omega arith; wide = h; few = record { long = omega arith; short = omega arith; unfilled = omega arith }; reads = refl }

  module _ (keys : List ℕ) (sum : Position) (count at : ℕ) (a : Along s terms first keys sum count at) where
    -- four seats are read
    pub all_read : most_seats ≤ count → seats_of s terms first ≡ ReadPosition sum at
    all_read h =
        let none : most_seats - count ≡ 0 = omega arith in
        a.reads ∙ ap (λ n. seats_from s terms n (take count keys) sum at) none

    module _ (room : count < most_seats) where
      after : ℕ → Position → ℕ → PositionAt
      after key p next =
          cond (begins_seat (fields_of (drop next s))) (seats_from s terms (most_seats - (count + 1)) (take count keys ++ key ∷ []) (plus sum p) next)
          (ReadPosition (plus sum p) next)

      one_more : seats_of s terms first ≡ then_seat s terms (seat_of s terms (take count keys) at) after
      unfolding after
      one_more =
          let left : most_seats - count ≡ suc (most_seats - (count + 1)) = omega arith in
          a.reads ∙ ap (λ n. seats_from s terms n (take count keys) sum at) left

      pub seat_refused : (r : Refusal) → seat_of s terms (take count keys) at ≡ NoSeat r → seats_of s terms first ≡ NoPosition r
      seat_refused r e = one_more ∙ ap (λ x. then_seat s terms x after) e

      module _ (key : ℕ) (p : Position) (next : ℕ) (e : seat_of s terms (take count keys) at ≡ ReadSeat key p next) where
        -- a seat's lots are those of figures
        pub seat_few : Few 1_000_000 p
        seat_few = subst (SeatFew s) e (seat_within s terms (take count keys) at)

        pub seat_last : begins_seat (fields_of (drop next s)) ≡ false → seats_of s terms first ≡ ReadPosition (plus sum p) next
        unfolding after
        seat_last h = one_more ∙ ap (λ x. then_seat s terms x after) e ∙ rw h

        pub seat_more : begins_seat (fields_of (drop next s)) ≡ true → Along s terms first (set keys count key) (plus sum p) (count + 1) next
        unfolding after
        seat_more h =
            let f = a.few in
            let g = seat_few in
            record {
              most = omega arith;
              wide = length-set keys count key ∙ a.wide;
              few = record { long = omega (arith, f.long, g.long); short = omega (arith, f.short, g.short); unfilled = omega (arith, f.unfilled, g.unfilled) };
              reads =
                  one_more ∙ ap (λ x. then_seat s terms x after) e ∙ rw h
                  (ap (λ l. seats_from s terms (most_seats - (count + 1)) l (plus sum p) next) (sym (rw add-one (take-suc-set keys count key (omega (arith, a.wide))))));
            }
