-- A customer's only seat has all of its offset.
-- Assumes nothing.
use Rattle.std.specs.Prelude.{ℕ, ◌≤◌, List, [], ◌∷◌, Bool, drop}
use Rattle.std.proofs.Math.Path.{◌≡◌, refl, ap, subst}
use Rattle.std.proofs.Common.{◌∙◌, arith}
use mathlib.Core.List.Memᴰ
use Rattle.rules.specs.declared.Standing.{Standing}
use Rattle.rules.specs.Fields.{fields_of}
use Rattle.rules.specs.Book.{Seat}
use Rattle.rules.specs.Seats.{seat_code, seat_weight}
use Rattle.laws.specs.ShareSum.{share_sum}
use Rattle.seats.specs.declared.Places.{Places}
use Rattle.seats.specs.declared.SeatAt.{SeatAt}
use Rattle.seats.specs.declared.SeatAt.TheVariants.{Found, NoSeat}
use Rattle.seats.specs.Places.{seat_in, seat_from, alone, only_from, Ordered}
use Rattle.seats.specs.Laws.{Says, says}
use Rattle.seats.specs.Dealt.{seats_at, dealt}

pub record Only (s : List ℕ) (at : ℕ) (p : Places) : Type 0 where
  pub seats : seats_at s at ≡ seat_in s p ∷ []
  pub ordered : Ordered s p

module _ (s : List ℕ) (at : ℕ) where
  abbrev from : ℕ → SeatAt
  from place = seat_from place (fields_of (drop place s))

  pub only : {p : Places} → only_from s (from at) ≡ Found p → Only s at p
  unfolding seats_at
  only {p} h = go (from at) refl h
    where
      one : (q : Places) → from at ≡ Found q → (r : SeatAt) → from q.next ≡ r → alone q r ≡ Found p → Only s at p
      one q e (Found z) f g = let z : ◌≡◌ {A = ℕ} 0 1 = cc in absurd (omega arith)
      one q e NoSeat f g =
          let same : q ≡ p = cc in
          let first : Says s (fields_of (drop at s)) (Found q) = subst (Says s (fields_of (drop at s))) e (says s at) in
          let none : Says s (fields_of (drop q.next s)) NoSeat = subst (Says s (fields_of (drop q.next s))) f (says s q.next) in
          subst (Only s at) same (record { seats = first.seats 3 ∙ ap (λ l. seat_in s q ∷ l) (none.seats 2); ordered = first.ordered })

      go : (r : SeatAt) → from at ≡ r → only_from s r ≡ Found p → Only s at p
      go (Found q) e g = one q e (from q.next) refl g
      go NoSeat e g = let z : ◌≡◌ {A = ℕ} 0 1 = cc in absurd (omega arith)

pub all_dealt : (seat : Seat) (standing : Standing) (long : Bool) (x : ℕ) → x ≤ seat_weight standing long seat → dealt standing long x (seat ∷ []) seat ≡ x
all_dealt seat standing long x h =
    omega (arith, share_sum seat_code (seat_weight standing long) x (seat ∷ []) (omega arith) ((λ b m. absurd (Memᴰ.not-nil m)), tt))
