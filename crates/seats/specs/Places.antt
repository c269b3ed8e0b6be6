-- A seat in the book, by the places of its fields: the seat that begins at a place is I, K, H and Q from there.
-- Assumes nothing.
use Rattle.std.specs.Prelude.{ℕ, ◌+◌, ◌-◌, ◌≤◌, List, [], ◌∷◌, cond, length, take, drop}
use Rattle.rules.specs.Text.{is}
use Rattle.rules.specs.Fields.{Field, Whole, Cut, fields_of}
use Rattle.rules.specs.Book.{Seat, seat_at}
use Rattle.laws.specs.SeatFields.{lots_in}
use Rattle.seats.specs.declared.Places.{Places}
use Rattle.seats.specs.declared.SeatAt.{SeatAt}
use Rattle.seats.specs.declared.SeatAt.TheVariants.{Found, NoSeat}

-- the bytes from one place to another, and the value of a field that stands there
abbrev pub between : List ℕ → ℕ → ℕ → List ℕ
between s from to = take (to - from) (drop from s)

abbrev pub value_in : List ℕ → ℕ → ℕ → List ℕ
value_in s from to = between s (from + 3) to

abbrev pub code_in : List ℕ → Places → List ℕ
code_in s p = between s p.start p.end

abbrev pub seat_in : List ℕ → Places → Seat
seat_in s p =
    seat_at (code_in s p) (lots_in (value_in s p.end p.short)) (lots_in (value_in s p.short p.unfilled)) (lots_in (value_in s p.unfilled p.next))

-- a field's tag, where it ends, and the fields behind it
abbrev pub on_field : ℕ → List Field → (ℕ → ℕ → List Field → SeatAt) → SeatAt
on_field at [] k = NoSeat
on_field at (Cut ∷ fs) k = NoSeat
on_field at (Whole t v ∷ fs) k = k t (at + 3 + length v) fs

abbrev pub places_from : ℕ → ℕ → List Field → SeatAt
places_from start end behind =
    on_field end behind λ k short rest.
    on_field short rest λ h unfilled last.
    on_field unfilled last λ q next fs.
    Found (record { start = start; end = end; short = short; unfilled = unfilled; next = next })

abbrev pub seat_from : ℕ → List Field → SeatAt
seat_from at fs = on_field at fs λ t end behind. cond (is "I" t) (places_from (at + 3) end behind) NoSeat

-- the only one: no other begins where it ends
abbrev pub alone : Places → SeatAt → SeatAt
alone p (Found q) = NoSeat
alone p NoSeat = Found p

abbrev pub only_from : List ℕ → SeatAt → SeatAt
only_from s (Found p) = alone p (seat_from p.next (fields_of (drop p.next s)))
only_from s NoSeat = NoSeat

-- the fields stand one behind another in the book
pub record Ordered (s : List ℕ) (p : Places) : Type 0 where
  pub code : p.start ≤ p.end
  pub long : p.end + 3 ≤ p.short
  pub short : p.short + 3 ≤ p.unfilled
  pub unfilled : p.unfilled + 3 ≤ p.next
  pub inside : p.next ≤ length s
