-- A customer's seats as code reads them, one after the other: their positions added up.
-- Assumes nothing.
use Rattle.std.specs.Prelude.{ℕ, zero, suc, ◌+◌, List, [], ◌∷◌, ◌++◌, Bool, false, cond, length, drop}
use Rattle.rules.specs.declared.Terms.{Terms}
use Rattle.rules.specs.declared.Position.{Position}
use Rattle.rules.specs.Refusal as refusal
use Rattle.rules.specs.Limits.{most_seats}
use Rattle.rules.specs.Text.{is}
use Rattle.rules.specs.Figures.{lots}
use Rattle.rules.specs.Fields.{Field, Whole, Cut, fields_of}
use Rattle.codes.specs.declared.Code.{Code}
use Rattle.codes.specs.declared.Code.TheVariants.{Key, Malformed}
use Rattle.codes.specs.Codes.{code_of, given_in}
use Rattle.fields.specs.Reading.{refused_at}
use Rattle.positions.specs.declared.PositionAt.{PositionAt}
use Rattle.positions.specs.declared.PositionAt.TheVariants.{Read as ReadPosition}
use Rattle.positions.specs.declared.PositionAt.TheVariants.{Refused as NoPosition}
use Rattle.positions.specs.declared.KeyAt.{KeyAt}
use Rattle.positions.specs.declared.KeyAt.TheVariants.{New as NewKey}
use Rattle.positions.specs.declared.KeyAt.TheVariants.{Refused as NoKey}
use Rattle.positions.specs.declared.SeatAt.{SeatAt}
use Rattle.positions.specs.declared.SeatAt.TheVariants.{Read as ReadSeat}
use Rattle.positions.specs.declared.SeatAt.TheVariants.{Refused as NoSeat}
use Rattle.positions.specs.Position.{position_of}

-- 5, then 13, at an I whose field ends at `next`, where these keys were given before
abbrev pub new_key : List ℕ → ℕ → ℕ → Code → KeyAt
new_key keys at next (Key k) = cond (given_in keys k) (NoKey (refused_at refusal.seat_twice at)) (NewKey k next)
new_key keys at next Malformed = NoKey (refused_at refusal.malformed at)

-- 2 and 3 before
abbrev pub key_from : List ℕ → ℕ → List Field → KeyAt
key_from keys at [] = NoKey (refused_at refusal.cut_short at)
key_from keys at (Cut ∷ fs) = NoKey (refused_at refusal.cut_short at)
key_from keys at (Whole t v ∷ fs) = cond (is "I" t) (new_key keys at (at + 3 + length v) (code_of v)) (NoKey (refused_at refusal.misplaced at))

-- a seat begins with these fields
abbrev pub begins_seat : List Field → Bool
begins_seat [] = false
begins_seat (Cut ∷ fs) = false
begins_seat (Whole t v ∷ fs) = is "I" t

-- positions added up
abbrev pub plus : Position → Position → Position
plus p q =
    record { long = lots (p.long.0 + q.long.0); short = lots (p.short.0 + q.short.0); unfilled = lots (p.unfilled.0 + q.unfilled.0) }

abbrev pub no_lots : Position
no_lots = record { long = lots 0; short = lots 0; unfilled = lots 0 }

-- in a book under its terms
module _ (s : List ℕ) (terms : Terms) where
  abbrev pub with_key : ℕ → PositionAt → SeatAt
  with_key key (ReadPosition p next) = ReadSeat key p next
  with_key key (NoPosition r) = NoSeat r

  abbrev pub then_held : KeyAt → SeatAt
  then_held (NewKey key next) = with_key key (position_of s terms next)
  then_held (NoKey r) = NoSeat r

  -- I, K, H and Q
  unfoldable pub seat_of : List ℕ → ℕ → SeatAt
  seat_of keys at = then_held (key_from keys at (fields_of (drop at s)))

  abbrev pub then_seat : SeatAt → (ℕ → Position → ℕ → PositionAt) → PositionAt
  then_seat (ReadSeat key p next) k = k key p next
  then_seat (NoSeat r) k = NoPosition r

  -- so many seats at most, where these keys were given and these lots added up before; after the first as many as there are
  abbrev pub seats_from : ℕ → List ℕ → Position → ℕ → PositionAt
  seats_from zero keys sum at = ReadPosition sum at
  seats_from (suc n) keys sum at =
      then_seat (seat_of keys at) λ key p next.
      cond (begins_seat (fields_of (drop next s))) (seats_from n (keys ++ key ∷ []) (plus sum p) next) (ReadPosition (plus sum p) next)

  unfoldable pub seats_of : ℕ → PositionAt
  seats_of at = seats_from most_seats [] no_lots at
