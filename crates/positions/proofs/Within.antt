-- A position that was read is in the range of its form.
-- Assumes nothing.
use Prim.Native.Nat.{ℕ, zero, suc, ◌+◌, ◌*◌, ◌≤◌}
use Prim.Native.Char.{code}
use mathlib.Core.List.{List, [], ◌∷◌, ◌++◌}
use mathlib.Core.Bool.{Bool, true, false, cond}
use native.Mathlib.Omega.{arith}
use lib.ListN.{drop}
use Rattle.rules.specs.declared.Form.{Form}
use Rattle.rules.specs.declared.Terms.{Terms}
use Rattle.rules.specs.declared.Position.{Position}
use Rattle.rules.specs.Refusal as refusal
use Rattle.rules.specs.Limits.{most_seats}
use Rattle.rules.specs.Figures.{held_form, lots}
use Rattle.rules.specs.Fields.{fields_of}
use Rattle.rules.specs.Book.{overdrawn}
use Rattle.fields.specs.declared.FigureAt.{FigureAt}
use Rattle.fields.specs.declared.FigureAt.TheVariants.{Value}
use Rattle.fields.specs.declared.FigureAt.TheVariants.{Refused as NoFigure}
use Rattle.fields.specs.Reading.{refused_at, figure_from}
use Rattle.fields.proofs.Within.{Most, figure_most}
use Rattle.positions.specs.declared.PositionAt.{PositionAt}
use Rattle.positions.specs.declared.PositionAt.TheVariants.{Read as ReadPosition}
use Rattle.positions.specs.declared.PositionAt.TheVariants.{Refused as NoPosition}
use Rattle.positions.specs.declared.KeyAt.{KeyAt}
use Rattle.positions.specs.declared.KeyAt.TheVariants.{New as NewKey}
use Rattle.positions.specs.declared.KeyAt.TheVariants.{Refused as NoKey}
use Rattle.positions.specs.declared.SeatAt.{SeatAt}
use Rattle.positions.specs.declared.SeatAt.TheVariants.{Read as ReadSeat}
use Rattle.positions.specs.declared.SeatAt.TheVariants.{Refused as NoSeat}
use Rattle.positions.specs.Position.{then_position, position_of}
use Rattle.positions.specs.Seats.{key_from, begins_seat, plus, no_lots, with_key, seat_of, then_seat, seats_from, seats_of}
use Rattle.positions.specs.Seats.{then_held as thenHeldAt}
use Rattle.positions.specs.Ranges.{Few}

abbrev pub HeldAt : PositionAt → Type 0
HeldAt (ReadPosition p next) = Few 1_000_000 p
HeldAt (NoPosition r) = Unit

module _ (s : List ℕ) where
  then_held : (form : Form) (f : FigureAt) (k : ℕ → ℕ → PositionAt) → Most form f → ((n e : ℕ) → n ≤ form.most → HeldAt (k n e)) → HeldAt (then_position s f k)
  then_held form (Value n e) k m h = h n e m
  then_held form (NoFigure r) k m h = tt

  pub position_within : (terms : Terms) (at : ℕ) → HeldAt (position_of s terms at)
  unfolding position_of
  position_within terms at =
      then_held held_form (figure_from at (code "K") held_form (fields_of (drop at s))) _ (figure_most at (code "K") held_form (fields_of (drop at s))) λ k atH hk.
      then_held held_form (figure_from atH (code "H") held_form (fields_of (drop atH s))) _ (figure_most atH (code "H") held_form (fields_of (drop atH s))) λ h atQ hh.
      then_held held_form (figure_from atQ (code "Q") held_form (fields_of (drop atQ s))) _ (figure_most atQ (code "Q") held_form (fields_of (drop atQ s))) λ q e hq.
      go k h atQ e (record { long = lots k; short = lots h; unfilled = lots q }) hk hh hq (overdrawn terms (record { long = lots k; short = lots h; unfilled = lots q }))
    where
      go : (k h atQ e : ℕ) (p : Position) → p.long.0 ≤ 1000000 → p.short.0 ≤ 1000000 → p.unfilled.0 ≤ 1000000 → (b : Bool) → HeldAt (cond b (NoPosition (refused_at refusal.overdrawn atQ)) (ReadPosition p e))
      go k h atQ e p hk hh hq true = tt
      go k h atQ e p hk hh hq false = record { long = hk; short = hh; unfilled = hq }

  -- and so is that of a seat,
  abbrev pub SeatFew : SeatAt → Type 0
  SeatFew (ReadSeat key p next) = Few 1_000_000 p
  SeatFew (NoSeat r) = Unit

  module _ (terms : Terms) where
    pub seat_within : (keys : List ℕ) (at : ℕ) → SeatFew (seat_of s terms keys at)
    unfolding seat_of
    seat_within keys at = by (key_from keys at (fields_of (drop at s)))
      where
        held : (k : ℕ) (x : PositionAt) → HeldAt x → SeatFew (with_key s terms k x)
        held k (ReadPosition q m) h = h
        held k (NoPosition r) h = tt

        by : (x : KeyAt) → SeatFew (thenHeldAt s terms x)
        by (NewKey k m) = held k (position_of s terms m) (position_within terms m)
        by (NoKey r) = tt

    -- and the sums over seats are in four times that
    abbrev pub FewAt : ℕ → PositionAt → Type 0
    FewAt most (ReadPosition p next) = Few most p
    FewAt most (NoPosition r) = Unit

    more_few : {a b : ℕ} (p q : Position) → Few a p → Few 1_000_000 q → a + 1_000_000 ≤ b → Few b (plus p q)
    more_few p q f g h = record { long = omega (arith, f.long, g.long); short = omega (arith, f.short, g.short); unfilled = omega (arith, f.unfilled, g.unfilled) }

    less_few : {a b : ℕ} (p : Position) → a ≤ b → Few a p → Few b p
    less_few p h f = record { long = omega (arith, f.long); short = omega (arith, f.short); unfilled = omega (arith, f.unfilled) }

    seats_few : (n : ℕ) (keys : List ℕ) (sum : Position) (at most : ℕ) → Few most sum → FewAt (most + 1_000_000 * n) (seats_from s terms n keys sum at)
    seats_few zero keys sum at most f = less_few sum (omega arith) f
    seats_few (suc n) keys sum at most f =
        by (seat_of s terms keys at) (seat_within keys at) (λ key p next g. seats_few n (keys ++ key ∷ []) (plus sum p) next (most + 1_000_000) (more_few sum p f g (omega arith)))
      where
        fewer : (x : PositionAt) → FewAt (most + 1_000_000 + 1_000_000 * n) x → FewAt (most + 1_000_000 * suc n) x
        fewer (ReadPosition p next) h = less_few p (omega arith) h
        fewer (NoPosition r) h = tt

        either : (b : Bool) (p : Position) (next : ℕ) (x : PositionAt) → Few 1_000_000 p → FewAt (most + 1_000_000 + 1_000_000 * n) x → FewAt (most + 1_000_000 * suc n) (cond b x (ReadPosition (plus sum p) next))
        either true p next x g h = fewer x h
        either false p next x g h = more_few sum p f g (omega arith)

        by : (x : SeatAt) → SeatFew x →
            ((key : ℕ) (p : Position) (next : ℕ) → Few 1_000_000 p → FewAt (most + 1_000_000 + 1_000_000 * n) (seats_from s terms n (keys ++ key ∷ []) (plus sum p) next)) →
            FewAt (most + 1_000_000 * suc n) (then_seat s terms x λ key p next. cond (begins_seat (fields_of (drop next s))) (seats_from s terms n (keys ++ key ∷ []) (plus sum p) next) (ReadPosition (plus sum p) next))
        by (NoSeat r) g k = tt
        by (ReadSeat key p next) g k = either (begins_seat (fields_of (drop next s))) p next (seats_from s terms n (keys ++ key ∷ []) (plus sum p) next) g (k key p next g)

    pub seats_within : (at : ℕ) → FewAt 4_000_000 (seats_of s terms at)
    unfolding seats_of
    seats_within at = seats_few most_seats [] no_lots at 0 (record { long = omega arith; short = omega arith; unfilled = omega arith })
