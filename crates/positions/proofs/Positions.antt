-- What K, H and Q of a seat come to in a group.
-- Assumes nothing.
use Prim.Native.Nat.{ℕ}
use Prim.Native.Char.{Char}
use Prim.Native.Char.{code as byte}
use mathlib.Core.Path.{◌≡◌, refl, ◌∙◌}
use mathlib.Core.List.{List}
use mathlib.Core.Bool.{Bool, true, false, cond, ◌||◌}
use lib.ListN.{drop}
use Rattle.rules.specs.declared.Terms.{Terms}
use Rattle.rules.specs.declared.Position.{Position}
use Rattle.rules.specs.Refusal as refusal
use Rattle.rules.specs.Text.{is}
use Rattle.rules.specs.Figures.{figure_of, held_form, lots}
use Rattle.rules.specs.Fields.{Field, fields_of}
use Rattle.rules.specs.Book.{Seat, Customer, overdrawn, Step, Stop, Next, refuse, figure, Part, DueK, DueH, DueQ, DueSeat, Group, Open, seat_at, joined_by, within, may_end}
use Rattle.laws.specs.Groups.{Read, Bad, group_from, onward}
use Rattle.fields.specs.declared.Refusal.{Refusal}
use Rattle.positions.specs.declared.PositionAt.{PositionAt}
use Rattle.positions.specs.declared.PositionAt.TheVariants.{Read as ReadPosition}
use Rattle.positions.specs.declared.PositionAt.TheVariants.{Refused as NoPosition}
use Rattle.fields.specs.declared.FigureAt.{FigureAt}
use Rattle.fields.specs.declared.FigureAt.TheVariants.{Value}
use Rattle.fields.specs.declared.FigureAt.TheVariants.{Refused as NoFigure}
use Rattle.fields.specs.Reading.{refused_at, figure_in}
use Rattle.positions.specs.Position.{then_position, position_of}
use Rattle.fields.proofs.Steps.{on_figure, Figured, figured}

abbrev pub bad : Refusal → Read
bad r = Bad r.number r.place

module _ (terms : Terms) (last_c : ℕ) where
  abbrev go : ℕ → Step Group → ℕ → List Field → Read
  go at r e fs = onward at r λ g. group_from terms g last_c e fs

  -- a seat of this customer with this code
  module _ (s : List ℕ) (c : Customer) (v : List ℕ) where
    abbrev pub seat_with : Position → Seat
    seat_with p = record { code = v; position = p }

    abbrev pub then_read : PositionAt → Read
    then_read (ReadPosition p next) = group_from terms (Open DueSeat (joined_by c (seat_with p))) last_c next (fields_of (drop next s))
    then_read (NoPosition r) = bad r

    -- a part with this tag and a figure is due, and the group may not end before
    module _ (part : Part) (tag : Char) (at : ℕ) (next : ℕ → Step Group)
        (stays : may_end part ≡ false)
        (plain : (is "C" (byte tag) || is "Z" (byte tag)) ≡ false)
        (tagged : (v : List ℕ) → within terms (Open part c) (byte tag) v ≡ figure (figure_of held_form v) next)
        (other : (t : ℕ) (v : List ℕ) → is tag t ≡ false → within terms (Open part c) t v ≡ Stop refusal.misplaced)
        (P : ℕ → ℕ → PositionAt)
        (after : (n e : ℕ) → go at (next n) e (fields_of (drop e s)) ≡ then_read (P n e)) where
      figure_due : Figured (byte tag) held_form at (group_from terms (Open part c) last_c at) bad (go at) next
      figure_due =
          record {
            none = refl;
            cut = λ fs. refl;
            other = λ t v fs h. rw (other t v h, stays) (both (is "C" t || is "Z" t));
            tagged = λ v fs. rw (plain, tagged v);
            stopped = λ n e fs h. refl;
          }
        where
          both : (b : Bool) → cond b (Bad refusal.misplaced at) (Bad refusal.misplaced at) ≡ Bad refusal.misplaced at
          both true = refl
          both false = refl

      part_read : group_from terms (Open part c) last_c at (fields_of (drop at s)) ≡ then_read (then_position s (figure_in s at (byte tag) held_form) P)
      part_read = figured s figure_due ∙ by (figure_in s at (byte tag) held_form)
        where
          by : (f : FigureAt) → on_figure f bad (λ n e. go at (next n) e (fields_of (drop e s))) ≡ then_read (then_position s f P)
          by (Value n e) = after n e
          by (NoFigure r) = refl

    -- 8, or the next seat or trade
    drawn : (p : Position) (at e : ℕ) →
        go at (refuse refusal.overdrawn (overdrawn terms p) (Next (Open DueSeat (joined_by c (seat_with p))))) e (fields_of (drop e s))
        ≡ then_read (cond (overdrawn terms p) (NoPosition (refused_at refusal.overdrawn at)) (ReadPosition p e))
    drawn p at e = by (overdrawn terms p)
      where
        by : (b : Bool) →
            go at (refuse refusal.overdrawn b (Next (Open DueSeat (joined_by c (seat_with p))))) e (fields_of (drop e s))
            ≡ then_read (cond b (NoPosition (refused_at refusal.overdrawn at)) (ReadPosition p e))
        by true = refl
        by false = refl

    pub position_means : (at : ℕ) → group_from terms (Open (DueK (seat_at v 0 0 0)) c) last_c at (fields_of (drop at s)) ≡ then_read (position_of s terms at)
    unfolding position_of within
    position_means at =
        part_read (DueK (seat_at v 0 0 0)) "K" at _ refl refl (λ v. refl) (λ t v h. rw h) _ λ k atH.
        part_read (DueH (seat_at v k 0 0)) "H" atH _ refl refl (λ v. refl) (λ t v h. rw h) _ λ h atQ.
        part_read (DueQ (seat_at v k h 0)) "Q" atQ _ refl refl (λ v. refl) (λ t v h. rw h) _ λ q e.
        drawn (record { long = lots k; short = lots h; unfilled = lots q }) atQ e
