-- The seats that stand at the front of fields, as who has a place in an accepted book reads them again; and that these are the customer's.
-- Assumes nothing.
use Rattle.std.specs.Prelude.{ℕ, zero, suc, List, [], ◌∷◌, cond}
use Rattle.rules.specs.declared.Figure.{Figure}
use Rattle.rules.specs.declared.Figure.TheVariants.{Value, Comma, Malformed}
use Rattle.rules.specs.Text.{is}
use Rattle.rules.specs.Figures.{held_form, figure_of}
use Rattle.rules.specs.Fields.{Field, Whole, Cut}
use Rattle.rules.specs.Book.{Seat, seat_at}

-- the lots that a figure says, and none where it is no figure
abbrev pub lots_said : Figure → ℕ
lots_said (Value n) = n
lots_said Comma = 0
lots_said Malformed = 0

abbrev pub lots_in : List ℕ → ℕ
lots_in v = lots_said (figure_of held_form v)

-- I, K, H and Q, so many times at most
abbrev pub seats_in : ℕ → List Field → List Seat
seats_in zero fs = []
seats_in (suc n) [] = []
seats_in (suc n) (Cut ∷ fs) = []
seats_in (suc n) (Whole t v ∷ []) = []
seats_in (suc n) (Whole t v ∷ Cut ∷ fs) = []
seats_in (suc n) (Whole t v ∷ Whole a k ∷ []) = []
seats_in (suc n) (Whole t v ∷ Whole a k ∷ Cut ∷ fs) = []
seats_in (suc n) (Whole t v ∷ Whole a k ∷ Whole b h ∷ []) = []
seats_in (suc n) (Whole t v ∷ Whole a k ∷ Whole b h ∷ Cut ∷ fs) = []
seats_in (suc n) (Whole t v ∷ Whole a k ∷ Whole b h ∷ Whole c q ∷ fs) = cond (is "I" t) (seat_at v (lots_in k) (lots_in h) (lots_in q) ∷ seats_in n fs) []
