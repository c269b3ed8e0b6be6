-- What one field comes to, for every term and every part of a group at once. It is refused at its own tag, so not with 9; a term leads to
-- the next, or to no customers and nobody's group; a field of a group leads on in the group of the same customer.
-- Assumes nothing.
use Rattle.std.specs.Prelude.{ℕ, ◌<◌, ◌≡◌, refl, List, [], false, not, ◌&&◌, ◌||◌, length, leb, ltb, eqb}
use Prim.Native.Char.{code}
use Rattle.std.proofs.Common.{arith}
use Rattle.rules.specs.declared.Terms.{Terms}
use Rattle.rules.specs.Refusal as refusal
use Rattle.rules.specs.Text.{is}
use Rattle.rules.specs.Limits.{most_seats}
use Rattle.rules.specs.Codes.{is_code}
use Rattle.rules.specs.Figures.{price_form, rate_form, held_form}
use Rattle.rules.specs.Opening.{opening_of}
use Rattle.rules.specs.Book.{
  Customer,
  overdrawn,
  astray,
  seated,
  Stop,
  Next,
  Part,
  DueI,
  DueK,
  DueH,
  DueQ,
  DueSeat,
  DueTrade,
  Group,
  Nobody,
  Open,
  seat_at,
  sits,
  trades,
  within,
  Term,
  DueD,
  DueX,
  DueS,
  DueL,
  DueU,
  DueV,
  Due,
  AtTerm,
  InGroup,
  Stage,
  Reading,
  Ended,
  locked,
  with_decimals,
  step,
}
use Rattle.laws.specs.Keeps.{Keeps, must_keeps, cond_keeps, refuse_keeps, figure_keeps, trade_keeps, lock_keeps, places_keeps}

-- a refusal at the field's own tag: above 0, and not 9
pub record AtTag (n : ℕ) : Type 0 where
  pub above : 0 < n
  pub own : eqb n refusal.uncovered ≡ false

misplaced : AtTag refusal.misplaced
misplaced = record { above = omega arith; own = refl }

comma : AtTag refusal.comma
comma = record { above = omega arith; own = refl }

malformed : AtTag refusal.malformed
malformed = record { above = omega arith; own = refl }

-- no customer is there yet, and nobody's group is open
abbrev pub Early : Due → Type 0
Early (AtTerm term ts) = Unit
Early (InGroup terms cs g) = (cs ≡ []) × (g ≡ Nobody)

abbrev pub EarlyStage : Stage → Type 0
EarlyStage (Reading due) = Early due
EarlyStage (Ended terms cs) = ⊥

pub term_leads : (term : Term) (ts : Terms) (t : ℕ) (v : List ℕ) → Keeps AtTag EarlyStage (step (AtTerm term ts) t v)
unfolding step
term_leads DueD ts t v =
    must_keeps AtTag EarlyStage misplaced (is "D" t) _ (lock_keeps AtTag EarlyStage v (λ d. Next (Reading (AtTerm DueX (locked ts d)))) malformed (λ d. tt))
term_leads DueX ts t v =
    must_keeps AtTag EarlyStage misplaced (is "X" t) _ (places_keeps AtTag EarlyStage v (λ x. Next (Reading (AtTerm DueS (with_decimals ts x)))) malformed (λ x. tt))
term_leads DueS ts t v = must_keeps AtTag EarlyStage misplaced (is "S" t) _ (figure_keeps AtTag EarlyStage (price_form ts.decimals) v _ comma malformed (λ n k. tt))
term_leads DueL ts t v = must_keeps AtTag EarlyStage misplaced (is "L" t) _ (figure_keeps AtTag EarlyStage rate_form v _ comma malformed (λ n k. tt))
term_leads DueU ts t v = must_keeps AtTag EarlyStage misplaced (is "U" t) _ (figure_keeps AtTag EarlyStage rate_form v _ comma malformed (λ n k. tt))
term_leads DueV ts t v =
    must_keeps AtTag EarlyStage misplaced (is "V" t) _ (figure_keeps AtTag EarlyStage rate_form v _ comma malformed (λ x k.
    refuse_keeps AtTag EarlyStage refusal.edges (leb ts.edge1.0 x) _ (record { above = omega arith; own = refl }) (λ e. (refl, refl))))

-- neither a C nor a Z is a term
pub no_c : (term : Term) (ts : Terms) (v : List ℕ) → step (AtTerm term ts) (code "C") v ≡ Stop refusal.misplaced
unfolding step
no_c DueD ts v = refl
no_c DueX ts v = refl
no_c DueS ts v = refl
no_c DueL ts v = refl
no_c DueU ts v = refl
no_c DueV ts v = refl

pub no_z : (term : Term) (ts : Terms) (v : List ℕ) → step (AtTerm term ts) (code "Z") v ≡ Stop refusal.misplaced
unfolding step
no_z DueD ts v = refl
no_z DueX ts v = refl
no_z DueS ts v = refl
no_z DueL ts v = refl
no_z DueU ts v = refl
no_z DueV ts v = refl

-- the same customer read further: with the same code
abbrev pub FurtherGroup : Customer → Group → Type 0
FurtherGroup c Nobody = ⊥
FurtherGroup c (Open part d) = d.code ≡ c.code

sits_leads : (v : List ℕ) (c : Customer) → Keeps AtTag (FurtherGroup c) (sits v c)
sits_leads v c =
    refuse_keeps AtTag (FurtherGroup c) refusal.malformed (not (is_code v)) _ malformed (λ e.
    refuse_keeps AtTag (FurtherGroup c) refusal.seat_twice (seated v c.seats) _ (record { above = omega arith; own = refl }) (λ f. refl))

trades_leads : (terms : Terms) (c : Customer) (t : ℕ) (v : List ℕ) → Keeps AtTag (FurtherGroup c) (trades terms c t v)
trades_leads terms c t v =
    must_keeps AtTag (FurtherGroup c) misplaced (is "B" t || is "A" t) _ (trade_keeps AtTag (FurtherGroup c) terms.decimals (opening_of (is "B" t) v) _ comma malformed (λ x.
    refuse_keeps AtTag (FurtherGroup c) refusal.astray (astray terms.settlement x.price) _ (record { above = omega arith; own = refl }) (λ e. refl)))

pub part_leads : (terms : Terms) (part : Part) (c : Customer) (t : ℕ) (v : List ℕ) → Keeps AtTag (FurtherGroup c) (within terms (Open part c) t v)
unfolding within
part_leads terms DueI c t v = must_keeps AtTag (FurtherGroup c) misplaced (is "I" t) _ (sits_leads v c)
part_leads terms (DueK s) c t v =
    must_keeps AtTag (FurtherGroup c) misplaced (is "K" t) _ (figure_keeps AtTag (FurtherGroup c) held_form v _ comma malformed (λ k h. refl))
part_leads terms (DueH s) c t v =
    must_keeps AtTag (FurtherGroup c) misplaced (is "H" t) _ (figure_keeps AtTag (FurtherGroup c) held_form v _ comma malformed (λ k h. refl))
part_leads terms (DueQ s) c t v =
    must_keeps AtTag (FurtherGroup c) misplaced (is "Q" t) _ (figure_keeps AtTag (FurtherGroup c) held_form v _ comma malformed (λ q h.
    refuse_keeps AtTag (FurtherGroup c) refusal.overdrawn (overdrawn terms (seat_at s.code s.position.long.0 s.position.short.0 q).position) _
    (record { above = omega arith; own = refl }) (λ e. refl)))
part_leads terms DueSeat c t v = cond_keeps AtTag (FurtherGroup c) (is "I" t && ltb (length c.seats) most_seats) _ _ (λ e. sits_leads v c) (λ e. trades_leads terms c t v)
part_leads terms DueTrade c t v = trades_leads terms c t v
