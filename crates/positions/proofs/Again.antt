-- The seats of a customer whose group was read are those that stand in the book behind its C, for who reads them again.
-- Assumes nothing.
use Prim.Native.Nat.{ℕ, ◌+◌}
use mathlib.Core.Path.{◌≡◌, refl, sym, subst, ◌∙◌}
use mathlib.Core.List.{List, [], ◌∷◌}
use mathlib.Core.Bool.{Bool, true, false, cond, ◌||◌}
use native.Mathlib.Omega.{arith}
use lib.ListN.{length, drop}
use Rattle.rules.specs.declared.Terms.{Terms}
use Rattle.rules.specs.Refusal as refusal
use Rattle.rules.specs.Limits.{most_seats}
use Rattle.rules.specs.Text.{is}
use Rattle.rules.specs.Opening.{opening_of}
use Rattle.rules.specs.Fields.{Field, Whole, Cut, fields_of}
use Rattle.rules.specs.Book.{Seat, Customer, astray, Step, Stop, Next, DueI, DueTrade, Group, Nobody, Open, after_c, trades, within, uncovered}
use Rattle.laws.specs.Keeps.{Keeps, must_keeps, refuse_keeps, trade_keeps}
use Rattle.laws.specs.Groups.{Read, Bad, Good, group_from, onward}
use Rattle.laws.specs.SeatFields.{seats_in}
use Rattle.positions.specs.declared.PositionAt.{PositionAt}
use Rattle.positions.specs.declared.PositionAt.TheVariants.{Read as ReadPosition}
use Rattle.positions.specs.declared.PositionAt.TheVariants.{Refused as NoPosition}
use Rattle.positions.specs.Seats.{seats_of}
use Rattle.positions.proofs.Means.{Means, group_means, with_seats}

abbrev Any : ℕ → Type 0
Any n = Unit

module _ (terms : Terms) (last_c : ℕ) where
  -- a trade leaves the seats as they are
  abbrev Trading : List Seat → Group → Type 0
  Trading seats Nobody = ⊥
  Trading seats (Open part d) = (part ≡ DueTrade) × (d.seats ≡ seats)

  trade_leaves : (c : Customer) (t : ℕ) (v : List ℕ) → Keeps Any (Trading c.seats) (trades terms c t v)
  trade_leaves c t v =
      must_keeps Any (Trading c.seats) tt (is "B" t || is "A" t) _ (trade_keeps Any (Trading c.seats) terms.decimals (opening_of (is "B" t) v) _ tt tt (λ x.
      refuse_keeps Any (Trading c.seats) refusal.astray (astray terms.settlement x.price) _ tt (λ e. (refl, refl))))

  abbrev Seated : List Seat → Read → Type 0
  Seated seats (Bad n place) = Unit
  Seated seats (Good c next fs) = c.seats ≡ seats

  trades_leave : (seats : List Seat) (c : Customer) → c.seats ≡ seats → (at : ℕ) (fs : List Field) → Seated seats (group_from terms (Open DueTrade c) last_c at fs)
  unfolding within
  trades_leave seats c e at [] = tt
  trades_leave seats c e at (Cut ∷ fs) = tt
  trades_leave seats c e at (Whole t v ∷ fs) =
      go (is "C" t || is "Z" t) (uncovered c) (trades terms c t v) (subst (λ (l : List Seat). Keeps Any (Trading l) (trades terms c t v)) e (trade_leaves c t v)) (λ d h. trades_leave seats d h (at + 3 + length v) fs)
    where
      go : (b u : Bool) (r : Step Group) → Keeps Any (Trading seats) r → ((d : Customer) → d.seats ≡ seats → Seated seats (group_from terms (Open DueTrade d) last_c (at + 3 + length v) fs)) →
          Seated seats (cond b (cond u (Bad refusal.uncovered last_c) (Good c at (Whole t v ∷ fs))) (onward at r λ next. group_from terms next last_c (at + 3 + length v) fs))
      go true true r k ih = tt
      go true false r k ih = e
      go false u (Stop n) k ih = tt
      go false u (Next Nobody) k ih = absurd k
      go false u (Next (Open part d)) (p, q) ih = subst (λ x. Seated seats (group_from terms (Open x d) last_c (at + 3 + length v) fs)) (sym p) (ih d q)

  pub group_again : (s name : List ℕ) (at : ℕ) (c : Customer) (next : ℕ) (fs : List Field) →
      group_from terms (after_c name) last_c at (fields_of (drop at s)) ≡ Good c next fs → seats_in most_seats (fields_of (drop at s)) ≡ c.seats
  group_again s name at c next fs e = by (seats_of s terms at) (group_means terms last_c s name at)
    where
      by : (x : PositionAt) → Means terms last_c s name [] DueI most_seats at x → seats_in most_seats (fields_of (drop at s)) ≡ c.seats
      by (NoPosition r) m = absurd (let f : Good c next fs ≡ Bad r.number r.place = sym e ∙ m in let z : ◌≡◌ {A = ℕ} 0 1 = cc in omega arith)
      by (ReadPosition p place) m =
          m.again ∙ sym (subst (Seated m.more) (sym m.reads ∙ e) (trades_leave m.more (with_seats name m.more) refl place (fields_of (drop place s))))
