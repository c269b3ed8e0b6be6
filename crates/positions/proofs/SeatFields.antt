-- The fields that a seat was read from, and that these are its customer's next seat for who reads them again.
-- Assumes nothing.
use Prim.Native.Nat.{ℕ, zero, suc, ◌+◌}
use Prim.Native.Char.{code}
use mathlib.Core.Path.{◌≡◌, refl, sym, ap, ◌∙◌}
use mathlib.Core.List.{List, [], ◌∷◌}
use mathlib.Core.Bool.{Bool, true, false, cond}
use native.Mathlib.Omega.{arith}
use lib.ListN.{length, drop}
use lib.Dec.{eqb}
use borrow.Author.Tests.{eqb-true}
use Rattle.rules.specs.declared.Form.{Form}
use Rattle.rules.specs.declared.Figure.{Figure}
use Rattle.rules.specs.declared.Figure.TheVariants.{Comma, Malformed}
use Rattle.rules.specs.declared.Figure.TheVariants.{Value as Number}
use Rattle.rules.specs.declared.Terms.{Terms}
use Rattle.rules.specs.declared.Position.{Position}
use Rattle.rules.specs.Refusal as refusal
use Rattle.rules.specs.Figures.{held_form, lots, figure_of}
use Rattle.rules.specs.Fields.{Field, Whole, Cut, fields_of}
use Rattle.rules.specs.Book.{Seat, overdrawn}
use Rattle.laws.specs.Fields.{fields_next}
use Rattle.laws.specs.SeatFields.{seats_in}
use Rattle.fields.specs.declared.FigureAt.{FigureAt}
use Rattle.fields.specs.declared.FigureAt.TheVariants.{Value}
use Rattle.fields.specs.declared.FigureAt.TheVariants.{Refused as NoFigure}
use Rattle.fields.specs.Reading.{refused_at, figure_at, figure_from}
use Rattle.positions.specs.declared.PositionAt.TheVariants.{Read as ReadPosition}
use Rattle.positions.specs.declared.PositionAt.TheVariants.{Refused as NoPosition}
use Rattle.positions.specs.Position.{then_position, position_of}
use Rattle.positions.specs.Seats.{begins_seat}

-- where no seat begins there is none
pub none_begins : (n : ℕ) (fs : List Field) → begins_seat fs ≡ false → seats_in n fs ≡ []
none_begins zero fs h = refl
none_begins (suc n) [] h = refl
none_begins (suc n) (Cut ∷ fs) h = refl
none_begins (suc n) (Whole t v ∷ []) h = refl
none_begins (suc n) (Whole t v ∷ Cut ∷ fs) h = refl
none_begins (suc n) (Whole t v ∷ Whole a k ∷ []) h = refl
none_begins (suc n) (Whole t v ∷ Whole a k ∷ Cut ∷ fs) h = refl
none_begins (suc n) (Whole t v ∷ Whole a k ∷ Whole b x ∷ []) h = refl
none_begins (suc n) (Whole t v ∷ Whole a k ∷ Whole b x ∷ Cut ∷ fs) h = refl
none_begins (suc n) (Whole t v ∷ Whole a k ∷ Whole b x ∷ Whole c q ∷ fs) h = rw h

-- a figure was read: its field stands there, and the fields from the next place on
pub record Figured (s : List ℕ) (at tag : ℕ) (form : Form) (n next : ℕ) : Type 0 where
  pub value : List ℕ
  pub fields : fields_of (drop at s) ≡ Whole tag value ∷ fields_of (drop next s)
  pub says : figure_of form value ≡ Number n

pub figured : (s : List ℕ) (at tag : ℕ) (form : Form) (n next : ℕ) → figure_from at tag form (fields_of (drop at s)) ≡ Value n next → Figured s at tag form n next
figured s at tag form n next h = by (fields_of (drop at s)) refl h
  where
    no : {A : Type 0} {r : FigureAt} → r ≡ Value n next → r ≡ NoFigure (refused_at refusal.cut_short at) → A
    no x y = absurd (let e : NoFigure (refused_at refusal.cut_short at) ≡ Value n next = sym y ∙ x in let z : ◌≡◌ {A = ℕ} 0 1 = cc in omega arith)

    said : (t : ℕ) (v : List ℕ) (fs : List Field) → fields_of (drop at s) ≡ Whole t v ∷ fs → t ≡ tag → (f : Figure) → figure_of form v ≡ f → figure_at at (at + 3 + length v) f ≡ Value n next → Figured s at tag form n next
    said t v fs e same (Number m) g x =
        let a : m ≡ n = cc in
        let b : at + 3 + length v ≡ next = cc in
        record {
          value = v;
          fields = e ∙ ap (λ y. Whole y v ∷ fs) same ∙ ap (λ l. Whole tag v ∷ l) ((fields_next s at t v fs e).rest ∙ ap (λ y. fields_of (drop y s)) b);
          says = g ∙ ap Number a;
        }
    said t v fs e same Comma g x = absurd (let z : ◌≡◌ {A = ℕ} 0 1 = cc in omega arith)
    said t v fs e same Malformed g x = absurd (let z : ◌≡◌ {A = ℕ} 0 1 = cc in omega arith)

    tagged : (t : ℕ) (v : List ℕ) (fs : List Field) → fields_of (drop at s) ≡ Whole t v ∷ fs → (b : Bool) → eqb t tag ≡ b →
        cond b (figure_at at (at + 3 + length v) (figure_of form v)) (NoFigure (refused_at refusal.misplaced at)) ≡ Value n next → Figured s at tag form n next
    tagged t v fs e true q x = said t v fs e (eqb-true t tag q) (figure_of form v) refl x
    tagged t v fs e false q x = absurd (let z : ◌≡◌ {A = ℕ} 0 1 = cc in omega arith)

    by : (fs : List Field) → fields_of (drop at s) ≡ fs → figure_from at tag form fs ≡ Value n next → Figured s at tag form n next
    by [] e x = no x refl
    by (Cut ∷ fs) e x = no x refl
    by (Whole t v ∷ fs) e x = tagged t v fs e (eqb t tag) refl x

-- K, H and Q were read: behind an I they are the next seat
module _ (s : List ℕ) (terms : Terms) (v : List ℕ) (p : Position) (next : ℕ) where
  abbrev seat : Seat
  seat = record { code = v; position = p }

  abbrev Next : ℕ → Type 0
  Next at = (n : ℕ) → seats_in (suc n) (Whole (code "I") v ∷ fields_of (drop at s)) ≡ seat ∷ seats_in n (fields_of (drop next s))

  pub seat_again : (at : ℕ) → position_of s terms at ≡ ReadPosition p next → Next at
  unfolding position_of
  seat_again at e = by_k (figure_from at (code "K") held_form (fields_of (drop at s))) refl e
    where
      none : {A : Type 0} {r : _} → NoPosition r ≡ ReadPosition p next → A
      none x = absurd (let z : ◌≡◌ {A = ℕ} 0 1 = cc in omega arith)

      drawn : (k h q atH atQ e : ℕ) → figure_from at (code "K") held_form (fields_of (drop at s)) ≡ Value k atH → figure_from atH (code "H") held_form (fields_of (drop atH s)) ≡ Value h atQ →
          figure_from atQ (code "Q") held_form (fields_of (drop atQ s)) ≡ Value q e → (b : Bool) →
          cond b (NoPosition (refused_at refusal.overdrawn atQ)) (ReadPosition (record { long = lots k; short = lots h; unfilled = lots q }) e) ≡ ReadPosition p next → Next at
      drawn k h q atH atQ e x y w true z = none z
      drawn k h q atH atQ e x y w false z =
          let a = figured s at (code "K") held_form k atH x in
          let b = figured s atH (code "H") held_form h atQ y in
          let c = figured s atQ (code "Q") held_form q e w in
          let same : record { long = lots k; short = lots h; unfilled = lots q } ≡ p = cc in
          let here : e ≡ next = cc in
          λ n. rw (a.fields, b.fields, c.fields, a.says, b.says, c.says) (ap (λ (x : Position). record { code = v; position = x } ∷ seats_in n (fields_of (drop e s))) same ∙ ap (λ (x : ℕ). seat ∷ seats_in n (fields_of (drop x s))) here)

      by_q : (k h atH atQ : ℕ) → figure_from at (code "K") held_form (fields_of (drop at s)) ≡ Value k atH → figure_from atH (code "H") held_form (fields_of (drop atH s)) ≡ Value h atQ →
          (f : FigureAt) → figure_from atQ (code "Q") held_form (fields_of (drop atQ s)) ≡ f →
          then_position s f (λ q next. cond (overdrawn terms (record { long = lots k; short = lots h; unfilled = lots q })) (NoPosition (refused_at refusal.overdrawn atQ)) (ReadPosition (record { long = lots k; short = lots h; unfilled = lots q }) next)) ≡ ReadPosition p next → Next at
      by_q k h atH atQ x y (Value q e) w z = drawn k h q atH atQ e x y w (overdrawn terms (record { long = lots k; short = lots h; unfilled = lots q })) z
      by_q k h atH atQ x y (NoFigure r) w z = none z

      by_h : (k atH : ℕ) → figure_from at (code "K") held_form (fields_of (drop at s)) ≡ Value k atH → (f : FigureAt) → figure_from atH (code "H") held_form (fields_of (drop atH s)) ≡ f →
          then_position s f (λ h atQ. then_position s (figure_from atQ (code "Q") held_form (fields_of (drop atQ s))) (λ q next. cond (overdrawn terms (record { long = lots k; short = lots h; unfilled = lots q })) (NoPosition (refused_at refusal.overdrawn atQ)) (ReadPosition (record { long = lots k; short = lots h; unfilled = lots q }) next))) ≡ ReadPosition p next → Next at
      by_h k atH x (Value h atQ) y z = by_q k h atH atQ x y (figure_from atQ (code "Q") held_form (fields_of (drop atQ s))) refl z
      by_h k atH x (NoFigure r) y z = none z

      by_k : (f : FigureAt) → figure_from at (code "K") held_form (fields_of (drop at s)) ≡ f →
          then_position s f (λ k atH. then_position s (figure_from atH (code "H") held_form (fields_of (drop atH s))) (λ h atQ. then_position s (figure_from atQ (code "Q") held_form (fields_of (drop atQ s))) (λ q next. cond (overdrawn terms (record { long = lots k; short = lots h; unfilled = lots q })) (NoPosition (refused_at refusal.overdrawn atQ)) (ReadPosition (record { long = lots k; short = lots h; unfilled = lots q }) next)))) ≡ ReadPosition p next → Next at
      by_k (Value k atH) x z = by_h k atH x (figure_from atH (code "H") held_form (fields_of (drop atH s))) refl z
      by_k (NoFigure r) x z = none z
