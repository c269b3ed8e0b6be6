-- What the terms come to: the walk over a book from its front.
-- Assumes nothing.
use Prim.Native.Nat.{ℕ, ◌+◌}
use Prim.Native.Char.{Char, code}
use mathlib.Core.Path.{◌≡◌, refl, ◌∙◌}
use mathlib.Core.List.{List, [], ◌∷◌}
use mathlib.Core.Bool.{Bool, true, false, cond}
use lib.ListN.{length, drop}
use lib.Dec.{leb, eqb}
use borrow.Author.Tests.{eqb-true, eq-eqb}
use Rattle.rules.specs.declared.Terms.{Terms}
use Rattle.rules.specs.declared.Form.{Form}
use Rattle.rules.specs.Refusal as refusal
use Rattle.rules.specs.Text.{is}
use Rattle.rules.specs.Codes.{same}
use Rattle.rules.specs.Figures.{figure_of, price_form, rate_form}
use Rattle.rules.specs.Fields.{Field, Whole, Cut, fields_of}
use Rattle.rules.specs.Book.{
  Step,
  Stop,
  Next,
  refuse,
  figure,
  Nobody,
  DueX,
  DueS,
  DueL,
  DueU,
  DueV,
  Due,
  AtTerm,
  InGroup,
  no_terms,
  at_front,
  locked,
  with_decimals,
  settled,
  with_loss,
  with_edge1,
  with_edge2,
  Stage,
  Reading,
  step,
  Verdict,
  placed,
  walk,
}
use Rattle.rules.specs.Book.{Refused as No}
use Rattle.laws.specs.Fields.{fields_next}
use Rattle.fields.specs.declared.Refusal.{Refusal}
use Rattle.fields.specs.declared.FigureAt.{FigureAt}
use Rattle.fields.specs.declared.FigureAt.TheVariants.{Value}
use Rattle.fields.specs.declared.FigureAt.TheVariants.{Refused as NoFigure}
use Rattle.terms.specs.declared.TermsAt.{TermsAt}
use Rattle.terms.specs.declared.TermsAt.TheVariants.{Read as ReadTerms}
use Rattle.terms.specs.declared.TermsAt.TheVariants.{Refused as NoTerms}
use Rattle.fields.specs.Reading.{refused_at, figure_in}
use Rattle.terms.specs.Terms.{letter_at_of, letter_from, then_terms, from_letter, letter_in, after_loss, after_places, after_lock, terms_of}
use Rattle.fields.proofs.Steps.{on_figure, Figured, figured}

abbrev pub bad : Refusal → Verdict
bad r = No r.number r.place

abbrev go : ℕ → Step Stage → ℕ → List Field → Verdict
go at r e fs = placed 0 at r λ stage. walk stage 0 e fs

module _ (s : List ℕ) where
  abbrev pub then_walk : TermsAt → Verdict
  then_walk (ReadTerms terms next) = walk (Reading (InGroup terms [] Nobody)) 0 next (fields_of (drop next s))
  then_walk (NoTerms r) = bad r

  -- a term with this tag and a figure is due
  module _ (due : Due) (tag : Char) (at : ℕ) (form : Form) (next : ℕ → Step Stage)
      (plain : is "C" (code tag) ≡ false)
      (tagged : (v : List ℕ) → step due (code tag) v ≡ figure (figure_of form v) next)
      (other : (t : ℕ) (v : List ℕ) → is tag t ≡ false → step due t v ≡ Stop refusal.misplaced)
      (P : ℕ → ℕ → TermsAt)
      (after : (n e : ℕ) → go at (next n) e (fields_of (drop e s)) ≡ then_walk (P n e)) where
    figure_due : Figured (code tag) form at (walk (Reading due) 0 at) bad (go at) next
    figure_due =
        record {
          none = refl;
          cut = λ fs. refl;
          other = λ t v fs h. rw (other t v h);
          tagged = λ v fs. rw (plain, tagged v);
          stopped = λ n e fs h. rw h;
        }

    term : walk (Reading due) 0 at (fields_of (drop at s)) ≡ then_walk (then_terms s (figure_in s at (code tag) form) P)
    term = figured s figure_due ∙ by (figure_in s at (code tag) form)
      where
        by : (f : FigureAt) → on_figure f bad (λ n e. go at (next n) e (fields_of (drop e s))) ≡ then_walk (then_terms s f P)
        by (Value n e) = after n e
        by (NoFigure r) = refl

  -- 6, or the groups
  ordered : (ts : Terms) (x at e : ℕ) →
      go at (refuse refusal.edges (leb ts.edge1.0 x) (Next (Reading (InGroup (with_edge2 ts x) [] Nobody)))) e (fields_of (drop e s))
      ≡ then_walk (cond (leb ts.edge1.0 x) (NoTerms (refused_at refusal.edges at)) (ReadTerms (with_edge2 ts x) e))
  ordered ts x at e = by (leb ts.edge1.0 x)
    where
      by : (b : Bool) →
          go at (refuse refusal.edges b (Next (Reading (InGroup (with_edge2 ts x) [] Nobody)))) e (fields_of (drop e s))
          ≡ then_walk (cond b (NoTerms (refused_at refusal.edges at)) (ReadTerms (with_edge2 ts x) e))
      by true = refl
      by false = refl

  -- U and V
  after_loss_lem : (ts : Terms) (at : ℕ) → walk (Reading (AtTerm DueU ts)) 0 at (fields_of (drop at s)) ≡ then_walk (after_loss s ts.down ts.decimals ts.settlement ts.loss at)
  unfolding step
  after_loss_lem ts at =
      term (AtTerm DueU ts) "U" at rate_form _ refl (λ v. refl) (λ t v h. rw h) _ λ u atV.
      term (AtTerm DueV (with_edge1 ts u)) "V" atV rate_form _ refl (λ v. refl) (λ t v h. rw h) _ λ x e.
      ordered (with_edge1 ts u) x atV e

  -- S, L and these
  after_places_lem : (ts : Terms) (at : ℕ) → walk (Reading (AtTerm DueS ts)) 0 at (fields_of (drop at s)) ≡ then_walk (after_places s ts.down ts.decimals at)
  unfolding step
  after_places_lem ts at =
      term (AtTerm DueS ts) "S" at (price_form ts.decimals) _ refl (λ v. refl) (λ t v h. rw h) _ λ p atL.
      term (AtTerm DueL (settled ts p)) "L" atL rate_form _ refl (λ v. refl) (λ t v h. rw h) _ λ l at_u.
      after_loss_lem (with_loss (settled ts p) l) at_u

  -- a term with this tag and one of two letters is due
  module _ (due : Due) (tag a b : Char) (at : ℕ) (next : Bool → Step Stage)
      (plain : is "C" (code tag) ≡ false)
      (tagged : (v : List ℕ) → step due (code tag) v ≡ cond (same v (code a ∷ [])) (next true) (cond (same v (code b ∷ [])) (next false) (Stop refusal.malformed)))
      (other : (t : ℕ) (v : List ℕ) → is tag t ≡ false → step due t v ≡ Stop refusal.misplaced)
      (P : Bool → ℕ → TermsAt)
      (after : (first : Bool) (e : ℕ) → go at (next first) e (fields_of (drop e s)) ≡ then_walk (P first e)) where
    chosen : (v : List ℕ) (e : ℕ) (fs : List Field) → fs ≡ fields_of (drop e s) → (p q : Bool) → same v (code a ∷ []) ≡ p → same v (code b ∷ []) ≡ q →
        go at (step due (code tag) v) e fs ≡ then_walk (from_letter s (letter_at_of at (code a) (code b) e v) P)
    chosen v e fs h true q x y = rw (tagged v, x, h) (after true e)
    chosen v e fs h false true x y = rw (tagged v, x, y, h) (after false e)
    chosen v e fs h false false x y = rw (tagged v, x, y)

    letter : walk (Reading due) 0 at (fields_of (drop at s)) ≡ then_walk (from_letter s (letter_in s at tag a b) P)
    letter = by (fields_of (drop at s)) refl
      where
        whole : (t : ℕ) (v : List ℕ) (fs : List Field) → fields_of (drop at s) ≡ Whole t v ∷ fs → (c : Bool) → is tag t ≡ c →
            walk (Reading due) 0 at (Whole t v ∷ fs) ≡ then_walk (from_letter s (letter_from at (code tag) (code a) (code b) (Whole t v ∷ fs)) P)
        whole t v fs e true h =
            let d : t ≡ code tag = eqb-true _ _ h in
            let own : eqb (code tag) (code tag) ≡ true = eq-eqb (code tag) (code tag) refl in
            rw (d, plain, own) (chosen v (at + 3 + length v) fs (fields_next s at t v fs e).rest (same v (code a ∷ [])) (same v (code b ∷ [])) refl refl)
        whole t v fs e false h = rw (h, other t v h)

        by : (fs : List Field) → fields_of (drop at s) ≡ fs → walk (Reading due) 0 at fs ≡ then_walk (from_letter s (letter_from at (code tag) (code a) (code b) fs) P)
        by [] e = refl
        by (Cut ∷ fs) e = refl
        by (Whole t v ∷ fs) e = whole t v fs e (is tag t) refl

  -- X
  after_lock_lem : (ts : Terms) (at : ℕ) → walk (Reading (AtTerm DueX ts)) 0 at (fields_of (drop at s)) ≡ then_walk (after_lock s ts.down at)
  unfolding step
  after_lock_lem ts at =
      letter (AtTerm DueX ts) "X" "0" "2" at (λ none. Next (Reading (AtTerm DueS (with_decimals ts (cond none 0 2))))) refl (λ v. refl) (λ t v h. rw h) _ λ none e.
      after_places_lem (with_decimals ts (cond none 0 2)) e

  -- D
  pub terms_mean : walk (Reading at_front) 0 0 (fields_of s) ≡ then_walk (terms_of s)
  unfolding terms_of step
  terms_mean =
      letter at_front "D" "D" "U" 0 (λ d. Next (Reading (AtTerm DueX (locked no_terms d)))) refl (λ v. refl) (λ t v h. rw h) (after_lock s) λ d e.
      after_lock_lem (locked no_terms d) e
