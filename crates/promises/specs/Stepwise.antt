-- A step asks the rules one after another, in order, and then leads on. Where a tag belongs it is known, so every test of another tag computes to
-- false; the chain of refusals that is left is the step's.
-- Assumes nothing.
use Rattle.std.specs.Prelude.{ℕ, ◌≡◌, Bool, cond, not, List, [], ◌∷◌, ◌++◌, length, ltb, eqb}
use Prim.Native.Char.{Char, code}
use Rattle.std.proofs.Math.Path.{refl, ap}
use Rattle.std.proofs.Common.{sym, subst, ◌∙◌, eqb-true, lt-ltb, ne_eqb, arith}
use Rattle.std.proofs.Math.Bool.{true, false}
use Rattle.rules.specs.declared.Terms.{Terms}
use Rattle.rules.specs.declared.Trade.{Trade}
use Rattle.rules.specs.Refusal as refusal
use Rattle.rules.specs.Text.{is}
use Rattle.rules.specs.Limits.{most_seats}
use Rattle.rules.specs.Figures.{price_form, rate_form, held_form, has}
use Rattle.rules.specs.Book.{Seat, Customer, uncovered, astray, Step, Next, refuse, Stage, Reading, Ended, goes_on_of, ends, step}
use Rattle.rules.specs.Book.{Group, Nobody, Open, DueI, DueK, DueH, DueQ, DueSeat, DueTrade, within, traded}
use Rattle.rules.specs.Book.{Due, AtTerm, InGroup, Term, DueD, DueX, DueS, DueL, DueU, DueV, locked, with_decimals}
use Rattle.laws.specs.ByTest.{by_test}
use Rattle.promises.specs.Reasons.{is_figure, Rule, in_order}
use Rattle.promises.specs.Given.{with_part, leads}
use Rattle.promises.specs.Chains.{figure_chain, lock_chain, places_chain, last_chain, judged_chain}

module _ {A : Type 0} where
  -- the rules of a list, asked one after another
  abbrev pub asked : Due → ℕ → List ℕ → List Rule → Step A → Step A
  asked due t v [] next = next
  asked due t v (r ∷ rs) next = refuse r.number (r.breaks due t v) (asked due t v rs next)

-- a tag is this letter, or it is not
by_tag : (letter : Char) (t : ℕ) (P : ℕ → Type 0) → P (code letter) → (is letter t ≡ false → P t) → P t
by_tag letter t P this other = go (is letter t) refl
  where
    go : (b : Bool) → is letter t ≡ b → P t
    go true e = subst P (sym (eqb-true t (code letter) e)) this
    go false e = other e

abbrev Asked : Due → ℕ → List ℕ → Type 0
Asked due t v = step due t v ≡ asked due t v in_order (Next (leads due t v))

asked_term : (term : Term) (ts : Terms) (t : ℕ) (v : List ℕ) → Asked (AtTerm term ts) t v
unfolding step
asked_term DueD ts t v = by_tag "D" t (λ x. Asked (AtTerm DueD ts) x v) (lock_chain v (λ d. Next (Reading (AtTerm DueX (locked ts d))))) (λ e. rw e refl)
asked_term DueX ts t v = by_tag "X" t (λ x. Asked (AtTerm DueX ts) x v) (places_chain v (λ x. Next (Reading (AtTerm DueS (with_decimals ts x))))) (λ e. rw e refl)
asked_term DueS ts t v = by_tag "S" t (λ x. Asked (AtTerm DueS ts) x v) (figure_chain (price_form ts.decimals) v _) (λ e. rw e refl)
asked_term DueL ts t v = by_tag "L" t (λ x. Asked (AtTerm DueL ts) x v) (figure_chain rate_form v _) (λ e. rw e refl)
asked_term DueU ts t v = by_tag "U" t (λ x. Asked (AtTerm DueU ts) x v) (figure_chain rate_form v _) (λ e. rw e refl)
asked_term DueV ts t v =
    by_tag "V" t (λ x. Asked (AtTerm DueV ts) x v)
    (figure_chain rate_form v _ ∙ ap (refuse refusal.comma (has "," v)) (last_chain refusal.malformed refusal.edges (is_figure rate_form v) _ _))
    (λ e. rw e refl)

neither : {A : Type 0} (a b : Bool) (x y z : A) → a ≡ false → b ≡ false → cond a x (cond b y z) ≡ z
neither a b x y z e f = rw (e, f) refl

longer : (v : List ℕ) → ltb 0 (length v) ≡ not (eqb (length v) 0)
longer [] = refl
longer (x ∷ v) = rw (lt-ltb 0 (length (x ∷ v)) (omega arith), ne_eqb (length (x ∷ v)) 0 (λ e. omega arith)) refl

module _ (terms : Terms) (cs : List Customer) where
  -- the seats and the trades: not C, not Z
  abbrev Within : Group → ℕ → List ℕ → Type 0
  Within g t v = within terms g t v ≡ asked (InGroup terms cs g) t v in_order (Next (with_part g t v))

  -- a trade, after the last seat or after another trade
  abbrev far : Trade → Bool
  far x = astray terms.settlement x.price

  abbrev traded_with : Customer → Trade → Step Group
  traded_with c x = Next (Open DueTrade (traded c x))

  -- a seat's I, K, H and Q, a trade or another seat after it, and a trade after another
  asked_i : (c : Customer) (t : ℕ) (v : List ℕ) → Within (Open DueI c) t v
  unfolding within
  asked_i c t v = by_tag "I" t (λ x. Within (Open DueI c) x v) refl (λ k. rw k refl)

  asked_k : (s : Seat) (c : Customer) (t : ℕ) (v : List ℕ) → Within (Open (DueK s) c) t v
  unfolding within
  asked_k s c t v = by_tag "K" t (λ x. Within (Open (DueK s) c) x v) (figure_chain held_form v _) (λ k. rw k refl)

  asked_h : (s : Seat) (c : Customer) (t : ℕ) (v : List ℕ) → Within (Open (DueH s) c) t v
  unfolding within
  asked_h s c t v = by_tag "H" t (λ x. Within (Open (DueH s) c) x v) (figure_chain held_form v _) (λ k. rw k refl)

  asked_q : (s : Seat) (c : Customer) (t : ℕ) (v : List ℕ) → Within (Open (DueQ s) c) t v
  unfolding within
  asked_q s c t v =
      by_tag "Q" t (λ x. Within (Open (DueQ s) c) x v)
      (figure_chain held_form v _ ∙ ap (refuse refusal.comma (has "," v)) (last_chain refusal.malformed refusal.overdrawn (is_figure held_form v) _ _))
      (λ k. rw k refl)

  asked_seat : (c : Customer) (t : ℕ) (v : List ℕ) → is "C" t ≡ false → is "Z" t ≡ false → Within (Open DueSeat c) t v
  unfolding within
  asked_seat c t v e f =
      by_tag "I" t (λ x. Within (Open DueSeat c) x v) (by_test (ltb (length c.seats) most_seats) (λ k. rw k refl) (λ k. rw k refl)) (λ i.
      by_tag "B" t (λ x. Within (Open DueSeat c) x v) (judged_chain terms.decimals true v far (traded_with c)) (λ k.
      by_tag "A" t (λ x. Within (Open DueSeat c) x v) (judged_chain terms.decimals false v far (traded_with c)) (λ l.
      rw (e, f, i, k, l) refl)))

  asked_trade : (c : Customer) (t : ℕ) (v : List ℕ) → is "C" t ≡ false → is "Z" t ≡ false → Within (Open DueTrade c) t v
  unfolding within
  asked_trade c t v e f =
      by_tag "B" t (λ x. Within (Open DueTrade c) x v) (judged_chain terms.decimals true v far (traded_with c)) (λ k.
      by_tag "A" t (λ x. Within (Open DueTrade c) x v) (judged_chain terms.decimals false v far (traded_with c)) (λ l.
      rw (e, f, k, l) refl))

  asked_within : (g : Group) (t : ℕ) (v : List ℕ) → is "C" t ≡ false → is "Z" t ≡ false → Within g t v
  unfolding within
  asked_within Nobody t v e f = rw (e, f) refl
  asked_within (Open DueI c) t v e f = asked_i c t v
  asked_within (Open (DueK s) c) t v e f = asked_k s c t v
  asked_within (Open (DueH s) c) t v e f = asked_h s c t v
  asked_within (Open (DueQ s) c) t v e f = asked_q s c t v
  asked_within (Open DueSeat c) t v e f = asked_seat c t v e f
  asked_within (Open DueTrade c) t v e f = asked_trade c t v e f

  goes_asked : (due : Due) (t : ℕ) (v : List ℕ) (rs : List Rule) (g : Group) → goes_on_of terms cs (asked due t v rs (Next g)) ≡ asked due t v rs (Next (Reading (InGroup terms cs g)))
  goes_asked due t v [] g = refl
  goes_asked due t v (r ∷ rs) g = go (r.breaks due t v) (goes_asked due t v rs g)
    where
      go : (b : Bool) → goes_on_of terms cs (asked due t v rs (Next g)) ≡ asked due t v rs (Next (Reading (InGroup terms cs g))) →
          goes_on_of terms cs (refuse r.number b (asked due t v rs (Next g))) ≡ refuse r.number b (asked due t v rs (Next (Reading (InGroup terms cs g))))
      go true h = refl
      go false h = h

  asked_other : (g : Group) (t : ℕ) (v : List ℕ) → is "C" t ≡ false → is "Z" t ≡ false → Asked (InGroup terms cs g) t v
  unfolding step
  asked_other g t v e f =
      let due = InGroup terms cs g in
      neither (is "C" t) (is "Z" t) _ _ _ e f
      ∙ ap (goes_on_of terms cs) (asked_within g t v e f)
      ∙ goes_asked due t v in_order (with_part g t v)
      ∙ ap (λ (stage : Stage). asked due t v in_order (Next stage)) (sym (neither (is "C" t) (is "Z" t) _ _ _ e f))

  asked_c : (g : Group) (v : List ℕ) → Asked (InGroup terms cs g) (code "C") v
  unfolding step
  asked_c Nobody v = refl
  asked_c (Open DueI c) v = refl
  asked_c (Open (DueK s) c) v = refl
  asked_c (Open (DueH s) c) v = refl
  asked_c (Open (DueQ s) c) v = refl
  asked_c (Open DueSeat c) v = by_test (uncovered c) (λ k. rw k refl) (λ k. rw k refl)
  asked_c (Open DueTrade c) v = by_test (uncovered c) (λ k. rw k refl) (λ k. rw k refl)

  ends_asked : (v : List ℕ) (all : List Customer) → ends terms v all ≡ refuse refusal.malformed (not (eqb (length v) 0)) (Next (Ended terms all))
  ends_asked v all = ap (λ (b : Bool). refuse refusal.malformed b (Next (Ended terms all))) (longer v)

  asked_z : (g : Group) (v : List ℕ) → Asked (InGroup terms cs g) (code "Z") v
  unfolding step
  asked_z Nobody v = ends_asked v cs
  asked_z (Open DueI c) v = refl
  asked_z (Open (DueK s) c) v = refl
  asked_z (Open (DueH s) c) v = refl
  asked_z (Open (DueQ s) c) v = refl
  asked_z (Open DueSeat c) v = ap (refuse refusal.uncovered (uncovered c)) (ends_asked v (cs ++ c ∷ []))
  asked_z (Open DueTrade c) v = ap (refuse refusal.uncovered (uncovered c)) (ends_asked v (cs ++ c ∷ []))

pub step_asked : (due : Due) (t : ℕ) (v : List ℕ) → step due t v ≡ asked due t v in_order (Next (leads due t v))
step_asked (AtTerm term ts) t v = asked_term term ts t v
step_asked (InGroup terms cs g) t v =
    let P : ℕ → Type 0 = λ x. Asked (InGroup terms cs g) x v in
    by_tag "C" t P (asked_c terms cs g v) (λ e. by_tag "Z" t P (asked_z terms cs g v) (λ f. asked_other terms cs g t v e f))
