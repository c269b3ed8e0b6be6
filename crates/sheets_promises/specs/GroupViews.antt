-- A field that the book's table takes behind the terms: a C or a Z closes the group before it, and any other leads on in the group.
-- Assumes nothing.
use Prim.Native.Nat.{ℕ}
use Prim.Native.Char.{Char, code}
use Rattle.std.specs.Prelude.{◌≡◌, List, true, not, ◌&&◌, ◌||◌, length}
use Rattle.std.proofs.Math.Path.{refl}
use Rattle.std.proofs.Common.{sym, ap, subst}
use Rattle.std.proofs.Math.Bool.{and-eq-true_iff}
use Rattle.std.proofs.lemmas.Bool.{not-false}
use Rattle.std.proofs.Math.Dec.{ltb}
use Rattle.rules.specs.declared.Terms.{Terms}
use Rattle.rules.specs.declared.Trade.{Trade}
use Rattle.rules.specs.Refusal as refusal
use Rattle.rules.specs.Text.{is}
use Rattle.rules.specs.Limits.{most_seats}
use Rattle.rules.specs.Figures.{held_form, figure_of}
use Rattle.rules.specs.Codes.{is_code}
use Rattle.rules.specs.Opening.{opening_of}
use Rattle.rules.specs.Book.{Seat, Customer, overdrawn, astray, seated, Step, Stop, Next, refuse, Part, DueI, DueK, DueH, DueQ, DueSeat, DueTrade, Group, Nobody, Open, after_c, seat_at, joined_by, sits, within, may_end, Due, AtTerm, InGroup, Stage, Reading, Ended, closed, opens, ends, goes_on_of, step}
use Rattle.rules.specs.Book.{traded as with_trade, trades as tradeStep}
use Rattle.laws.specs.ByTest.{by_test}
use Rattle.consequences.specs.Runs.{stop_not}
use Rattle.consequences.specs.Steps.{Closes, must_next, refuse_next, trade_next, closed_next, opens_next, ends_next}
use Rattle.sheets_promises.specs.TradeValues.{opening_made}
use Rattle.sheets_promises.specs.Good.{figure_next, figure_good, code_good, tag_is}
use Rattle.sheets_promises.specs.Views.{Closable, BeforeSeat, Stepped, a_customer, the_end, an_i, a_k, an_h, a_q, a_trade, at}
use Rattle.sheets_promises.specs.TermViews.{term_view}

abbrev Onto : Terms → List Customer → Group → ℕ → List ℕ → Group → Type 0
Onto terms cs g t v h = Stepped (InGroup terms cs g) t v (Reading (InGroup terms cs h))

-- with the tag that was tested, and the group that the step leads to
onto : (terms : Terms) (cs : List Customer) (g : Group) (c : Char) (t : ℕ) (v : List ℕ) (a h : Group) → is c t ≡ true → Next a ≡ Next h → Onto terms cs g (code c) v a → Onto terms cs g t v h
onto terms cs g c t v a h tag e x =
    let same : a ≡ h = cc in
    subst (λ (z : Group). Onto terms cs g t v z) same (subst (λ (u : ℕ). Onto terms cs g u v a) (tag_is c t tag) x)

module _ (terms : Terms) (cs : List Customer) (c : Customer) (t : ℕ) (v : List ℕ) (h : Group) where
  sits_view : (p : Part) → BeforeSeat p → is "I" t ≡ true → sits v c ≡ Next h → Onto terms cs (Open p c) t v h
  sits_view p b tag e =
      let (good, r) = refuse_next refusal.malformed (not (is_code v)) _ h e in
      let n = (refuse_next refusal.seat_twice (seated v c.seats) (Next (Open (DueK (seat_at v 0 0 0)) c)) h r).1 in
      onto terms cs (Open p c) "I" t v (Open (DueK (seat_at v 0 0 0)) c) h tag n (an_i b (code_good v (not-false (is_code v) good)))

  trades_view : (p : Part) → may_end p ≡ true → tradeStep terms c t v ≡ Next h → Onto terms cs (Open p c) t v h
  trades_view p m e =
      let (tag, r) = must_next (is "B" t || is "A" t) _ h e in
      let judged : Trade → Step Group = λ x. refuse refusal.astray (astray terms.settlement x.price) (Next (Open DueTrade (with_trade c x))) in
      let (x, made, k) = trade_next terms.decimals (opening_of (is "B" t) v) judged h r in
      let n : Next (Open DueTrade (with_trade c x)) ≡ Next h = (refuse_next refusal.astray (astray terms.settlement x.price) (Next (Open DueTrade (with_trade c x))) h k).1 in
      let same : Open DueTrade (with_trade c x) ≡ h = cc in
      subst (λ (z : Group). Onto terms cs (Open p c) t v z) same (a_trade m tag (opening_made (is "B" t) v x terms.decimals made))

  part_view : (p : Part) → within terms (Open p c) t v ≡ Next h → Onto terms cs (Open p c) t v h
  unfolding within
  part_view DueI e = let (tag, r) = must_next (is "I" t) (sits v c) h e in sits_view DueI tt tag r
  part_view (DueK s) e =
      let (tag, r) = must_next (is "K" t) _ h e in
      let (k, f, n) = figure_next (figure_of held_form v) (λ k. Next (Open (DueH (seat_at s.code k 0 0)) c)) h r in
      onto terms cs (Open (DueK s) c) "K" t v (Open (DueH (seat_at s.code k 0 0)) c) h tag n (a_k ((figure_good held_form v k f).bare refl))
  part_view (DueH s) e =
      let (tag, r) = must_next (is "H" t) _ h e in
      let seat : ℕ → Seat = λ k. seat_at s.code s.position.long.0 k 0 in
      let (k, f, n) = figure_next (figure_of held_form v) (λ k. Next (Open (DueQ (seat k)) c)) h r in
      onto terms cs (Open (DueH s) c) "H" t v (Open (DueQ (seat k)) c) h tag n (an_h ((figure_good held_form v k f).bare refl))
  part_view (DueQ s) e =
      let (tag, r) = must_next (is "Q" t) _ h e in
      let seat : ℕ → Seat = λ q. seat_at s.code s.position.long.0 s.position.short.0 q in
      let judged : ℕ → Step Group = λ q. refuse refusal.overdrawn (overdrawn terms (seat q).position) (Next (Open DueSeat (joined_by c (seat q)))) in
      let (q, f, k) = figure_next (figure_of held_form v) judged h r in
      let n = (refuse_next refusal.overdrawn (overdrawn terms (seat q).position) (Next (Open DueSeat (joined_by c (seat q)))) h k).1 in
      onto terms cs (Open (DueQ s) c) "Q" t v (Open DueSeat (joined_by c (seat q))) h tag n (a_q ((figure_good held_form v q f).bare refl))
  part_view DueSeat e =
      by_test (is "I" t && ltb (length c.seats) most_seats)
      (λ b. sits_view DueSeat tt ((and-eq-true_iff (is "I" t) (ltb (length c.seats) most_seats)).0 b).0 (rw b at e))
      (λ b. trades_view DueSeat refl (rw b at e))
  part_view DueTrade e = trades_view DueTrade refl e

closes_closable : (cs ds : List Customer) (g : Group) → Closes cs g ds → Closable g
closes_closable cs ds Nobody h = tt
closes_closable cs ds (Open p c) h = h.0

goes_on : (terms : Terms) (cs : List Customer) (r : Step Group) (st : Stage) → goes_on_of terms cs r ≡ Next st → (h : Group) × (r ≡ Next h) × (Reading (InGroup terms cs h) ≡ st)
goes_on terms cs (Stop n) st e = stop_not e
goes_on terms cs (Next h) st e = (h, refl, cc)

group_view : (terms : Terms) (cs : List Customer) (g : Group) (t : ℕ) (v : List ℕ) (st : Stage) → step (InGroup terms cs g) t v ≡ Next st → Stepped (InGroup terms cs g) t v st
unfolding step within
group_view terms cs g t v st e = by_test (is "C" t) (λ c. opened c (rw c at e)) (λ c. by_test (is "Z" t) (λ z. ended z (rw (c, z) at e)) (λ z. inner (rw (c, z) at e)))
  where
    opened : is "C" t ≡ true → closed cs g (opens terms v) ≡ Next st → Stepped (InGroup terms cs g) t v st
    opened tag k =
        let (ds, closes, lead) = closed_next cs g (opens terms v) st k in
        let (good, n) = opens_next terms v ds st lead in
        at (InGroup terms cs g) "C" t v (Reading (InGroup terms ds (after_c v))) st tag (ap Next (sym n)) (a_customer (closes_closable cs ds g closes) (code_good v good))

    ended : is "Z" t ≡ true → closed cs g (ends terms v) ≡ Next st → Stepped (InGroup terms cs g) t v st
    ended tag k =
        let (ds, closes, lead) = closed_next cs g (ends terms v) st k in
        let (none, n) = ends_next terms v ds st lead in
        at (InGroup terms cs g) "Z" t v (Ended terms ds) st tag (ap Next (sym n)) (subst (λ (l : List ℕ). Stepped (InGroup terms cs g) (code "Z") l (Ended terms ds)) (sym none) (the_end (closes_closable cs ds g closes)))

    inside : (g : Group) (h : Group) → within terms g t v ≡ Next h → Onto terms cs g t v h
    inside Nobody h w = stop_not w
    inside (Open p c) h w = part_view terms cs c t v h p w

    inner : goes_on_of terms cs (within terms g t v) ≡ Next st → Stepped (InGroup terms cs g) t v st
    inner k =
        let (h, w, n) = goes_on terms cs (within terms g t v) st k in
        subst (λ (z : Stage). Stepped (InGroup terms cs g) t v z) n (inside g h w)

pub step_view : (due : Due) (t : ℕ) (v : List ℕ) (st : Stage) → step due t v ≡ Next st → Stepped due t v st
step_view (AtTerm k ts) t v st e = term_view k ts t v st e
step_view (InGroup terms cs g) t v st e = group_view terms cs g t v st e
