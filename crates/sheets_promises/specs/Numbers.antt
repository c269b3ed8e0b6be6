-- The book's own table has no number above 13, so that 20 to 23 are the sheet's alone. Each rule refuses with its number, and a field by field walk
-- refuses with one of theirs.
-- Assumes nothing.
use Rattle.std.specs.Prelude.{ℕ, ◌+◌, ◌≤◌, ◌≡◌, List, [], ◌∷◌, ◌++◌, Bool, true, false, cond, not, ◌&&◌, ◌||◌, leb, ltb, length}
use Rattle.std.proofs.Common.{subst, arith}
use Rattle.rules.specs.declared.Terms.{Terms}
use Rattle.rules.specs.Refusal as refusal
use Rattle.rules.specs.Text.{is}
use Rattle.rules.specs.Limits.{longest_book, most_customers, most_seats}
use Rattle.rules.specs.Codes.{is_code}
use Rattle.rules.specs.Figures.{price_form, rate_form, held_form}
use Rattle.rules.specs.Opening.{opening_of}
use Rattle.rules.specs.Fields.{Field, Whole, Cut, fields_of}
use Rattle.rules.specs.Book.{Customer, uncovered, overdrawn, astray, given, seated, Step, Stop, Next, DueI, DueK, DueH, DueQ, DueSeat, DueTrade, Group, Nobody, Open, seat_at, sits, trades, within, may_end, Term, DueD, DueX, DueS, DueL, DueU, DueV, Due, AtTerm, InGroup, at_front, Stage, Reading, Ended, closed, opens, ends, goes_on_of, locked, with_decimals, step, Verdict, Refused, Accepted, placed, walk, judge}
use Rattle.laws.specs.Keeps.{Keeps, must_keeps, cond_keeps, refuse_keeps, figure_keeps, trade_keeps, lock_keeps, places_keeps}

abbrev pub Small : ℕ → Type 0
Small n = n ≤ 13

abbrev Any : {A : Type 0} → A → Type 0
Any a = Unit

term_small : (k : Term) (ts : Terms) (t : ℕ) (v : List ℕ) → Keeps Small Any (step (AtTerm k ts) t v)
unfolding step
term_small DueD ts t v = must_keeps Small Any (omega arith) (is "D" t) _ (lock_keeps Small Any v (λ d. Next (Reading (AtTerm DueX (locked ts d)))) (omega arith) (λ d. tt))
term_small DueX ts t v = must_keeps Small Any (omega arith) (is "X" t) _ (places_keeps Small Any v (λ x. Next (Reading (AtTerm DueS (with_decimals ts x)))) (omega arith) (λ x. tt))
term_small DueS ts t v = must_keeps Small Any (omega arith) (is "S" t) _ (figure_keeps Small Any (price_form ts.decimals) v _ (omega arith) (omega arith) (λ n k. tt))
term_small DueL ts t v = must_keeps Small Any (omega arith) (is "L" t) _ (figure_keeps Small Any rate_form v _ (omega arith) (omega arith) (λ n k. tt))
term_small DueU ts t v = must_keeps Small Any (omega arith) (is "U" t) _ (figure_keeps Small Any rate_form v _ (omega arith) (omega arith) (λ n k. tt))
term_small DueV ts t v =
    must_keeps Small Any (omega arith) (is "V" t) _ (figure_keeps Small Any rate_form v _ (omega arith) (omega arith) (λ x k.
    refuse_keeps Small Any refusal.edges (leb ts.edge1.0 x) _ (omega arith) (λ e. tt)))

sits_small : (v : List ℕ) (c : Customer) → Keeps Small Any (sits v c)
sits_small v c =
    refuse_keeps Small Any refusal.malformed (not (is_code v)) _ (omega arith) (λ e. refuse_keeps Small Any refusal.seat_twice (seated v c.seats) _ (omega arith) (λ f. tt))

trades_small : (terms : Terms) (c : Customer) (t : ℕ) (v : List ℕ) → Keeps Small Any (trades terms c t v)
trades_small terms c t v =
    must_keeps Small Any (omega arith) (is "B" t || is "A" t) _ (trade_keeps Small Any terms.decimals (opening_of (is "B" t) v) _ (omega arith) (omega arith) (λ x.
    refuse_keeps Small Any refusal.astray (astray terms.settlement x.price) _ (omega arith) (λ e. tt)))

within_small : (terms : Terms) (g : Group) (t : ℕ) (v : List ℕ) → Keeps Small Any (within terms g t v)
unfolding within
within_small terms Nobody t v = omega arith
within_small terms (Open DueI c) t v = must_keeps Small Any (omega arith) (is "I" t) _ (sits_small v c)
within_small terms (Open (DueK s) c) t v = must_keeps Small Any (omega arith) (is "K" t) _ (figure_keeps Small Any held_form v _ (omega arith) (omega arith) (λ k h. tt))
within_small terms (Open (DueH s) c) t v = must_keeps Small Any (omega arith) (is "H" t) _ (figure_keeps Small Any held_form v _ (omega arith) (omega arith) (λ k h. tt))
within_small terms (Open (DueQ s) c) t v =
    must_keeps Small Any (omega arith) (is "Q" t) _ (figure_keeps Small Any held_form v _ (omega arith) (omega arith) (λ q h.
    refuse_keeps Small Any refusal.overdrawn (overdrawn terms (seat_at s.code s.position.long.0 s.position.short.0 q).position) _ (omega arith) (λ e. tt)))
within_small terms (Open DueSeat c) t v = cond_keeps Small Any (is "I" t && ltb (length c.seats) most_seats) _ _ (λ e. sits_small v c) (λ e. trades_small terms c t v)
within_small terms (Open DueTrade c) t v = trades_small terms c t v

closed_small : (cs : List Customer) (g : Group) (next : List Customer → Step Stage) → ((ds : List Customer) → Keeps Small Any (next ds)) → Keeps Small Any (closed cs g next)
closed_small cs Nobody next h = h cs
closed_small cs (Open p c) next h = must_keeps Small Any (omega arith) (may_end p) _ (refuse_keeps Small Any refusal.uncovered (uncovered c) _ (omega arith) (λ e. h (cs ++ c ∷ [])))

opens_small : (terms : Terms) (v : List ℕ) (cs : List Customer) → Keeps Small Any (opens terms v cs)
opens_small terms v cs =
    refuse_keeps Small Any refusal.too_many (leb most_customers (length cs)) _ (omega arith) (λ d.
    refuse_keeps Small Any refusal.malformed (not (is_code v)) _ (omega arith) (λ e. refuse_keeps Small Any refusal.given_before (given v cs) _ (omega arith) (λ f. tt)))

step_small : (due : Due) (t : ℕ) (v : List ℕ) → Keeps Small Any (step due t v)
unfolding step
step_small (AtTerm k ts) t v = term_small k ts t v
step_small (InGroup terms cs g) t v =
    cond_keeps Small Any (is "C" t) _ _ (λ c. closed_small cs g (opens terms v) (opens_small terms v)) (λ c.
    cond_keeps Small Any (is "Z" t) _ _
    (λ z. closed_small cs g (ends terms v) (λ ds. refuse_keeps Small Any refusal.malformed (ltb 0 (length v)) _ (omega arith) (λ e. tt)))
    (λ z. go (within terms g t v) (within_small terms g t v)))
  where
    go : (r : Step Group) → Keeps Small Any r → Keeps Small Any (goes_on_of terms cs r)
    go (Stop n) h = h
    go (Next x) h = tt

abbrev SmallVerdict : Verdict → Type 0
SmallVerdict (Refused n p) = Small n
SmallVerdict (Accepted terms cs) = Unit

walk_small : (st : Stage) (last_c at : ℕ) (fs : List Field) → SmallVerdict (walk st last_c at fs)
walk_small (Ended terms cs) last_c at [] = tt
walk_small (Ended terms cs) last_c at (f ∷ fs) = omega arith
walk_small (Reading due) last_c at [] = omega arith
walk_small (Reading due) last_c at (Cut ∷ fs) = omega arith
walk_small (Reading due) last_c at (Whole t v ∷ fs) = go (step due t v) (step_small due t v) (λ st. walk_small st (cond (is "C" t) at last_c) (at + 3 + length v) fs)
  where
    go : (r : Step Stage) → Keeps Small Any r → ((st : Stage) → SmallVerdict (walk st (cond (is "C" t) at last_c) (at + 3 + length v) fs)) →
        SmallVerdict (placed last_c at r (λ st. walk st (cond (is "C" t) at last_c) (at + 3 + length v) fs))
    go (Stop n) h k = h
    go (Next st) h k = k st

pub judge_small : (s : List ℕ) (n p : ℕ) → judge s ≡ Refused n p → n ≤ 13
unfolding judge
judge_small s n p e = subst SmallVerdict e (go (ltb longest_book (length s)))
  where
    go : (b : Bool) → SmallVerdict (cond b (Refused refusal.too_long 0) (walk (Reading at_front) 0 0 (fields_of s)))
    go true = omega arith
    go false = walk_small (Reading at_front) 0 0 (fields_of s)
