-- How many bytes a sheet saves: a seat's line has six fewer than its four fields, and Z has none of its three; the mark line costs six. A book with a
-- customer has a seat, and one without has six terms and Z alone, which is short. By induction on the fields, by what is due.
-- Assumes nothing.
use Rattle.std.specs.Prelude.{ℕ, ◌+◌, ◌*◌, ◌≤◌, ◌≡◌, refl, List, [], ◌∷◌, true, cond, ◌||◌, length}
use Rattle.std.proofs.Common.{arith}
use Rattle.rules.specs.declared.Terms.{Terms}
use Rattle.rules.specs.Text.{is}
use Rattle.rules.specs.Fields.{Field, Whole, Cut, fields_of}
use Rattle.rules.specs.Book.{Customer, Part, DueI, DueK, DueH, DueQ, DueSeat, DueTrade, Group, Nobody, Open, may_end, Due, AtTerm, InGroup, Stage, Accepted, judge}
use Rattle.sheets_promises.specs.Views.{terms_left, Closable, BeforeSeat, Stepped, a_term, last_term, a_customer, the_end, an_i, a_k, an_h, a_q, a_trade}
use Rattle.sheets_promises.specs.Taken.{After, accepted_holds}

abbrev pub saved_by : ℕ → ℕ
saved_by t = cond (is "I" t || is "Q" t) 1 (cond (is "K" t || is "H" t) 2 (cond (is "Z" t) 3 0))

abbrev pub saved : List Field → ℕ
saved [] = 0
saved (Cut ∷ fs) = saved fs
saved (Whole t v ∷ fs) = saved_by t + saved fs

-- the bytes of the fields in a book
abbrev pub total : List Field → ℕ
total [] = 0
total (Cut ∷ fs) = total fs
total (Whole t v ∷ fs) = 3 + length v + total fs

-- a seat follows, or no more than so many terms and Z
pub data Spare (n : ℕ) (fs : List Field) : Type 0 where
  seated : 9 ≤ saved fs → Spare n fs
  few : total fs ≤ 11 * n + 3 → Spare n fs

abbrev least : Part → ℕ
least DueI = 9
least (DueK s) = 8
least (DueH s) = 6
least (DueQ s) = 4
least DueSeat = 3
least DueTrade = 3

abbrev Saves : Due → List Field → Type 0
Saves (AtTerm k ts) fs = Spare (terms_left k) fs
Saves (InGroup terms cs Nobody) fs = Spare 0 fs
Saves (InGroup terms cs (Open p c)) fs = least p ≤ saved fs

one_term : (n k : ℕ) (t : ℕ) (v : List ℕ) (fs : List Field) → length v ≤ 8 → k ≡ 1 + n → Spare n fs → Spare k (Whole t v ∷ fs)
one_term n k t v fs h e (seated s) = seated (omega arith)
one_term n k t v fs h e (few s) = few (omega arith)

may_end_lem : (p : Part) → may_end p ≡ true → least p ≡ 3
may_end_lem DueI m = absurd (let z : ◌≡◌ {A = ℕ} 0 1 = cc in omega arith)
may_end_lem (DueK s) m = absurd (let z : ◌≡◌ {A = ℕ} 0 1 = cc in omega arith)
may_end_lem (DueH s) m = absurd (let z : ◌≡◌ {A = ℕ} 0 1 = cc in omega arith)
may_end_lem (DueQ s) m = absurd (let z : ◌≡◌ {A = ℕ} 0 1 = cc in omega arith)
may_end_lem DueSeat m = refl
may_end_lem DueTrade m = refl

before_seat : (p : Part) → BeforeSeat p → least p ≤ 9
before_seat DueI b = omega arith
before_seat (DueK s) b = absurd b
before_seat (DueH s) b = absurd b
before_seat (DueQ s) b = absurd b
before_seat DueSeat b = omega arith
before_seat DueTrade b = absurd b

closing : (terms : Terms) (cs : List Customer) (g : Group) (fs : List Field) → Closable g → 3 ≤ saved fs → Spare 0 fs → Saves (InGroup terms cs g) fs
closing terms cs Nobody fs c h s = s
closing terms cs (Open p d) fs c h s = omega (arith, may_end_lem p c)

one : {due : Due} {t : ℕ} {v : List ℕ} {st : Stage} → Stepped due t v st → (fs : List Field) → After Saves st fs → Saves due (Whole t v ∷ fs)
one (a_term {k = k} {n = n} {t = t} {v = v} tag good short left) fs a = one_term (terms_left n) (terms_left k) t v fs short (omega arith) a
one (last_term {v = v} figure short) fs a = one_term 0 1 86 v fs short refl a
one (a_customer {terms = terms} {cs = cs} {g = g} {v = v} closable bare) fs a = closing terms cs g (Whole 67 v ∷ fs) closable (omega arith) (seated (omega arith))
one (the_end {terms = terms} {cs = cs} {g = g} closable) fs a = closing terms cs g (Whole 90 [] ∷ fs) closable (omega arith) (few (rw a (omega arith)))
one (an_i {p = p} {v = v} before bare) fs a = omega (arith, before_seat p before)
one (a_k bare) fs a = omega arith
one (an_h bare) fs a = omega arith
one (a_q bare) fs a = omega arith
one (a_trade {p = p} {t = t} {v = v} may tag trade) fs a = omega (arith, may_end_lem p may)

pub accepted_spare : (s : List ℕ) (terms : Terms) (cs : List Customer) → judge s ≡ Accepted terms cs → Spare 6 (fields_of s)
accepted_spare s terms cs e = accepted_holds Saves (λ due t v st x fs a. one x fs a) terms cs s e
