-- The fields of an accepted book, by lines: each has a line to itself, but for a seat's four, which stand together; Z is the last. By induction on the
-- fields: what is left of them is so by what is due.
-- Assumes nothing.
use Rattle.std.specs.Prelude.{ℕ, ◌≡◌, refl, List, [], ◌∷◌, true}
use Prim.Native.Char.{code}
use Rattle.std.proofs.Common.{sym, subst, arith}
use Rattle.rules.specs.declared.Terms.{Terms}
use Rattle.rules.specs.Fields.{Field, Whole, fields_of}
use Rattle.rules.specs.Book.{Customer, Part, DueI, DueK, DueH, DueQ, DueSeat, DueTrade, Group, Nobody, Open, may_end, Due, AtTerm, InGroup, Stage, Accepted, judge}
use Rattle.consequences.specs.Traded.{by_tag}
use Rattle.sheets_promises.specs.Bytes.{Each, Bare}
use Rattle.sheets_promises.specs.Good.{Good, line_tag}
use Rattle.sheets_promises.specs.Views.{Closable, BeforeSeat, Stepped, a_term, last_term, a_customer, the_end, an_i, a_k, an_h, a_q, a_trade}
use Rattle.sheets_promises.specs.Taken.{After, accepted_holds}

pub data Fields : List Field → Type 0 where
  end : Fields (Whole (code "Z") [] ∷ [])
  alone : {t : ℕ} {v : List ℕ} {fs : List Field} → line_tag t ≡ true → Good t v → Fields fs → Fields (Whole t v ∷ fs)
  seat : {i k h q : List ℕ} {fs : List Field} → Each Bare i → Each Bare k → Each Bare h → Each Bare q → Fields fs → Fields (Whole (code "I") i ∷ Whole (code "K") k ∷ Whole (code "H") h ∷ Whole (code "Q") q ∷ fs)

-- fields of these tags, and then lines
abbrev pub Tail : List ℕ → List Field → Type 0
Tail [] fs = Fields fs
Tail (t ∷ ts) fs = (v : List ℕ) × (gs : List Field) × (fs ≡ Whole t v ∷ gs) × Each Bare v × Tail ts gs

abbrev pub InPart : Part → List Field → Type 0
InPart DueI fs = Fields fs
InPart (DueK s) fs = Tail (code "K" ∷ code "H" ∷ code "Q" ∷ []) fs
InPart (DueH s) fs = Tail (code "H" ∷ code "Q" ∷ []) fs
InPart (DueQ s) fs = Tail (code "Q" ∷ []) fs
InPart DueSeat fs = Fields fs
InPart DueTrade fs = Fields fs

abbrev pub Rest : Due → List Field → Type 0
Rest (AtTerm k ts) fs = Fields fs
Rest (InGroup terms cs Nobody) fs = Fields fs
Rest (InGroup terms cs (Open p c)) fs = InPart p fs

-- where a group may close, a seat may begin or a trade may stand, a line begins
may_end_rest : (p : Part) (fs : List Field) → may_end p ≡ true → Fields fs → InPart p fs
may_end_rest DueI fs m x = x
may_end_rest (DueK s) fs m x = absurd (let z : ◌≡◌ {A = ℕ} 0 1 = cc in omega arith)
may_end_rest (DueH s) fs m x = absurd (let z : ◌≡◌ {A = ℕ} 0 1 = cc in omega arith)
may_end_rest (DueQ s) fs m x = absurd (let z : ◌≡◌ {A = ℕ} 0 1 = cc in omega arith)
may_end_rest DueSeat fs m x = x
may_end_rest DueTrade fs m x = x

closable_rest : (terms : Terms) (cs : List Customer) (g : Group) (fs : List Field) → Closable g → Fields fs → Rest (InGroup terms cs g) fs
closable_rest terms cs Nobody fs c x = x
closable_rest terms cs (Open p d) fs c x = may_end_rest p fs c x

before_seat_rest : (p : Part) (fs : List Field) → BeforeSeat p → Fields fs → InPart p fs
before_seat_rest DueI fs b x = x
before_seat_rest (DueK s) fs b x = absurd b
before_seat_rest (DueH s) fs b x = absurd b
before_seat_rest (DueQ s) fs b x = absurd b
before_seat_rest DueSeat fs b x = x
before_seat_rest DueTrade fs b x = absurd b

seat_stands : (i : List ℕ) (fs : List Field) → Each Bare i → Tail (code "K" ∷ code "H" ∷ code "Q" ∷ []) fs → Fields (Whole (code "I") i ∷ fs)
seat_stands i fs bare (k, gs, e, bk, (h, hs, f, bh, (q, js, g, bq, x))) = rw (e, f, g) (seat bare bk bh bq x)

one : {due : Due} {t : ℕ} {v : List ℕ} {st : Stage} → Stepped due t v st → (fs : List Field) → After Rest st fs → Rest due (Whole t v ∷ fs)
one (a_term tag good short left) fs a = alone tag good a
one (last_term figure short) fs a = alone refl figure a
one (a_customer {terms = terms} {cs = cs} {g = g} {v = v} closable bare) fs a = closable_rest terms cs g (Whole (code "C") v ∷ fs) closable (alone refl bare a)
one (the_end {terms = terms} {cs = cs} {g = g} closable) fs a = closable_rest terms cs g (Whole (code "Z") [] ∷ fs) closable (subst (λ (l : List Field). Fields (Whole (code "Z") [] ∷ l)) (sym a) end)
one (an_i {p = p} {v = v} before bare) fs a = before_seat_rest p (Whole (code "I") v ∷ fs) before (seat_stands v fs bare a)
one (a_k {v = v} bare) fs a = (v, fs, refl, bare, a)
one (an_h {v = v} bare) fs a = (v, fs, refl, bare, a)
one (a_q {v = v} bare) fs a = (v, fs, refl, bare, a)
one (a_trade {p = p} {t = t} {v = v} may tag trade) fs a = may_end_rest p (Whole t v ∷ fs) may (by_tag (λ u. Fields (Whole u v ∷ fs)) (alone refl trade a) (alone refl trade a) t tag)

pub accepted_fields : (s : List ℕ) (terms : Terms) (cs : List Customer) → judge s ≡ Accepted terms cs → Fields (fields_of s)
accepted_fields s terms cs e = accepted_holds Rest (λ due t v st x fs a. one x fs a) terms cs s e
