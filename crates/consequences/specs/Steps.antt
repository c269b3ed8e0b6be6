-- A step that is no refusal, taken apart: a C closes the group before it and opens one, a Z closes it and ends the book, and any other
-- field leads on in the terms or in the group.
-- Assumes nothing.
use Rattle.std.specs.Prelude.{ℕ, ◌<◌, ◌≡◌, refl, List, [], ◌∷◌, ◌++◌, Bool, true, false, not, length, leb, ltb, eqb}
use Prim.Native.Char.{code}
use Rattle.std.proofs.Common.{sym, ap, subst, ◌∙◌, ltb-false, eqb-true, arith}
use Rattle.std.proofs.lemmas.Bool.{lt-leb, not-false}
use Rattle.rules.specs.declared.Terms.{Terms}
use Rattle.rules.specs.declared.Trade.{Trade}
use Rattle.rules.specs.declared.Opening.{Opening}
use Rattle.rules.specs.declared.Opening.TheVariants.{Made}
use Rattle.rules.specs.declared.Opening.TheVariants.{Comma as CommaIn}
use Rattle.rules.specs.declared.Opening.TheVariants.{Malformed as NoTrade}
use Rattle.rules.specs.Text.{is}
use Rattle.rules.specs.Codes.{is_code}
use Rattle.rules.specs.Refusal as refusal
use Rattle.rules.specs.Limits.{most_customers}
use Rattle.rules.specs.Book.{
  Customer,
  uncovered,
  given,
  Step,
  Stop,
  Next,
  must,
  refuse,
  trade,
  Group,
  Nobody,
  Open,
  after_c,
  within,
  may_end,
  Due,
  AtTerm,
  InGroup,
  Stage,
  Reading,
  Ended,
  closed,
  opens,
  ends,
  goes_on_of,
  step,
}
use Rattle.laws.specs.Keeps.{Keeps, keeps_also}
use Rattle.laws.specs.OneField.{Early, EarlyStage, term_leads, no_c, no_z}
use Rattle.consequences.specs.Runs.{stop_not}

-- whatever the refusal
abbrev pub Any : ℕ → Type 0
Any n = Unit

-- the customers after a group that may close
abbrev pub Closes : List Customer → Group → List Customer → Type 0
Closes cs Nobody ds = cs ≡ ds
Closes cs (Open part c) ds = (may_end part ≡ true) × (uncovered c ≡ false) × (cs ++ c ∷ [] ≡ ds)

pub must_next : {A : Type 0} (b : Bool) (r : Step A) (a : A) → must b r ≡ Next a → (b ≡ true) × (r ≡ Next a)
must_next true r a e = (refl, e)
must_next false r a e = stop_not e

pub refuse_next : {A : Type 0} (n : ℕ) (b : Bool) (r : Step A) (a : A) → refuse n b r ≡ Next a → (b ≡ false) × (r ≡ Next a)
refuse_next n true r a e = stop_not e
refuse_next n false r a e = (refl, e)

-- a trade is read with the decimals that its price must have
pub trade_next : {A : Type 0} (x : ℕ) (o : Opening) (next : Trade → Step A) (a : A) → trade x o next ≡ Next a → (t : Trade) × (o ≡ Made t x) × (next t ≡ Next a)
trade_next x (Made t d) next a e =
    let r = refuse_next refusal.malformed (not (eqb d x)) (next t) a e in
    (t, ap (Made t) (eqb-true d x (not-false (eqb d x) r.0)), r.1)
trade_next x CommaIn next a e = stop_not e
trade_next x NoTrade next a e = stop_not e

module _ (cs : List Customer) where
  pub closed_next : (g : Group) (next : List Customer → Step Stage) (st : Stage) → closed cs g next ≡ Next st → (ds : List Customer) × Closes cs g ds × (next ds ≡ Next st)
  closed_next Nobody next st e = (cs, refl, e)
  closed_next (Open part c) next st e =
      let m = must_next (may_end part) _ st e in
      let r = refuse_next refusal.uncovered (uncovered c) _ st m.1 in
      (cs ++ c ∷ [], (m.0, r.0, refl), r.1)

  pub next_closed : (g : Group) (next : List Customer → Step Stage) (ds : List Customer) → Closes cs g ds → closed cs g next ≡ next ds
  next_closed Nobody next ds h = rw h
  next_closed (Open part c) next ds h = rw (h.0, h.1, h.2)

-- at C or Z the terms are complete, and the group before closes
pub record Closing (due : Due) (next : Terms → List Customer → Step Stage) (st : Stage) : Type 0 where
  pub terms : Terms
  pub before : List Customer
  pub group : Group
  pub after : List Customer
  pub due_is : due ≡ InGroup terms before group
  pub closes : Closes before group after
  pub leads : next terms after ≡ Next st

module _ (terms : Terms) (cs : List Customer) (g : Group) (next : Terms → List Customer → Step Stage) (st : Stage) where
  closing : closed cs g (next terms) ≡ Next st → Closing (InGroup terms cs g) next st
  closing e = let r = closed_next cs g (next terms) st e in record { terms = terms; before = cs; group = g; after = r.0; due_is = refl; closes = r.1; leads = r.2 }

pub step_c : (due : Due) (v : List ℕ) (st : Stage) → step due (code "C") v ≡ Next st → Closing due (λ terms. opens terms v) st
unfolding step
step_c (AtTerm term ts) v st e = stop_not (sym (no_c term ts v) ∙ e)
step_c (InGroup terms cs g) v st e = closing terms cs g (λ terms. opens terms v) st e

pub step_z : (due : Due) (v : List ℕ) (st : Stage) → step due (code "Z") v ≡ Next st → Closing due (λ terms. ends terms v) st
unfolding step
step_z (AtTerm term ts) v st e = stop_not (sym (no_z term ts v) ∙ e)
step_z (InGroup terms cs g) v st e = closing terms cs g (λ terms. ends terms v) st e

-- a C opens a group of its code
pub opens_next : (terms : Terms) (v : List ℕ) (cs : List Customer) (st : Stage) → opens terms v cs ≡ Next st → (is_code v ≡ true) × (st ≡ Reading (InGroup terms cs (after_c v)))
opens_next terms v cs st e =
    let a = refuse_next refusal.too_many (leb most_customers (length cs)) _ st e in
    let b = refuse_next refusal.malformed (not (is_code v)) _ st a.1 in
    let c : Next (Reading (InGroup terms cs (after_c v))) ≡ Next st = (refuse_next refusal.given_before (given v cs) _ st b.1).1 in
    (not-false (is_code v) b.0, cc)

pub next_opens : (terms : Terms) (v : List ℕ) (cs : List Customer) → length cs < most_customers → is_code v ≡ true → given v cs ≡ false → opens terms v cs ≡ Next (Reading (InGroup terms cs (after_c v)))
next_opens terms v cs h k l = rw (lt-leb most_customers (length cs) h, k, l)

none_in : (v : List ℕ) → ltb 0 (length v) ≡ false → v ≡ []
none_in [] h = refl
none_in (x ∷ v) h = absurd (omega (arith, ltb-false 0 (length (x ∷ v)) h))

pub ends_next : (terms : Terms) (v : List ℕ) (cs : List Customer) (st : Stage) → ends terms v cs ≡ Next st → (v ≡ []) × (st ≡ Ended terms cs)
ends_next terms v cs st e =
    let a = refuse_next refusal.malformed (ltb 0 (length v)) _ st e in
    let d : Next (Ended terms cs) ≡ Next st = a.1 in
    (none_in v a.0, cc)

-- any other field leads on, and what is early stays so
abbrev pub Onward : Due → Stage → Type 0
Onward due (Ended terms cs) = ⊥
Onward due (Reading next) = Early due → Early next

pub step_on : (due : Due) (t : ℕ) (v : List ℕ) → is "C" t ≡ false → is "Z" t ≡ false → Keeps Any (Onward due) (step due t v)
unfolding step within
step_on (AtTerm term ts) t v c z = keeps_also {P = EarlyStage} {S = Onward (AtTerm term ts)} (λ n h. tt) on (step (AtTerm term ts) t v) (term_leads term ts t v)
  where
    on : (st : Stage) → EarlyStage st → Onward (AtTerm term ts) st
    on (Reading due) h = λ early. h
    on (Ended terms cs) h = h
step_on (InGroup terms cs g) t v c z = rw (c, z) (go (within terms g t v) refl)
  where
    go : (r : Step Group) → within terms g t v ≡ r → Keeps Any (Onward (InGroup terms cs g)) (goes_on_of terms cs r)
    go (Stop n) e = tt
    go (Next h) e = λ early. let n : Stop refusal.misplaced ≡ Next h = subst (λ (x : Group). within terms x t v ≡ Next h) early.1 e in stop_not n
