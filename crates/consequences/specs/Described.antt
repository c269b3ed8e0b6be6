-- One customer's group by itself. Its bytes stand for a C with the customer's code and fields that are neither C nor Z, and these lead
-- from the code to the customer, whoever comes before.
-- Assumes nothing.
use Rattle.std.specs.Prelude.{ℕ, ◌≡◌, refl, List, [], ◌∷◌, ◌++◌, true, false}
use Prim.Native.Char.{code}
use Rattle.std.proofs.Common.{ap, subst, ◌∙◌}
use Rattle.rules.specs.declared.Terms.{Terms}
use Rattle.rules.specs.Text.{is}
use Rattle.rules.specs.Codes.{is_code}
use Rattle.rules.specs.Refusal as refusal
use Rattle.rules.specs.Fields.{Field, Whole, Cut}
use Rattle.rules.specs.Book.{Customer, uncovered, Step, Stop, Next, Part, Group, Nobody, Open, after_c, within, may_end, InGroup, Reading, goes_on_of, step}
use Rattle.laws.specs.Keeps.{Keeps}
use Rattle.laws.specs.OneField.{AtTag}
use Rattle.laws.specs.Groups.{OfCode, within_code}
use Rattle.consequences.specs.Runs.{then, run, stop_not}
use Rattle.consequences.specs.Framed.{Framed}
use Rattle.consequences.specs.Steps.{Any, Closes}

-- whole fields that neither open nor close a group
abbrev pub Inner : List Field → Type 0
Inner [] = Unit
Inner (Cut ∷ fs) = ⊥
Inner (Whole t v ∷ fs) = (is "C" t ≡ false) × (is "Z" t ≡ false) × Inner fs

abbrev pub inside : Terms → Group → List Field → Step Group
inside terms g [] = Next g
inside terms g (Cut ∷ fs) = Stop refusal.cut_short
inside terms g (Whole t v ∷ fs) = then (within terms g t v) λ next. inside terms next fs

pub inner_runs : (terms : Terms) (cs : List Customer) (g : Group) (fs : List Field) → Inner fs → run (Reading (InGroup terms cs g)) fs ≡ goes_on_of terms cs (inside terms g fs)
unfolding step
inner_runs terms cs g [] h = refl
inner_runs terms cs g (Cut ∷ fs) h = absurd h
inner_runs terms cs g (Whole t v ∷ fs) h = rw (h.0, h.1) (go (within terms g t v) (λ next. inner_runs terms cs next fs h.2))
  where
    go : (r : Step Group) → ((next : Group) → run (Reading (InGroup terms cs next)) fs ≡ goes_on_of terms cs (inside terms next fs)) →
        then (goes_on_of terms cs r) (λ stage. run stage fs) ≡ goes_on_of terms cs (then r λ next. inside terms next fs)
    go (Stop n) ih = refl
    go (Next next) ih = ih next

pub goes_next :
    (terms : Terms) (cs : List Customer) (r : Step Group) (all : Terms) (ds : List Customer) (g : Group) →
    goes_on_of terms cs r ≡ Next (Reading (InGroup all ds g)) → (terms ≡ all) × (cs ≡ ds) × (r ≡ Next g)
goes_next terms cs (Stop n) all ds g e = stop_not e
goes_next terms cs (Next h) all ds g e = (cc, cc, cc)

-- a group keeps its code
inside_code : (terms : Terms) (v : List ℕ) (fs : List Field) (g : Group) → OfCode v g → Keeps Any (OfCode v) (inside terms g fs)
inside_code terms v [] g o = o
inside_code terms v (Cut ∷ fs) g o = tt
inside_code terms v (Whole t x ∷ fs) g o = go (within terms g t x) (within_code v terms g t x o) (inside_code terms v fs)
  where
    go : (r : Step Group) → Keeps AtTag (OfCode v) r → ((next : Group) → OfCode v next → Keeps Any (OfCode v) (inside terms next fs)) →
        Keeps Any (OfCode v) (then r λ next. inside terms next fs)
    go (Stop n) k ih = tt
    go (Next next) k ih = ih next k

-- the fields lead from the C to where the group may end, and the trades cover
pub record Reads (terms : Terms) (inner : List Field) (c : Customer) : Type 0 where
  pub last : Part
  pub may_end_lem : may_end last ≡ true
  pub reads : inside terms (after_c c.code) inner ≡ Next (Open last c)
  pub covered : uncovered c ≡ false

pub record Describes (terms : Terms) (group : List ℕ) (c : Customer) : Type 0 where
  pub inner : List Field
  pub plain : Inner inner
  pub framed : Framed group (Whole (code "C") c.code ∷ inner)
  pub good : is_code c.code ≡ true
  pub whole : Reads terms inner c

-- a group that closes after a C with this code is a customer's
pub record Made (terms : Terms) (cs : List Customer) (v : List ℕ) (inner : List Field) (ds : List Customer) : Type 0 where
  pub customer : Customer
  pub code_is : customer.code ≡ v
  pub whole : Reads terms inner customer
  pub joins : cs ++ customer ∷ [] ≡ ds

pub made : (terms : Terms) (cs : List Customer) (v : List ℕ) (inner : List Field) (ds : List Customer) (g : Group) → inside terms (after_c v) inner ≡ Next g → Closes cs g ds → Made terms cs v inner ds
made terms cs v inner ds g e h = go g (subst (Keeps Any (OfCode v)) e (inside_code terms v inner (after_c v) refl)) e h
  where
    go : (g : Group) → OfCode v g → inside terms (after_c v) inner ≡ Next g → Closes cs g ds → Made terms cs v inner ds
    go Nobody o e h = absurd o
    go (Open part c) o e h =
        record {
          customer = c;
          code_is = o;
          whole = record { last = part; may_end_lem = h.0; reads = ap (λ (u : List ℕ). inside terms (after_c u) inner) o ∙ e; covered = h.1 };
          joins = h.2;
        }
