-- A book is judged group by group: what one customer's group comes to depends on the terms and on its own fields alone, and the
-- walk goes on from the field that closes it as if that customer had been there from the start.
-- Assumes nothing.
use Rattle.std.specs.Prelude.{ℕ, ◌+◌, ◌≤◌, ◌≡◌, refl, List, [], ◌∷◌, ◌++◌, Bool, true, false, cond, ◌||◌, length, drop}
use Rattle.std.proofs.Common.{sym, subst, ◌∙◌, arith}
use Rattle.rules.specs.declared.Terms.{Terms}
use Rattle.rules.specs.Text.{is}
use Rattle.rules.specs.Refusal as refusal
use Rattle.rules.specs.Fields.{Field, Whole, Cut, fields_of}
use Rattle.laws.specs.Fields.{fields_next}
use Rattle.laws.specs.Keeps.{Keeps, keeps_also}
use Rattle.laws.specs.OneField.{AtTag, FurtherGroup, part_leads}
use Rattle.rules.specs.Book.{
  Customer,
  uncovered,
  Step,
  Stop,
  Next,
  Group,
  Nobody,
  Open,
  after_c,
  within,
  may_end,
  InGroup,
  Stage,
  Reading,
  closed,
  opens,
  ends,
  goes_on_of,
  step,
  Verdict,
  Refused,
  placed,
  walk,
}

-- what a group comes to: a refusal with its place, or the customer, the place of the field that closes it and the fields from there
pub data Read : Type 0 where
  Bad : ℕ → ℕ → Read
  Good : Customer → ℕ → List Field → Read

abbrev pub closing : ℕ → ℕ → List Field → Group → Read
closing last_c at fs Nobody = Bad refusal.misplaced at
closing last_c at fs (Open part c) = cond (may_end part) (cond (uncovered c) (Bad refusal.uncovered last_c) (Good c at fs)) (Bad refusal.misplaced at)

abbrev pub onward : ℕ → Step Group → (Group → Read) → Read
onward at (Stop n) next = Bad n at
onward at (Next g) next = next g

-- a group that is read as far as g, whose C is at last_c; the fields begin at `at`
abbrev pub group_from : Terms → Group → ℕ → ℕ → List Field → Read
group_from terms g last_c at [] = Bad refusal.cut_short at
group_from terms g last_c at (Cut ∷ fs) = Bad refusal.cut_short at
group_from terms g last_c at (Whole t v ∷ fs) =
    cond (is "C" t || is "Z" t)
    (closing last_c at (Whole t v ∷ fs) g)
    (onward at (within terms g t v) λ next. group_from terms next last_c (at + 3 + length v) fs)

-- the customer joins those before, and the field that closes the group is judged next
abbrev pub carried : Terms → List Customer → ℕ → Read → Verdict
carried terms cs last_c (Bad n place) = Refused n place
carried terms cs last_c (Good c at fs) = walk (Reading (InGroup terms (cs ++ c ∷ []) Nobody)) last_c at fs

-- somebody's group is open
abbrev pub Somebody : Group → Type 0
Somebody Nobody = ⊥
Somebody (Open part c) = Unit

-- a group stays the same customer's
abbrev pub OfCode : List ℕ → Group → Type 0
OfCode v Nobody = ⊥
OfCode v (Open part c) = c.code ≡ v

pub within_code : (v : List ℕ) (terms : Terms) (g : Group) (t : ℕ) (x : List ℕ) → OfCode v g → Keeps AtTag (OfCode v) (within terms g t x)
within_code v terms Nobody t x o = absurd o
within_code v terms (Open part c) t x o = keeps_also {P = FurtherGroup c} {S = OfCode v} (λ n h. h) go (within terms (Open part c) t x) (part_leads terms part c t x)
  where
    go : (g : Group) → FurtherGroup c g → OfCode v g
    go Nobody h = absurd h
    go (Open p d) h = h ∙ o

within_somebody : (terms : Terms) (g : Group) (t : ℕ) (v : List ℕ) → Somebody g → Keeps AtTag Somebody (within terms g t v)
within_somebody terms Nobody t v s = absurd s
within_somebody terms (Open part c) t v s = keeps_also {P = FurtherGroup c} {S = Somebody} (λ n h. h) go (within terms (Open part c) t v) (part_leads terms part c t v)
  where
    go : (g : Group) → FurtherGroup c g → Somebody g
    go Nobody h = h
    go (Open p d) h = tt

-- at C or Z a group that may not end there is refused, and one that may is judged, with 9, before the field itself
module _ (terms : Terms) (cs : List Customer) (last_c at : ℕ) (t : ℕ) (v : List ℕ) (fs : List Field) where
  closes :
      (next : List Customer → Step Stage) → ((h : Group) (ds : List Customer) → step (InGroup terms ds h) t v ≡ closed ds h next) → (g : Group) → Somebody g →
      walk (Reading (InGroup terms cs g)) last_c at (Whole t v ∷ fs) ≡ carried terms cs last_c (closing last_c at (Whole t v ∷ fs) g)
  closes next h Nobody s = absurd s
  closes next h (Open part c) s = go (may_end part) (uncovered c) refl refl
    where
      go : (m u : Bool) → may_end part ≡ m → uncovered c ≡ u →
          walk (Reading (InGroup terms cs (Open part c))) last_c at (Whole t v ∷ fs) ≡ carried terms cs last_c (closing last_c at (Whole t v ∷ fs) (Open part c))
      go false u x y = rw (h (Open part c) cs, x)
      go true true x y = rw (h (Open part c) cs, x, y)
      go true false x y = rw (h (Open part c) cs, x, y, h Nobody (cs ++ c ∷ []))

-- any other field of the group leads on within it
inner_goes :
    (terms : Terms) (cs : List Customer) (last_c at e : ℕ) (fs : List Field) →
    ((g : Group) → Somebody g → walk (Reading (InGroup terms cs g)) last_c e fs ≡ carried terms cs last_c (group_from terms g last_c e fs)) →
    (r : Step Group) → Keeps AtTag Somebody r →
    placed last_c at (goes_on_of terms cs r) (λ stage. walk stage last_c e fs) ≡ carried terms cs last_c (onward at r λ next. group_from terms next last_c e fs)
inner_goes terms cs last_c at e fs ih (Stop n) h = rw h.own
inner_goes terms cs last_c at e fs ih (Next g) s = ih g s

pub walk_group :
    (terms : Terms) (cs : List Customer) (g : Group) (last_c at : ℕ) (fs : List Field) → Somebody g →
    walk (Reading (InGroup terms cs g)) last_c at fs ≡ carried terms cs last_c (group_from terms g last_c at fs)
unfolding step
walk_group terms cs g last_c at [] s = refl
walk_group terms cs g last_c at (Cut ∷ fs) s = refl
walk_group terms cs g last_c at (Whole t v ∷ fs) s = go (is "C" t) (is "Z" t) refl refl (λ h k. walk_group terms cs h last_c (at + 3 + length v) fs k)
  where
    go : (p q : Bool) → is "C" t ≡ p → is "Z" t ≡ q →
        ((h : Group) → Somebody h → walk (Reading (InGroup terms cs h)) last_c (at + 3 + length v) fs ≡ carried terms cs last_c (group_from terms h last_c (at + 3 + length v) fs)) →
        walk (Reading (InGroup terms cs g)) last_c at (Whole t v ∷ fs) ≡ carried terms cs last_c (group_from terms g last_c at (Whole t v ∷ fs))
    go true q x y ih = closes terms cs last_c at t v fs (opens terms v) (λ h ds. rw x) g s ∙ rw x
    go false true x y ih = closes terms cs last_c at t v fs (ends terms v) (λ h ds. rw (x, y)) g s ∙ rw (x, y)
    go false false x y ih = rw (x, y) (inner_goes terms cs last_c at (at + 3 + length v) fs ih (within terms g t v) (within_somebody terms g t v s))

-- where a group ends, the fields from its closing field on are the book's, that is no earlier than it began, and its customer has the code that
-- its C gave
module _ (s : List ℕ) (terms : Terms) (code : List ℕ) (last_c : ℕ) where
  pub record Rides (at : ℕ) (c : Customer) (next : ℕ) (fs : List Field) : Type 0 where
    pub fields : fs ≡ fields_of (drop next s)
    pub later : at ≤ next
    pub named : c.code ≡ code

  abbrev Ridden : ℕ → Read → Type 0
  Ridden at (Bad n place) = Unit
  Ridden at (Good c next fs) = Rides at c next fs

  closing_rides : (at : ℕ) (fs : List Field) → fs ≡ fields_of (drop at s) → (g : Group) → OfCode code g → Ridden at (closing last_c at fs g)
  closing_rides at fs e Nobody o = tt
  closing_rides at fs e (Open part c) o = go (may_end part) (uncovered c)
    where
      go : (m u : Bool) → Ridden at (cond m (cond u (Bad refusal.uncovered last_c) (Good c at fs)) (Bad refusal.misplaced at))
      go false u = tt
      go true true = tt
      go true false = record { fields = e; later = omega arith; named = o }

  later_rides : (at e : ℕ) → at ≤ e → (r : Read) → Ridden e r → Ridden at r
  later_rides at e h (Bad n place) d = tt
  later_rides at e h (Good c next fs) d = record { fields = d.fields; later = omega (arith, d.later); named = d.named }

  rides : (g : Group) → OfCode code g → (at : ℕ) (fs : List Field) → fields_of (drop at s) ≡ fs → Ridden at (group_from terms g last_c at fs)
  rides g o at [] e = tt
  rides g o at (Cut ∷ fs) e = tt
  rides g o at (Whole t v ∷ fs) e =
      let k = fields_next s at t v fs e in
      go (is "C" t || is "Z" t) (within terms g t v) (within_code code terms g t v o) (λ h p. rides h p (at + 3 + length v) fs (sym k.rest))
    where
      go : (b : Bool) (r : Step Group) → Keeps AtTag (OfCode code) r →
          ((h : Group) → OfCode code h → Ridden (at + 3 + length v) (group_from terms h last_c (at + 3 + length v) fs)) →
          Ridden at (cond b (closing last_c at (Whole t v ∷ fs) g) (onward at r λ next. group_from terms next last_c (at + 3 + length v) fs))
      go true r p ih = closing_rides at (Whole t v ∷ fs) (sym e) g o
      go false (Stop n) p ih = tt
      go false (Next h) p ih = later_rides at (at + 3 + length v) (omega arith) (group_from terms h last_c (at + 3 + length v) fs) (ih h p)

  pub group_rides : (at : ℕ) (c : Customer) (next : ℕ) (fs : List Field) → group_from terms (after_c code) last_c at (fields_of (drop at s)) ≡ Good c next fs → Rides at c next fs
  group_rides at c next fs e = subst (Ridden at) e (rides (after_c code) refl at (fields_of (drop at s)) refl)
