-- What the code finds at a C: by its code and its group it is one of the turns over customers.
-- Assumes nothing.
use Prim.Native.Nat.{ℕ, ◌+◌, ◌-◌, ◌≤◌, ◌<◌}
use mathlib.Core.Path.{◌≡◌, refl, sym, ap, subst, ◌∙◌}
use mathlib.Core.List.{List}
use mathlib.Core.Bool.{Bool, true, false}
use native.Mathlib.Omega.{arith}
use lib.ListN.{length, get_or, take, drop, set}
use lib.Dec.{leb}
use borrow.Author.Tests.{leb-true, leb-false}
use Rattle.rules.specs.declared.Terms.{Terms}
use Rattle.rules.specs.Limits.{most_customers}
use Rattle.rules.specs.Codes.{is_code}
use Rattle.rules.specs.Fields.{fields_of}
use Rattle.rules.specs.Book.{after_c, Refused}
use Rattle.laws.specs.Groups.{group_from}
use Rattle.laws.specs.Fields.{size_at}
use Rattle.fields.specs.declared.Found.TheVariants.{Short}
use Rattle.fields.specs.declared.Found.TheVariants.{Field as FieldAt}
use Rattle.fields.specs.First.{first_at}
use Rattle.fields.specs.Laws.{Stands, first_whole, first_short}
use Rattle.fields.specs.declared.Refusal.{Refusal}
use Rattle.group.specs.declared.GroupAt.{GroupAt}
use Rattle.group.specs.declared.GroupAt.TheVariants.{Closed}
use Rattle.group.specs.declared.GroupAt.TheVariants.{Refused as NoGroup}
use Rattle.group.specs.Group.{group_at}
use Rattle.roll.specs.declared.CodeAt.{CodeAt}
use Rattle.roll.specs.declared.CodeAt.TheVariants.{Key as NewKey}
use Rattle.roll.specs.declared.CodeAt.TheVariants.{Refused as NoCode}
use Rattle.roll.specs.declared.CustomerAt.TheVariants.{New as NewCustomer}
use Rattle.roll.specs.declared.CustomerAt.TheVariants.{Refused as NoCustomer}
use Rattle.roll.specs.Roll.{byte_of, stake_as, verdict_from, code_at, customer_of, customer_at}
use Rattle.roll.proofs.Turns.{Between, turn_no_code, turn_new, turn_no_group, turn_more}

module _ {s : List ℕ} {terms : Terms} {first at count : ℕ} {keys starts standings stakes : List ℕ} (b : Between s terms first at count keys starts standings stakes) {start end : ℕ} (k : Stands s at 67 start end) where
  abbrev value : List ℕ
  value = take (end - start) (drop start s)

  abbrev coded : CodeAt
  coded = code_at at count (take count keys) value

  abbrev group : GroupAt
  group = group_at terms (group_from terms (after_c value) at end (fields_of (drop end s)))

  pub turn_no_customer : (r : Refusal) → customer_at s terms keys count at start end ≡ NoCustomer r → verdict_from terms first (fields_of (drop first s)) ≡ Refused r.number r.place
  turn_no_customer r e = by coded group refl refl e
    where
      by : (a : CodeAt) (g : GroupAt) → coded ≡ a → group ≡ g → customer_of a g ≡ NoCustomer r → verdict_from terms first (fields_of (drop first s)) ≡ Refused r.number r.place
      by (NewKey key) (Closed place st offered pending) x y z = absurd (let n : ◌≡◌ {A = ℕ} 0 1 = cc in omega arith)
      by (NewKey key) (NoGroup f) x y z = let h : f ≡ r = cc in turn_no_group b k (turn_new b k key x) group refl r (y ∙ ap NoGroup h)
      by (NoCode f) g x y z = let h : f ≡ r = cc in turn_no_code b k r (x ∙ ap NoCode h)

  -- a new customer, and the columns with it
  pub record More (key place standing stake : ℕ) : Type 0 where
    pub room : count < most_customers
    pub code : is_code value ≡ true
    pub later : end ≤ place
    pub next : Between s terms first place (count + 1) (set keys count key) (set starts count start) (set standings count standing) (set stakes count stake)

  pub turn_customer : (key place standing stake : ℕ) → end - start ≡ size_at s at → customer_at s terms keys count at start end ≡ NewCustomer key place standing stake →
      More key place standing stake
  turn_customer key place standing stake said e = by coded group refl refl e
    where
      by : (a : CodeAt) (g : GroupAt) → coded ≡ a → group ≡ g → customer_of a g ≡ NewCustomer key place standing stake → More key place standing stake
      by (NewKey x) (Closed p st offered pending) f g z =
          let h : x ≡ key = cc in
          let i : p ≡ place = cc in
          let j : byte_of st ≡ standing = cc in
          let l : stake_as st offered pending ≡ stake = cc in
          let w = turn_new b k x f in
          let m = turn_more b k w group refl p st offered pending g said in
          subst (λ (n : ℕ). More n place standing stake) h (subst (λ (n : ℕ). More x n standing stake) i
          (subst (λ (n : ℕ). More x p n stake) j (subst (More x p (byte_of st)) l (record { room = w.room; code = w.code; later = m.0; next = m.1 }))))
      by (NewKey x) (NoGroup f) g h z = absurd (let n : ◌≡◌ {A = ℕ} 0 1 = cc in omega arith)
      by (NoCode f) g h i z = absurd (let n : ◌≡◌ {A = ℕ} 0 1 = cc in omega arith)

-- what a found field's two bytes say of its size
pub size_said : (s : List ℕ) (at t start end : ℕ) → first_at at (fields_of (drop at s)) ≡ FieldAt t start end → end - start ≡ size_at s at
size_said s at t start end h = go (leb (at + 3 + size_at s at) (length s)) refl
  where
    no_field : {t a e : ℕ} → Short ≡ FieldAt t a e → ⊥
    no_field h = let z : ◌≡◌ {A = ℕ} 0 1 = cc in omega arith

    go : (b : Bool) → leb (at + 3 + size_at s at) (length s) ≡ b → end - start ≡ size_at s at
    go true e =
        let k : FieldAt (get_or s at 0) (at + 3) (at + 3 + size_at s at) ≡ FieldAt t start end = sym (first_whole s at (leb-true _ _ e)) ∙ h in
        let a : at + 3 ≡ start = cc in
        let z : at + 3 + size_at s at ≡ end = cc in
        omega arith
    go false e = absurd (no_field (sym (first_short s at (omega (arith, leb-false))) ∙ h))
