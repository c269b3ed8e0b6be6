-- A turn fills the columns as far as its field says: not at all where no new customer stands there, and else with one customer.
-- Assumes nothing.
use Prim.Native.Nat.{ℕ, zero, suc, ◌+◌}
use Prim.Native.Char.{code}
use mathlib.Core.Path.{◌≡◌, refl}
use mathlib.Core.List.{List}
use lib.ListN.{drop}
use borrow.Author.Tests.{eq-eqb, ne_eqb}
use Rattle.rules.specs.declared.Terms.{Terms}
use Rattle.rules.specs.Fields.{fields_of}
use Rattle.fields.specs.declared.Found.TheVariants.{Short}
use Rattle.fields.specs.declared.Found.TheVariants.{Field as FieldAt}
use Rattle.fields.specs.declared.Refusal.{Refusal}
use Rattle.fields.specs.First.{first_at}
use Rattle.roll.specs.declared.CustomerAt.TheVariants.{New as NewCustomer}
use Rattle.roll.specs.declared.CustomerAt.TheVariants.{Refused as NoCustomer}
use Rattle.roll.specs.Roll.{Columns, customer_at, stored, filled_from}

module _ (s : List ℕ) (terms : Terms) (at count : ℕ) (c : Columns) where
  pub stays_short : (most : ℕ) → first_at at (fields_of (drop at s)) ≡ Short → filled_from most s terms at count c ≡ c
  stays_short zero e = refl
  stays_short (suc most) e = rw e refl

  pub stays_other : (most : ℕ) {t start end : ℕ} → first_at at (fields_of (drop at s)) ≡ FieldAt t start end → (t ≡ code "C" → ⊥) → filled_from most s terms at count c ≡ c
  stays_other zero e ne = refl
  stays_other (suc most) {t} e ne = rw (e, ne_eqb t (code "C") ne) refl

  pub stays_refused : (most : ℕ) {t start end : ℕ} {r : Refusal} → first_at at (fields_of (drop at s)) ≡ FieldAt t start end → t ≡ code "C" →
      customer_at s terms c.keys count at start end ≡ NoCustomer r → filled_from most s terms at count c ≡ c
  stays_refused zero e q n = refl
  stays_refused (suc most) {t} e q n = rw (e, eq-eqb t (code "C") q, n) refl

  pub fills : (most : ℕ) {t start end key place standing stake : ℕ} → first_at at (fields_of (drop at s)) ≡ FieldAt t start end → t ≡ code "C" →
      customer_at s terms c.keys count at start end ≡ NewCustomer key place standing stake →
      filled_from (suc most) s terms at count c ≡ filled_from most s terms place (count + 1) (stored c count key start standing stake)
  fills most {t} e q n = rw (e, eq-eqb t (code "C") q, n) refl
