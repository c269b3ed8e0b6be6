-- Customers with distinct codes are each new to those before them, and where there are at most 256 there is room for each.
-- Assumes nothing.
use Rattle.std.specs.Prelude.{ℕ, ◌+◌, ◌≤◌, ◌<◌, ◌≡◌, refl, false, length}
use Rattle.std.proofs.Common.{sym, subst, ⊎_elim, length-append, arith}
use mathlib.Core.List.Memᴰ
use mathlib.Core.List.{List, [], ◌∷◌, ◌++◌, Memᴰ}
use Rattle.rules.specs.Codes.{same}
use Rattle.rules.specs.Limits.{most_customers}
use Rattle.rules.specs.Book.{Customer, given}
use Rattle.laws.specs.ShareSum.{Distinct}
use Rattle.laws.specs.Sane.{code_in}

-- there is room for each after those before, and its code was not given
abbrev pub Fresh : List Customer → List Customer → Type 0
Fresh cs [] = Unit
Fresh cs (c ∷ ds) = (length cs < most_customers) × (given c.code cs ≡ false) × Fresh (cs ++ c ∷ []) ds

none_given : (v : List ℕ) (cs : List Customer) → ((a : Customer) → Memᴰ a cs → same a.code v ≡ false) → given v cs ≡ false
none_given v [] h = refl
none_given v (c ∷ cs) h = rw (h c (Memᴰ.head refl), none_given v cs (λ a m. h a (Memᴰ.tail m)))

pub distinct_fresh :
    (ds cs : List Customer) → ((a b : Customer) → Memᴰ a cs → Memᴰ b ds → same a.code b.code ≡ false) → Distinct code_in ds → length cs + length ds ≤ most_customers → Fresh cs ds
distinct_fresh [] cs h k l = tt
distinct_fresh (d ∷ ds) cs h k l = (
  omega arith,
  none_given d.code cs (λ a m. h a d m (Memᴰ.head refl)),
  distinct_fresh ds (cs ++ d ∷ [])
      (λ a b m n. ⊎_elim
      (λ p. h a b p (Memᴰ.tail n))
      (λ p. subst (λ (x : Customer). same x.code b.code ≡ false) (sym (Memᴰ.eq_of_singleton p)) (k.0 b n))
      (Memᴰ.append_cases cs m))
      k.1
      (simp length-append (omega arith)),
)
