-- Members counted in a search: nobody, everybody, and those who go before a pair, which are those who lack less and then, of those who
-- lack the same, the ones with a smaller key.
-- Assumes nothing.
use Prim.Native.Nat.{ℕ, ◌+◌, ◌≤◌, ◌<◌}
use mathlib.Core.Path.{◌≡◌, refl, sym, ap, ◌∙◌}
use mathlib.Core.Bool.{Bool, true, false, ◌&&◌, ◌||◌}
use mathlib.Core.List.{List}
use native.Mathlib.Omega.{arith}
use lib.Dec.{ltb, eqb}
use borrow.Author.Tests.{lt-ltb, le-ltb, ltb-true, ltb-false, eqb-true, eqb-false, ne_eqb}
use Rattle.rules.specs.Division.{sum_of, one_if}
use Rattle.laws.specs.Sums.{up_to, length_up_to, sum-add, sum-zero, sum_one}
use Rattle.laws.specs.Indices.{sum_below}
use Rattle.division.specs.Shares.{at}
use Rattle.division.specs.Parts.{lack_in, before_of, count_of, Spanned}

-- up to an edge are those below it and those at it
at_edge : (a e : ℕ) → one_if (ltb a (e + 1)) ≡ one_if (ltb a e) + one_if (eqb a e)
at_edge a e = go (ltb a e) (eqb a e) refl refl
  where
    go : (p q : Bool) → ltb a e ≡ p → eqb a e ≡ q → one_if (ltb a (e + 1)) ≡ one_if p + one_if q
    go true true s t = absurd (omega (arith, ltb-true a e s, eqb-true a e t))
    go true false s t = rw (lt-ltb a (e + 1) (omega (arith, ltb-true a e s)))
    go false true s t = rw (lt-ltb a (e + 1) (omega (arith, eqb-true a e t)))
    go false false s t = rw (le-ltb a (e + 1) (omega (arith, ltb-false a e s, eqb-false a e t)))

one_both : (a e : ℕ) (r : Bool) → one_if (ltb a e || eqb a e && r) ≡ one_if (ltb a e) + one_if (eqb a e && r)
one_both a e r = go (ltb a e) (eqb a e) r refl refl
  where
    go : (p q r : Bool) → ltb a e ≡ p → eqb a e ≡ q → one_if (p || q && r) ≡ one_if p + one_if (q && r)
    go true true r s t = absurd (omega (arith, ltb-true a e s, eqb-true a e t))
    go true false r s t = refl
    go false true r s t = omega arith
    go false false r s t = refl

module _ (parts keys : List ℕ) (n : ℕ) where
  abbrev lack : ℕ → ℕ
  lack i = lack_in (at parts i)

  -- those who lack less than t; those who lack e
  abbrev pub lacking : ℕ → ℕ
  lacking t = count_of parts keys 0 n t

  abbrev pub tied : ℕ → ℕ
  tied e = sum_of (λ i. one_if (eqb (lack i) e)) (up_to n)

  pub none_lacking : (t : ℕ) → ((i : ℕ) → i < n → t ≤ lack i) → lacking t ≡ 0
  none_lacking t h = sum_below _ (λ i. 0) n (λ i l. rw (le-ltb (lack i) t (h i l))) ∙ sum-zero (up_to n)

  pub all_lacking : (t : ℕ) → ((i : ℕ) → i < n → lack i < t) → lacking t ≡ n
  all_lacking t h = sum_below _ (λ i. 1) n (λ i l. rw (lt-ltb (lack i) t (h i l))) ∙ sum_one (up_to n) ∙ length_up_to n

  pub up_to_edge : (e : ℕ) → lacking (e + 1) ≡ lacking e + tied e
  up_to_edge e = sum_below _ _ n (λ i l. at_edge (lack i) e) ∙ sum-add (λ i. one_if (ltb (lack i) e)) (λ i. one_if (eqb (lack i) e)) (up_to n)

  module _ (e : ℕ) (some : 0 < e) where
    -- of those who lack e, the ones with a key below k
    keyed : (k : ℕ) → count_of parts keys e n k ≡ sum_of (λ i. one_if (eqb (lack i) e && ltb (at keys i) k)) (up_to n)
    keyed k = sum_below _ _ n (λ i l. rw (ne_eqb e 0 (λ z. omega arith)))

    pub before_edge : (k : ℕ) → before_of lack (at keys) n e k ≡ lacking e + count_of parts keys e n k
    before_edge k =
        sum_below _ _ n (λ i l. one_both (lack i) e (ltb (at keys i) k))
        ∙ sum-add (λ i. one_if (ltb (lack i) e)) (λ i. one_if (eqb (lack i) e && ltb (at keys i) k)) (up_to n) ∙ ap (λ m. lacking e + m) (sym (keyed k))

    module _ {least most : ℕ} (s : Spanned parts keys n e least most) where
      pub none_keyed : count_of parts keys e n least ≡ 0
      none_keyed = keyed least ∙ sum_below _ (λ i. 0) n (λ i l. go i l (eqb (lack i) e) refl) ∙ sum-zero (up_to n)
        where
          go : (i : ℕ) → i < n → (b : Bool) → eqb (lack i) e ≡ b → one_if (b && ltb (at keys i) least) ≡ 0
          go i l true z = rw (le-ltb (at keys i) least (s.above i l (eqb-true (lack i) e z)))
          go i l false z = refl

      pub all_keyed : count_of parts keys e n (most + 1) ≡ tied e
      all_keyed = keyed (most + 1) ∙ sum_below _ _ n (λ i l. go i l (eqb (lack i) e) refl)
        where
          go : (i : ℕ) → i < n → (b : Bool) → eqb (lack i) e ≡ b → one_if (b && ltb (at keys i) (most + 1)) ≡ one_if b
          go i l true z = rw (lt-ltb (at keys i) (most + 1) (omega (arith, s.under i l (eqb-true (lack i) e z))))
          go i l false z = refl
