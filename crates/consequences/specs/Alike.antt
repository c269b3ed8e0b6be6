-- The order of the members, and the members without weight, do not matter to a division: what is nothing without weight sums up alike, so
-- as many lots are left over, and who has a remainder is behind as many, since nobody without one goes before. Neither do the order of the
-- lines, and the idle ones, matter to a tier: its quantity and each line after it are the same, and an idle line stays idle.
-- Assumes nothing.
use Rattle.std.specs.Prelude.{ℕ, zero, suc, ◌+◌, ◌<◌, ◌≡◌, Bool, ◌||◌, List, ltb}
use Rattle.std.proofs.Math.Path.{refl}
use Rattle.std.proofs.Common.{sym, ap, subst, ◌∙◌, arith}
use Rattle.std.proofs.Math.Bool.{true, false, cond}
use Rattle.std.proofs.Math.Nat.{mul-zero, zero-div, zero-mod}
use Rattle.std.proofs.Math.Dec.{eqb}
use borrow.Author.Tests.{ltb-true, le-ltb, ne_eqb, eqb-false}
use Rattle.rules.specs.Division.{sum_of, one_if, whole_part, remainder, left_over_of, goes_before, rank, share_of, share}
use Rattle.rules.specs.Cascade.{Line, code_of, pending_of, offered_in, tier_of, quantity, after, tier}
use Rattle.laws.specs.Sums.{sum-map, sum_cong}
use Rattle.laws.specs.Division.{served}

module _ {A : Type 0} (code : A → List ℕ) (weight : A → ℕ) (x : ℕ) where
  -- gets one lot more
  abbrev favoured : ℕ → List A → A → Bool
  favoured sum all a = ltb (rank code weight x sum all a) (left_over_of code weight x sum all)

  -- who has no remainder gets no lot that was left over
  not_served : (all : List A) → 0 < sum_of weight all → (a : A) → remainder code weight x (sum_of weight all) a ≡ 0 → favoured (sum_of weight all) all a ≡ false
  not_served all pos a e = go _ refl
    where
      go : (b : Bool) → favoured (sum_of weight all) all a ≡ b → b ≡ false
      go true h = absurd (omega (arith, served code weight x all pos a (ltb-true _ _ h)))
      go false h = refl

  module _ (l m : List A) (alike : (f : A → ℕ) → ((a : A) → weight a ≡ 0 → f a ≡ 0) → sum_of f l ≡ sum_of f m) where
    sum_alike : sum_of weight l ≡ sum_of weight m
    sum_alike = alike weight (λ a e. e)

    left_alike : (sum : ℕ) → left_over_of code weight x sum l ≡ left_over_of code weight x sum m
    unfolding left_over_of
    left_alike sum = rw (alike (whole_part code weight x sum) (λ a e. simp (e, mul-zero, zero-div)))

    rank_alike : (sum : ℕ) (a : A) → 0 < remainder code weight x sum a → rank code weight x sum l a ≡ rank code weight x sum m a
    unfolding rank
    rank_alike sum a h =
        alike (λ b. one_if (goes_before code weight x sum b a)) (λ b e. simp (e, mul-zero, zero-mod, le-ltb (remainder code weight x sum a) 0 (omega arith), ne_eqb (remainder code weight x sum a) 0 (omega arith)))

    served_alike : (sum : ℕ) → sum_of weight l ≡ sum → sum_of weight m ≡ sum → 0 < sum → (a : A) → favoured sum l a ≡ favoured sum m a
    served_alike sum e f pos a = go (remainder code weight x sum a) refl
      where
        at : (all : List A) → sum_of weight all ≡ sum → remainder code weight x sum a ≡ 0 → favoured sum all a ≡ false
        at all e z = subst (λ (n : ℕ). 0 < n → remainder code weight x n a ≡ 0 → favoured n all a ≡ false) e (λ p q. not_served all p a q) pos z

        go : (r : ℕ) → remainder code weight x sum a ≡ r → favoured sum l a ≡ favoured sum m a
        go zero z = at l e z ∙ sym (at m f z)
        go (suc r) z = rw (rank_alike sum a (omega arith), left_alike sum)

    pub share_alike : (a : A) → share code weight x l a ≡ share code weight x m a
    unfolding share share_of
    share_alike a = rw sum_alike (go (eqb x 0) (eqb (sum_of weight m) 0) refl)
      where
        go : (p q : Bool) → eqb (sum_of weight m) 0 ≡ q → cond (p || q) 0 (whole_part code weight x (sum_of weight m) a + one_if (favoured (sum_of weight m) l a)) ≡ cond (p || q) 0 (whole_part code weight x (sum_of weight m) a + one_if (favoured (sum_of weight m) m a))
        go true q e = refl
        go false true e = refl
        go false false e =
            let pos : 0 < sum_of weight m = omega (arith, eqb-false (sum_of weight m) 0 e) in
            rw (served_alike (sum_of weight m) sum_alike refl pos a)

-- neither offers nor has anything pending
abbrev pub Idle : Line → Type 0
Idle l = (l.offered ≡ 0) × (l.pending ≡ 0)

-- whatever is nothing for idle lines sums up to the same
pub record Alike (ls ms : List Line) : Type 0 where
  pub sums : (f : Line → ℕ) → ((l : Line) → Idle l → f l ≡ 0) → sum_of f ls ≡ sum_of f ms

idle_in : (k : ℕ) (l : Line) → Idle l → offered_in k l ≡ 0
idle_in k l (o, p) = go (eqb (tier_of l.standing) k)
  where
    go : (b : Bool) → cond b l.offered 0 ≡ 0
    go true = o
    go false = refl

idle_after : (k : ℕ) (ls : List Line) (l : Line) → Idle l → Idle (after k ls l)
unfolding after
idle_after k ls l (o, p) = (o, omega arith)

module _ (k : ℕ) (ls ms : List Line) (a : Alike ls ms) where
  pub quantity_alike : quantity k ls ≡ quantity k ms
  unfolding quantity
  quantity_alike = rw (a.sums pending_of (λ l i. i.1), a.sums (offered_in k) (idle_in k))

  pub after_alike : (l : Line) → after k ls l ≡ after k ms l
  unfolding after
  after_alike l =
      rw (
        quantity_alike,
        share_alike code_of (offered_in k) (quantity k ms) ls ms (λ f h. a.sums f (λ m i. h m (idle_in k m i))) l,
        share_alike code_of pending_of (quantity k ms) ls ms (λ f h. a.sums f (λ m i. h m i.1)) l,
      )

  pub tier_alike : Alike (tier k ls) (tier k ms)
  tier_alike =
      record {
        sums = λ f h. sum-map f (after k ls) ls
            ∙ a.sums (λ l. f (after k ls l)) (λ l i. h (after k ls l) (idle_after k ls l i))
            ∙ sum_cong (λ l. f (after k ls l)) (λ l. f (after k ms l)) ms (λ l m. ap f (after_alike l))
            ∙ sym (sum-map f (after k ms) ms);
      }
