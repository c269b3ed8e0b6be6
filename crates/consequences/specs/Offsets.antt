-- What a tier adds to a line's offset: to a pending line what it closes, to a line of the tier what it gives, and nothing to anybody else.
-- A pending line is in no tier, and whoever is not pending has nothing to close.
-- Assumes nothing.
use Rattle.std.specs.Prelude.{ℕ, ◌+◌, ◌<◌, ◌≡◌, Bool}
use Rattle.std.proofs.Math.Path.{refl, subst}
use Rattle.std.proofs.Common.{sym, ap, ◌∙◌, arith}
use Rattle.std.proofs.Math.Bool.{true, false, cond}
use mathlib.Core.List.Memᴰ
use mathlib.Core.List.{List, Memᴰ}
use Rattle.std.proofs.Math.Dec.{eqb}
use borrow.Author.Tests.{eqb-true, eqb-false, ne_eqb}
use Rattle.rules.specs.declared.Standing.{Standing}
use Rattle.rules.specs.declared.Standing.TheVariants.{Pending, Tier1, Tier2, Tier3, Neither}
use Rattle.rules.specs.Division.{sum_of, one_if}
use Rattle.rules.specs.Cascade.{Line, code_of, tier_of, offered_in, quantity, after, tier}
use Rattle.laws.specs.Sums.{sum-map, sum_cong, sum-add}
use Rattle.laws.specs.ShareSum.{Distinct}
use Rattle.consequences.specs.Tiers.{gives, closes, gives_at_most, closes_at_most, gives_sum, closes_sum, distinct_after}

abbrev pub is_pending : Standing → Bool
is_pending Pending = true
is_pending Tier1 = false
is_pending Tier2 = false
is_pending Tier3 = false
is_pending Neither = false

-- the lots that a pending line has closed
abbrev pub closed_by : Line → ℕ
closed_by l = cond (is_pending l.standing) l.offset 0

-- the lots that a line of tier k has given
abbrev pub given_in : ℕ → Line → ℕ
given_in k l = cond (eqb (tier_of l.standing) k) l.offset 0

-- no two codes are the same, and only who is pending has lots pending
pub record Apart (ls : List Line) : Type 0 where
  pub distinct : Distinct code_of ls
  pub others : (l : Line) → Memᴰ l ls → is_pending l.standing ≡ false → l.pending ≡ 0

pending_tier : (s : Standing) → is_pending s ≡ true → tier_of s ≡ 0
pending_tier Pending e = refl
pending_tier Tier1 e = absurd (omega (arith, ap one_if e))
pending_tier Tier2 e = absurd (omega (arith, ap one_if e))
pending_tier Tier3 e = absurd (omega (arith, ap one_if e))
pending_tier Neither e = refl

tier_pending : (s : Standing) → 0 < tier_of s → is_pending s ≡ false
tier_pending Pending h = absurd (omega arith)
tier_pending Tier1 h = refl
tier_pending Tier2 h = refl
tier_pending Tier3 h = refl
tier_pending Neither h = refl

module _ (k : ℕ) (ls : List Line) (l : Line) where
  -- who is not in the tier gives nothing
  pub gives_none : (tier_of l.standing ≡ k → ⊥) → gives k ls l ≡ 0
  gives_none h =
      let none : offered_in k l ≡ 0 = rw (ne_eqb (tier_of l.standing) k h) in
      omega (arith, gives_at_most k ls l)

  pub closes_none : l.pending ≡ 0 → closes k ls l ≡ 0
  closes_none e = omega (arith, closes_at_most k ls l)

  -- what a pending line closes goes from its pending lots to its offset
  pub pending_step : 0 < k → is_pending l.standing ≡ true → (after k ls l).offset + (after k ls l).pending ≡ l.offset + l.pending
  unfolding after
  pending_step pos e = omega (arith, gives_none (λ z. omega (arith, pending_tier l.standing e)), closes_at_most k ls l)

  pub tier_step : l.pending ≡ 0 → (after k ls l).offset ≡ l.offset + gives k ls l
  unfolding after
  tier_step e = omega (arith, closes_none e)

  closed_step : 0 < k → (is_pending l.standing ≡ false → l.pending ≡ 0) → closed_by (after k ls l) ≡ closed_by l + closes k ls l
  unfolding after
  closed_step pos h = go (is_pending l.standing) refl
    where
      go : (b : Bool) → is_pending l.standing ≡ b → cond b (l.offset + gives k ls l + closes k ls l) 0 ≡ cond b l.offset 0 + closes k ls l
      go true e = omega (arith, gives_none (λ z. omega (arith, pending_tier l.standing e)))
      go false e = omega (arith, closes_none (h e))

  given_step : 0 < k → (is_pending l.standing ≡ false → l.pending ≡ 0) → given_in k (after k ls l) ≡ given_in k l + gives k ls l
  unfolding after
  given_step pos h = go (eqb (tier_of l.standing) k) refl
    where
      go : (b : Bool) → eqb (tier_of l.standing) k ≡ b → cond b (l.offset + gives k ls l + closes k ls l) 0 ≡ cond b l.offset 0 + gives k ls l
      go true e = omega (arith, closes_none (h (tier_pending l.standing (omega (arith, eqb-true (tier_of l.standing) k e)))))
      go false e = omega (arith, gives_none (eqb-false (tier_of l.standing) k e))

  given_rests : (j : ℕ) → 0 < j → (j ≡ k → ⊥) → (is_pending l.standing ≡ false → l.pending ≡ 0) → given_in j (after k ls l) ≡ given_in j l
  unfolding after
  given_rests j pos other h = go (eqb (tier_of l.standing) j) refl
    where
      go : (b : Bool) → eqb (tier_of l.standing) j ≡ b → cond b (l.offset + gives k ls l + closes k ls l) 0 ≡ cond b l.offset 0
      go true e =
          let t : tier_of l.standing ≡ j = eqb-true (tier_of l.standing) j e in
          omega (arith, gives_none (λ z. other (sym t ∙ z)), closes_none (h (tier_pending l.standing (omega arith))))
      go false e = refl

module _ (k : ℕ) (pos : 0 < k) (ls : List Line) (a : Apart ls) where
  pub apart_after : Apart (tier k ls)
  unfolding after
  apart_after =
      record {
        distinct = distinct_after k ls a.distinct;
        others = λ l m.
            let (c, n, q) = Memᴰ.of_map (after k ls) ls m in
            subst (λ (z : Line). is_pending z.standing ≡ false → z.pending ≡ 0) q (λ f. omega (arith, a.others c n f));
      }

  -- a tier closes its quantity, and gives it
  pub closed_after : sum_of closed_by (tier k ls) ≡ sum_of closed_by ls + quantity k ls
  closed_after =
      omega (
        arith,
        sum-map closed_by (after k ls) ls,
        sum_cong (λ l. closed_by (after k ls l)) (λ l. closed_by l + closes k ls l) ls (λ l m. closed_step k ls l pos (a.others l m)),
        sum-add closed_by (closes k ls) ls,
        closes_sum k ls a.distinct,
      )

  pub given_after : sum_of (given_in k) (tier k ls) ≡ sum_of (given_in k) ls + quantity k ls
  given_after =
      omega (
        arith,
        sum-map (given_in k) (after k ls) ls,
        sum_cong (λ l. given_in k (after k ls l)) (λ l. given_in k l + gives k ls l) ls (λ l m. given_step k ls l pos (a.others l m)),
        sum-add (given_in k) (gives k ls) ls,
        gives_sum k ls a.distinct,
      )

  pub given_others : (j : ℕ) → 0 < j → (j ≡ k → ⊥) → sum_of (given_in j) (tier k ls) ≡ sum_of (given_in j) ls
  given_others j p other =
      sum-map (given_in j) (after k ls) ls ∙ sum_cong _ _ ls (λ l m. given_rests k ls l j p other (a.others l m))
