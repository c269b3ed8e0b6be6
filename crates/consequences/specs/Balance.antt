-- The cascade balances: each tier takes from what is pending as many lots as its lines give. So what the P customers close is what the tiers
-- give, the total is the smaller of what is pending and what is offered, and no tier gives a lot before those above it have given all.
-- Assumes nothing.
use Rattle.std.specs.Prelude.{ℕ, ◌+◌, ◌<◌, min, ◌≡◌, refl, Bool, true, false, cond, eqb}
use Rattle.std.proofs.Common.{◌∙◌, arith}
use mathlib.Core.List.{List, Memᴰ}
use Rattle.rules.specs.Division.{sum_of}
use Rattle.rules.specs.Cascade.{Line, Outcome, tier_of, pending_of, offered_in, quantity, tier, cascade}
use Rattle.laws.specs.Sums.{sum_cong, sum-zero}
use Rattle.consequences.specs.Tiers.{offered_after, pending_after}
use Rattle.consequences.specs.Offsets.{is_pending, closed_by, given_in, Apart, apart_after, closed_after, given_after, given_others}

-- lines before the cascade
pub record Fresh (ls : List Line) : Type 0 where
  pub apart : Apart ls
  pub unset : (l : Line) → Memᴰ l ls → l.offset ≡ 0

-- an outcome of the lines ls
pub record Balanced (ls : List Line) (o : Outcome) : Type 0 where
  -- the offsets of P customers add up to the total, and so do those of the tiers
  pub closed : sum_of closed_by o.lines ≡ o.total
  pub given : sum_of (given_in 1) o.lines + sum_of (given_in 2) o.lines + sum_of (given_in 3) o.lines ≡ o.total
  -- the total is the smaller of what is pending and what the tiers offer; the residue is what stays pending
  pub most : o.total ≡ min (sum_of pending_of ls) (sum_of (offered_in 1) ls + sum_of (offered_in 2) ls + sum_of (offered_in 3) ls)
  pub residue : o.residue + o.total ≡ sum_of pending_of ls
  pub left : o.residue ≡ sum_of pending_of o.lines
  -- a tier gives a lot only where the tiers above it have given all they offer, and lots stay pending only where all have
  pub first : 0 < sum_of (given_in 2) o.lines + sum_of (given_in 3) o.lines + o.residue → sum_of (given_in 1) o.lines ≡ sum_of (offered_in 1) ls
  pub second : 0 < sum_of (given_in 3) o.lines + o.residue → sum_of (given_in 2) o.lines ≡ sum_of (offered_in 2) ls
  pub third : 0 < o.residue → sum_of (given_in 3) o.lines ≡ sum_of (offered_in 3) ls

cond_none : (b : Bool) (n : ℕ) → n ≡ 0 → cond b n 0 ≡ 0
cond_none true n e = e
cond_none false n e = refl

quantity_is : (k : ℕ) (ls : List Line) → quantity k ls ≡ min (sum_of pending_of ls) (sum_of (offered_in k) ls)
unfolding quantity
quantity_is k ls = refl

module _ (ls : List Line) (f : Fresh ls) where
  abbrev second : List Line
  second = tier 1 ls

  abbrev third : List Line
  third = tier 2 second

  abbrev a₁ : Apart ls
  a₁ = f.apart

  a₂ : Apart second
  a₂ = apart_after 1 (omega arith) ls a₁

  a₃ : Apart third
  a₃ = apart_after 2 (omega arith) second a₂

  none_given : (k : ℕ) → sum_of (given_in k) ls ≡ 0
  none_given k = sum_cong (given_in k) (λ l. 0) ls (λ l m. cond_none (eqb (tier_of l.standing) k) l.offset (f.unset l m)) ∙ sum-zero ls

  none_closed : sum_of closed_by ls ≡ 0
  none_closed = sum_cong closed_by (λ l. 0) ls (λ l m. cond_none (is_pending l.standing) l.offset (f.unset l m)) ∙ sum-zero ls

  given₁ : sum_of (given_in 1) (tier 3 third) ≡ quantity 1 ls
  given₁ =
      omega (
        arith,
        none_given 1,
        given_after 1 (omega arith) ls a₁,
        given_others 2 (omega arith) second a₂ 1 (omega arith) (λ e. omega arith),
        given_others 3 (omega arith) third a₃ 1 (omega arith) (λ e. omega arith),
      )

  given₂ : sum_of (given_in 2) (tier 3 third) ≡ quantity 2 second
  given₂ =
      omega (
        arith,
        none_given 2,
        given_others 1 (omega arith) ls a₁ 2 (omega arith) (λ e. omega arith),
        given_after 2 (omega arith) second a₂,
        given_others 3 (omega arith) third a₃ 2 (omega arith) (λ e. omega arith),
      )

  given₃ : sum_of (given_in 3) (tier 3 third) ≡ quantity 3 third
  given₃ =
      omega (
        arith,
        none_given 3,
        given_others 1 (omega arith) ls a₁ 3 (omega arith) (λ e. omega arith),
        given_others 2 (omega arith) second a₂ 3 (omega arith) (λ e. omega arith),
        given_after 3 (omega arith) third a₃,
      )

  all_closed : sum_of closed_by (tier 3 third) ≡ quantity 1 ls + quantity 2 second + quantity 3 third
  all_closed =
      omega (arith, none_closed, closed_after 1 (omega arith) ls a₁, closed_after 2 (omega arith) second a₂, closed_after 3 (omega arith) third a₃)

  pub balanced : Balanced ls (cascade ls)
  unfolding cascade
  balanced =
      let p₁ = pending_after 1 ls a₁.distinct in
      let p₂ = pending_after 2 second a₂.distinct in
      let p₃ = pending_after 3 third a₃.distinct in
      let q₁ = quantity_is 1 ls in
      let q₂ = quantity_is 2 second in
      let q₃ = quantity_is 3 third in
      let o₂ = offered_after 1 ls 2 in
      let o₃ = offered_after 2 second 3 ∙ offered_after 1 ls 3 in
      record {
        closed = all_closed;
        given = omega (arith, given₁, given₂, given₃);
        most = omega arith;
        residue = omega arith;
        left = omega arith;
        first = λ h. omega (arith, given₁, given₂, given₃);
        second = λ h. omega (arith, given₂, given₃);
        third = λ h. omega (arith, given₃);
      }
