-- Nobody's offset after the three tiers is above what it had pending and offers: what a tier closes was pending before, what it gives was offered
-- in that tier, and a line offers in one tier at most.
-- Assumes nothing.
use Rattle.std.specs.Prelude.{ℕ, ◌+◌, ◌≤◌, ◌<◌, ◌≡◌, cond, List, eqb, get_or}
use Rattle.std.proofs.Common.{◌∙◌}
use native.Mathlib.Omega.{arith}
use Rattle.std.proofs.Math.ListN.{length, length-map}
use Rattle.rules.specs.declared.Standing.{Standing}
use Rattle.rules.specs.declared.Standing.TheVariants.{Pending, Tier1, Tier2, Tier3, Neither}
use Rattle.rules.specs.Cascade.{Line, code_of, tier_of, pending_of, offered_in, quantity, after, tier, cascade}
use Rattle.laws.specs.Indices.{get_d_in}
use Rattle.laws.specs.Division.{share_at_most}

offered_once : (s : Standing) (n : ℕ) → cond (eqb (tier_of s) 1) n 0 + cond (eqb (tier_of s) 2) n 0 + cond (eqb (tier_of s) 3) n 0 ≤ n
offered_once Pending n = omega arith
offered_once Tier1 n = omega arith
offered_once Tier2 n = omega arith
offered_once Tier3 n = omega arith
offered_once Neither n = omega arith

module _ (k : ℕ) (ls : List Line) (l : Line) where
  capped_after : (after k ls l).offset + (after k ls l).pending ≤ l.offset + l.pending + offered_in k l
  unfolding after quantity
  capped_after =
      omega (
        arith,
        share_at_most code_of (offered_in k) (quantity k ls) ls (omega arith) l,
        share_at_most code_of pending_of (quantity k ls) ls (omega arith) l,
      )

module _ (ls : List Line) where
  abbrev second : List Line
  second = tier 1 ls

  abbrev third : List Line
  third = tier 2 second

  -- a line after the three tiers
  abbrev pub final : Line → Line
  final l = after 3 third (after 2 second (after 1 ls l))

  pub final_at : (i : ℕ) (d : Line) → i < length ls → get_or (cascade ls).lines i d ≡ final (get_or ls i d)
  unfolding cascade
  final_at i d h =
      let h₂ : i < length second = rw (length-map ls (after 1 ls)) h in
      let h₃ : i < length third = rw (length-map second (after 2 second)) h₂ in
      rw (get_d_in (after 3 third) third i d d h₃, get_d_in (after 2 second) second i d d h₂, get_d_in (after 1 ls) ls i d d h)

  pub final_length : length (cascade ls).lines ≡ length ls
  unfolding cascade
  final_length = length-map third (after 3 third) ∙ length-map second (after 2 second) ∙ length-map ls (after 1 ls)

  pub capped : (l : Line) → (final l).offset ≤ l.offset + l.pending + l.offered
  unfolding after
  capped l =
      omega (
        arith,
        capped_after 1 ls l,
        capped_after 2 second (after 1 ls l),
        capped_after 3 third (after 2 second (after 1 ls l)),
        offered_once l.standing l.offered,
      )
