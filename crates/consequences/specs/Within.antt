-- What the cascade does to each line: a pending line's offset is what went from its pending lots, a tier line gives at most what it offers,
-- and whoever is neither has no offset.
-- Assumes nothing.
use Rattle.std.specs.Prelude.{ℕ, ◌+◌, ◌≤◌, ◌<◌, ◌≡◌, refl, cond, true, false, List, [], ◌∷◌, map, eqb, get_or}
use Rattle.std.proofs.Common.{ap, ◌∙◌, ne_eqb}
use native.Mathlib.Omega.{arith}
use Rattle.std.proofs.Math.ListN.{length, length-map}
use Rattle.rules.specs.declared.Standing.{Standing}
use Rattle.rules.specs.declared.Standing.TheVariants.{Pending, Tier1, Tier2, Tier3, Neither}
use Rattle.rules.specs.Cascade.{Line, code_of, tier_of, offered_in, after, tier, cascade}
use Rattle.consequences.specs.Rearranged.{nobody}
use Rattle.laws.specs.Indices.{get_d_in, get_d_mem}
use Rattle.consequences.specs.Tiers.{gives_at_most}
use Rattle.consequences.specs.Offsets.{is_pending, pending_step, tier_step}
use Rattle.consequences.specs.Balance.{Fresh}

-- a line before the cascade and after it
pub record Within (before after : Line) : Type 0 where
  pub code : after.code ≡ before.code
  pub seats : after.seats ≡ before.seats
  pub standing : after.standing ≡ before.standing
  pub pending : before.standing ≡ Pending → after.offset + after.pending ≡ before.pending
  pub offered : is_pending before.standing ≡ false → after.offset ≤ before.offered
  pub neither : before.standing ≡ Neither → after.offset ≡ 0

-- nobody's offset exceeds what it has pending and offers
pub within_stake : (s : Standing) (before after : Line) → before.standing ≡ s → Within before after → after.offset ≤ before.pending + before.offered
within_stake Pending before after e w = omega (arith, w.pending e)
within_stake Tier1 before after e w = omega (arith, w.offered (ap is_pending e))
within_stake Tier2 before after e w = omega (arith, w.offered (ap is_pending e))
within_stake Tier3 before after e w = omega (arith, w.offered (ap is_pending e))
within_stake Neither before after e w = omega (arith, w.offered (ap is_pending e))

-- a line offers in one tier at most
offered_once : (s : Standing) (n : ℕ) → cond (eqb (tier_of s) 1) n 0 + cond (eqb (tier_of s) 2) n 0 + cond (eqb (tier_of s) 3) n 0 ≤ n
offered_once Pending n = omega arith
offered_once Tier1 n = omega arith
offered_once Tier2 n = omega arith
offered_once Tier3 n = omega arith
offered_once Neither n = omega arith

module _ (ls : List Line) where
  abbrev second : List Line
  second = tier 1 ls

  abbrev third : List Line
  third = tier 2 second

  -- a line after the three tiers
  abbrev final : Line → Line
  final l = after 3 third (after 2 second (after 1 ls l))

  final_at : (i : ℕ) → i < length ls → get_or (cascade ls).lines i nobody ≡ final (get_or ls i nobody)
  unfolding cascade
  final_at i h =
      let h₂ : i < length second = rw (length-map ls (after 1 ls)) h in
      let h₃ : i < length third = rw (length-map second (after 2 second)) h₂ in
      rw (get_d_in (after 3 third) third i nobody nobody h₃, get_d_in (after 2 second) second i nobody nobody h₂, get_d_in (after 1 ls) ls i nobody nobody h)

  module _ (l : Line) (unset : l.offset ≡ 0) where
    pending_all : is_pending l.standing ≡ true → (final l).offset + (final l).pending ≡ l.pending
    unfolding after
    pending_all e =
        omega (
          arith,
          pending_step 1 ls l (omega arith) e,
          pending_step 2 second (after 1 ls l) (omega arith) e,
          pending_step 3 third (after 2 second (after 1 ls l)) (omega arith) e,
        )

    offset_all : l.pending ≡ 0 → (final l).offset ≤ offered_in 1 l + offered_in 2 l + offered_in 3 l
    unfolding after
    offset_all e =
        omega (
          arith,
          tier_step 1 ls l e,
          gives_at_most 1 ls l,
          tier_step 2 second (after 1 ls l) (omega arith),
          gives_at_most 2 second (after 1 ls l),
          tier_step 3 third (after 2 second (after 1 ls l)) (omega arith),
          gives_at_most 3 third (after 2 second (after 1 ls l)),
        )

    none_all : l.standing ≡ Neither → l.pending ≡ 0 → (final l).offset ≡ 0
    none_all e h =
        let n : (k : ℕ) → (0 ≡ k → ⊥) → offered_in k l ≡ 0 = λ k z. rw (e, ne_eqb 0 k z) in
        omega (arith, offset_all h, n 1 (λ z. omega arith), n 2 (λ z. omega arith), n 3 (λ z. omega arith))

    within_final : (is_pending l.standing ≡ false → l.pending ≡ 0) → Within l (final l)
    unfolding after
    within_final h =
        record {
          code = refl;
          seats = refl;
          standing = refl;
          pending = λ e. pending_all (ap is_pending e);
          offered = λ e. omega (arith, offset_all (h e), offered_once l.standing l.offered);
          neither = λ e. none_all e (h (ap is_pending e));
        }

  pub within : Fresh ls → (i : ℕ) → i < length ls → Within (get_or ls i nobody) (get_or (cascade ls).lines i nobody)
  within f i h =
      let m = get_d_mem ls i nobody h in
      rw (final_at i h) (within_final (get_or ls i nobody) (f.unset _ m) (f.apart.others _ m))

  pub as_many : length (cascade ls).lines ≡ length ls
  unfolding cascade
  as_many = length-map third (after 3 third) ∙ length-map second (after 2 second) ∙ length-map ls (after 1 ls)

-- everybody keeps its code and its place
codes_after : (k : ℕ) (all ls : List Line) → map code_of (map (after k all) ls) ≡ map code_of ls
unfolding after
codes_after k all [] = refl
codes_after k all (l ∷ ls) = ap (λ (vs : List (List ℕ)). l.code ∷ vs) (codes_after k all ls)

pub codes_cascade : (ls : List Line) → map code_of (cascade ls).lines ≡ map code_of ls
unfolding cascade
codes_cascade ls = codes_after 3 (tier 2 (tier 1 ls)) (tier 2 (tier 1 ls)) ∙ codes_after 2 (tier 1 ls) (tier 1 ls) ∙ codes_after 1 ls ls
