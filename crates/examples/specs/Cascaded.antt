-- Document 01's listing in columns: the contracts of the cascade's tier and run, as the kit publishes them of the source, allow one answer to it. So both
-- sides divided by what is pending, tier 1 alone, the grand total divided once, ties by place and an offset that the next tier overwrites are not it.
-- Assumes nothing.
use Rattle.std.specs.Prelude.{ℕ, ◌≡◌, refl, List, [], ◌∷◌, get_or, take, replicate}
use Rattle.std.proofs.Common.{sym, ap, ◌∙◌, arith}
use contract.Lifetimes.{Lfts}
use denote.Triple.Entry.{Args}
use denote.Triple.Clauses.{AtExit}
use Rattle.rules.specs.Limits.{most_customers}
use Rattle.rules.specs.Division.{left_over_of, rank, share_of, share}
use Rattle.rules.specs.Cascade.{quantity, after}
use Rattle.cascade.specs.declared.Cascade.{Cascade}
use Rattle.cascade.specs.Columns.{lines_of}
use Rattle.cascade.specs.State.{after_tier}
use Rattle.cascade.proofs as cascade
use Rattle.cascade.specs.contracts as cascade_contracts

-- nothing is offset yet
abbrev first : Cascade
first = record { offset = replicate most_customers 0; total = 0 }

-- W3, P2, W1, P1 and W2: their keys are in order as their codes are
module _ (κs : Lfts 3) (a : Args cascade_contracts.Cascade.run.signature κs) (r : Cascade) (s : AtExit cascade_contracts.Cascade.run.ended κs) (h : cascade.Cascade.run.Reads.Learnt κs a r s)
    (state : a.0 ≡ first) (keys : a.1.0.now ≡ 5 ∷ 2 ∷ 3 ∷ 1 ∷ 4 ∷ []) (standings : a.1.1.0.now ≡ 3 ∷ 0 ∷ 1 ∷ 0 ∷ 2 ∷ [])
    (stakes : a.1.1.1.0.now ≡ 1 ∷ 4 ∷ 3 ∷ 6 ∷ 5 ∷ []) (count : a.1.1.1.1.0 ≡ 5) where
  pub cascaded : (take 5 r.offset ≡ 1 ∷ 3 ∷ 3 ∷ 6 ∷ 5 ∷ []) × (r.total ≡ 9)
  unfolding after_tier lines_of quantity after share share_of left_over_of rank
  cascaded = rw (h, state, keys, standings, stakes, count) (refl, refl)

  offsets : (l : List ℕ) → take 5 r.offset ≡ l → (i : ℕ) → get_or l i 0 ≡ get_or (1 ∷ 3 ∷ 3 ∷ 6 ∷ 5 ∷ []) i 0
  offsets l e i = ap (λ m. get_or m i 0) (sym e ∙ cascaded.0)

  pub not_tier_1_alone : take 5 r.offset ≡ 0 ∷ 1 ∷ 3 ∷ 2 ∷ 0 ∷ [] → ⊥
  not_tier_1_alone e = omega (arith, offsets _ e 4)

  -- the grand total of 9 lots over pending 4 and 6; and by place P2 takes P1's lot in tier 3: the same lots
  pub not_once_nor_by_place : take 5 r.offset ≡ 1 ∷ 4 ∷ 3 ∷ 5 ∷ 5 ∷ [] → ⊥
  not_once_nor_by_place e = omega (arith, offsets _ e 1)

  -- tier 3's lot alone
  pub not_overwritten : take 5 r.offset ≡ 1 ∷ 0 ∷ 0 ∷ 1 ∷ 0 ∷ [] → ⊥
  not_overwritten e = omega (arith, offsets _ e 1)

  -- an invented total
  pub not_another_total : r.total ≡ 10 → ⊥
  not_another_total e = omega (arith, cascaded.1)

-- the first tier by itself, of the same columns: W1 gives 3, P1 closes 2 and P2 closes 1
module _ (κs : Lfts 3) (a : Args cascade_contracts.Cascade.tier.signature κs) (r : Cascade) (s : AtExit cascade_contracts.Cascade.tier.ended κs) (h : cascade.Cascade.tier.Reads.Learnt κs a r s)
    (state : a.0 ≡ first) (keys : a.1.0.now ≡ 5 ∷ 2 ∷ 3 ∷ 1 ∷ 4 ∷ []) (standings : a.1.1.0.now ≡ 3 ∷ 0 ∷ 1 ∷ 0 ∷ 2 ∷ [])
    (stakes : a.1.1.1.0.now ≡ 1 ∷ 4 ∷ 3 ∷ 6 ∷ 5 ∷ []) (count : a.1.1.1.1.0 ≡ 5) (k : a.1.1.1.1.1.0 ≡ 1) where
  pub tiered : (take 5 r.offset ≡ 0 ∷ 1 ∷ 3 ∷ 2 ∷ 0 ∷ []) × (r.total ≡ 3)
  unfolding after_tier lines_of quantity after share share_of left_over_of rank
  tiered = rw (h, state, keys, standings, stakes, count, k) (refl, refl)

  pub not_both_by_pending : take 5 r.offset ≡ 0 ∷ 2 ∷ 0 ∷ 4 ∷ 0 ∷ [] → ⊥
  not_both_by_pending e = omega (arith, ap (λ l. get_or l 2 0) (sym e ∙ tiered.0))

  pub not_one_more : r.total ≡ 4 → ⊥
  not_one_more e = omega (arith, tiered.1)
