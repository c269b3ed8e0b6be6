-- "so long as trades of equal day and minute keep their order": a group's trades rearranged by their indices in the group are a group with the same
-- fields of every stamp in the same order. So the rearrangement in the request's words is one of those that demand 3 is about.
-- Assumes nothing.
use Rattle.std.specs.Prelude.{ℕ, ◌≡◌, List, [], ◌∷◌, ◌++◌, length}
use Rattle.std.proofs.Common.{sym, ap, ◌∙◌, arith}
use Rattle.rules.specs.declared.Terms.{Terms}
use Rattle.rules.specs.Division.{sum_of}
use Rattle.rules.specs.Report.{joined}
use Rattle.rules.specs.Book.{Customer}
use Rattle.laws.specs.Sums.{sum-append}
use Rattle.laws.specs.All2.{All2}
use Rattle.order.specs.Order.{Rearranged as InOtherOrder}
use Rattle.consequences.specs.Rearranged.{cut_in, picked, before_trades, from_trades, front_of, trades_of, made_at, Retraded}
use Rattle.consequences.specs.Reordered.{Reordered, stamp_at, reordered_same}
use Rattle.consequences.specs.Described.{Describes}
use Rattle.consequences.specs.Front.{front_trades, no_trade, none_before, split_append}
use Rattle.consequences.specs.WholeCuts.{broken, cut_again}
use Rattle.consequences.specs.Retrade.{sum_other}
use Rattle.consequences.specs.Same.{all_whole, only_trades}

-- a group with its trades in the order of some indices
abbrev pub reindexed : List ℕ → List ℕ → List ℕ
reindexed g is = joined (λ k. k) (front_of g ++ picked [] (trades_of g) is)

-- every trade of a group once, and of equal day and minute the one that stands first in the group first
abbrev pub Reindexes : List ℕ → List ℕ → Type 0
Reindexes g is = Reordered (stamp_at made_at [] (trades_of g)) (length (trades_of g)) is

module _ (terms : Terms) (g : List ℕ) (c : Customer) (d : Describes terms g c) (is : List ℕ) (r : Reindexes g is) where
  abbrev us : List (List ℕ)
  us = picked [] (trades_of g) is

  other : InOtherOrder made_at (trades_of g) us
  other = reordered_same made_at [] (trades_of g) is r

  whole : sum_of broken (front_of g ++ us) ≡ 0
  whole =
      omega (
        arith,
        sum-append broken (front_of g) us,
        sum-append broken (front_of g) (trades_of g),
        sum_other made_at broken (trades_of g) us other,
        ap (sum_of broken) (front_trades (cut_in (length g) g)),
        all_whole terms g c d,
      )

  new_cuts : cut_in (length (reindexed g is)) (reindexed g is) ≡ front_of g ++ us
  new_cuts = cut_again (length (reindexed g is)) (front_of g ++ us) whole (omega arith)

  -- the front is as it was, and behind it are trades
  parted : (before_trades (front_of g ++ us) ≡ front_of g) × (from_trades (front_of g ++ us) ≡ us)
  parted =
      split_append (front_of g) us (none_before (cut_in (length g) g))
      (sym (sum_other made_at no_trade (trades_of g) us other) ∙ only_trades terms g c d)

  pub reindexed_retraded : Retraded g (reindexed g is)
  reindexed_retraded = record { front = sym (ap before_trades new_cuts ∙ parted.0); trades = rw (new_cuts, parted.1) other }

-- some groups, each with its trades in the order of its own indices
abbrev pub each_reindexed : List (List ℕ) → List (List ℕ) → List (List ℕ)
each_reindexed [] js = []
each_reindexed (g ∷ gs) [] = []
each_reindexed (g ∷ gs) (is ∷ js) = reindexed g is ∷ each_reindexed gs js

pub each_retraded : (terms : Terms) (gs : List (List ℕ)) (cs : List Customer) → All2 (Describes terms) gs cs → (js : List (List ℕ)) → All2 Reindexes gs js → All2 Retraded gs (each_reindexed gs js)
each_retraded terms [] cs d js r = tt
each_retraded terms (g ∷ gs) [] d js r = absurd d
each_retraded terms (g ∷ gs) (c ∷ cs) d [] r = absurd r
each_retraded terms (g ∷ gs) (c ∷ cs) d (is ∷ js) r = (reindexed_retraded terms g c d.0 is r.0, each_retraded terms gs cs d.1 js r.1)
