-- What a reader knows that has met no stamp on a side below the one before: those on the side come in order.
-- Assumes nothing.
use Rattle.std.specs.Prelude.{ℕ, ◌≤◌, List, [], ◌∷◌}
use Rattle.std.proofs.Common.{arith}
use Rattle.order.specs.Order.{NoneNewer, InOrder}
use Rattle.order.specs.Sorted.{none_below}

module _ {A : Type 0} (stamp : A → ℕ) where
  -- the last has this stamp, or none was met
  pub record Rising (last : ℕ) (ts : List A) : Type 0 where
    pub none : NoneNewer stamp last ts
    pub order : InOrder stamp ts

  pub rising_none : Rising 0 []
  rising_none = record { none = tt; order = tt }

  pub rising_more : (last : ℕ) (t : A) (ts : List A) → last ≤ stamp t → Rising last ts → Rising (stamp t) (t ∷ ts)
  rising_more last t ts h r =
      let n = none_below stamp last (stamp t) ts h r.none in
      record { none = (omega arith, n); order = (n, r.order) }
