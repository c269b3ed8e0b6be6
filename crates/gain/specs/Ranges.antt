-- What the callers ensure: figures of the ranges that document 01 gives, so that no product leaves an i64. Lots go up to
-- 4,000,000: a customer's, over at most four seats.
-- Assumes nothing.
use Rattle.std.specs.Prelude.{ℕ, ◌*◌, ◌≤◌, ◌≡◌, Bool, ℤ, nat_abs}
use Rattle.rules.specs.declared.Fen.{Fen}
use Rattle.rules.specs.declared.Lots.{Lots}
use Rattle.rules.specs.declared.Rate.{Rate}
use Rattle.rules.specs.declared.Terms.{Terms}
use Rattle.rules.specs.declared.Position.{Position}
use Rattle.rules.specs.Standing.{gain_of}

-- some lots at one price
pub record AtPrice (s p : Fen) (n : ℕ) : Type 0 where
  pub settlement : s.0 ≤ 9_999_999
  pub price : p.0 ≤ 9_999_999
  pub lots : n ≤ 4_000_000

-- their gain, and its size
pub record Gained (long : Bool) (s p : Fen) (n : ℕ) (gain : ℤ) : Type 0 where
  pub exact : gain ≡ gain_of long s p n
  pub size : nat_abs gain ≤ 9_999_999 * n

-- a total gain beside an edge
pub record AtEdge (g : ℤ) (e : Rate) (s : Fen) (n : Lots) : Type 0 where
  pub total : nat_abs g ≤ 9_999_999 * 4_000_000
  pub edge : e.0 ≤ 99_999
  pub settlement : s.0 ≤ 9_999_999
  pub net : n.0 ≤ 4_000_000

-- the terms, a position, and its total gain
pub record Ranged (terms : Terms) (position : Position) (g : ℤ) : Type 0 where
  pub settlement : terms.settlement.0 ≤ 9_999_999
  pub loss : terms.loss.0 ≤ 99_999
  pub edge1 : terms.edge1.0 ≤ 99_999
  pub edge2 : terms.edge2.0 ≤ 99_999
  pub long : position.long.0 ≤ 4_000_000
  pub short : position.short.0 ≤ 4_000_000
  pub total : nat_abs g ≤ 9_999_999 * 4_000_000
