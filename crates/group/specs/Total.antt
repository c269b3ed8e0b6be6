-- What the reader of a total gain may take for granted: the sums over a group's trades, which cover what is needed.
-- Assumes nothing.
use Rattle.std.specs.Prelude.{ℕ, ◌≤◌, ◌≡◌, List, Bool, drop, ℤ, pos}
use Rattle.rules.specs.declared.Fen.{Fen}
use Rattle.rules.specs.Fields.{fields_of}
use Rattle.trades.specs.declared.TradesAt.TheVariants.{Closed}
use Rattle.trades.specs.Trades.{none_yet, trades_from}

pub record Summed (x : ℕ) (long : Bool) (s : Fen) (book : List ℕ) (first need opened : ℕ) (gain : ℤ) (ordered : Bool) : Type 0 where
  pub place : ℕ
  pub reads : trades_from x long s first 0 (pos 0) none_yet (fields_of (drop first book)) ≡ Closed place opened gain ordered
  pub covers : need ≤ opened
  pub few : need ≤ 4_000_000
