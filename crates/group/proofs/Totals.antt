-- What the sums over a group's trades say of their newest lots: by taking off the oldest where they come in order, and how many there are.
-- Assumes nothing.
use Prim.Native.Nat.{ℕ, ◌-◌, ◌*◌, ◌≤◌}
use mathlib.Core.Path.{◌≡◌, refl, sym, ap, subst, ◌∙◌}
use mathlib.Core.List.{List, []}
use mathlib.Core.Bool.{Bool, true}
use native.Mathlib.Nat.{sub-zero}
use native.Mathlib.Omega.{arith}
use lib.IntN.{ℤ, pos, nat_abs, ◌-ℤ◌, +ℤ_idl}
use Rattle.rules.specs.declared.Fen.{Fen}
use Rattle.rules.specs.declared.Trade.{Trade}
use Rattle.rules.specs.Division.{sum_of}
use Rattle.rules.specs.Fields.{Field}
use Rattle.rules.specs.declared.Terms.{Terms}
use Rattle.rules.specs.Book.{opened, begun, no_terms, with_decimals, settled}
use Rattle.rules.specs.Standing.{gain_from}
use Rattle.laws.specs.Gains.{lots_on, oldest_gain, newest_first, newest_size}
use Rattle.order.specs.Order.{in_front, arranged}
use Rattle.order.specs.Sums.{sum_front}
use Rattle.order.specs.Trades.{when, opened_sum}
use Rattle.order.specs.All.{gain_of_all}
use Rattle.order.specs.Gains.{gain_in_order}
use Rattle.trades.specs.declared.TradesAt.TheVariants.{Closed}
use Rattle.trades.specs.Trades.{none_yet, trades_from}
use Rattle.trades.specs.Walk.{trades_in, good_in, oldest_of}
use Rattle.trades.proofs.Oldest.{oldest_front}
use Rattle.trades.proofs.Adds.{adds_none}
use Rattle.trades.proofs.Readable.{closed_good}
use Rattle.trades.proofs.Runs.{Ends, Means, run_means}
use Rattle.trades.specs.Walk.{newest_of}

module _ (x : ℕ) (long : Bool) (s : Fen) (first : ℕ) (fs : List Field) (place sum : ℕ) (gain : ℤ) (ordered : Bool)
    (reads : trades_from x long s first 0 (pos 0) none_yet fs ≡ Closed place sum gain ordered) where
  -- whoever's they are, under whatever other terms
  abbrev terms : Terms
  terms = settled (with_decimals no_terms x) s.0

  ends : Ends long terms 0 (begun []) [] first fs place sum gain ordered
  ends = subst (Means long terms 0 (begun []) [] first fs) reads (run_means long terms 0 (begun []) [] first 0 (pos 0) none_yet fs (adds_none long s (begun []) refl))

  pub lots_are : sum ≡ sum_of (lots_on long) (trades_in fs)
  lots_are =
      ends.lots ∙ ap (opened long) ends.stand ∙ opened_sum long (in_front (trades_in fs) []) ∙ sum_front (lots_on long) (trades_in fs) []
      ∙ omega arith

  -- nothing can be wrong with one of them
  pub all_good : good_in fs ≡ true
  all_good = closed_good x long s place sum gain ordered fs first 0 (pos 0) none_yet reads

  -- where all count, these are the newest
  pub all_newest : gain ≡ newest_of long s sum fs
  all_newest =
      ends.gained ∙ sym (gain_of_all long s ends.latest)
      ∙ (λ i. gain_from long s (sym ends.lots i) (arranged when (ends.stand i)))

  -- newest first, by what is left of all when the oldest are taken off
  pub newest_left : ordered ≡ true → (need : ℕ) → need ≤ sum → gain -ℤ oldest_of long s (sum - need) (trades_in fs) ≡ newest_of long s need fs
  unfolding oldest_gain
  newest_left kept need h =
      let ts = ends.latest in
      let k : opened long ts - need ≡ sum - need = ap (λ (n : ℕ). n - need) (sym ends.lots) in
      let o : oldest_gain long s (opened long ts - need) ts ≡ oldest_of long s (sum - need) (trades_in fs) =
      ap (oldest_gain long s (opened long ts - need)) ends.stand ∙ oldest_front long s (trades_in fs) [] (opened long ts - need) ∙ +ℤ_idl _
      ∙ ap (λ (n : ℕ). oldest_of long s n (trades_in fs)) (sub-zero _ ∙ k) in
      sym (ap (λ (l : List Trade). gain_from long s need (arranged when l)) (sym ends.stand) ∙ gain_in_order long s need ts (ends.order kept)
      ∙ newest_first long s need ts (omega (arith, ends.lots)) ∙ (λ i. sym ends.gained i -ℤ o i))

  -- at most the highest price for each lot
  pub newest_most : s.0 ≤ 9_999_999 → (need : ℕ) → nat_abs (newest_of long s need fs) ≤ 9_999_999 * need
  newest_most hs need =
      subst (λ (ts : List Trade). nat_abs (gain_from long s need ts) ≤ 9_999_999 * need) (ends.held ∙ ap (arranged when) ends.stand)
      (newest_size long s hs need ends.priced)
