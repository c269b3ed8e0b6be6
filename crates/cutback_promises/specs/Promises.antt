-- Request [13], the promises on cuts.
-- Assumes nothing.
use Prim.Native.Nat.{ℕ, ◌-◌, ◌≤◌, ◌<◌, min}
use Rattle.std.specs.Prelude.{◌≡◌, true, cond}
use Rattle.std.proofs.Math.Path.{ap}
use Rattle.std.proofs.Common.{ap₂, ◌∙◌}
use mathlib.Core.List.{List, map, Memᴰ}
use native.Mathlib.Omega.{arith}
use Rattle.rules.specs.Division.{sum_of}
use Rattle.laws.specs.ByTest.{by_test}
use Rattle.laws.specs.Sums.{sum-map}
use Rattle.cutback_promises.specs.Sorted.{before_not, before_trans, total_cut, seats_apart, sum_gap}
use Rattle.cutback.specs.Limit.{may_stay}
use Rattle.cutback.specs.Seats.{Seat, lots_of, seats_of, goes_before, lots_before, excess, cut_of, cuts_of}
use Rattle.cutback.specs.Judge.{Cut, judge}
use Rattle.cutback.proofs.Judging.{accepted}

-- the same seats in another order: every sum over them is the same
pub record Same (l m : List Seat) : Type 0 where
  pub sums : (f : Seat → ℕ) → sum_of f l ≡ sum_of f m

-- "the order in which the seats are given does not matter": what is cut at a seat is the same
pub order_free : (most : ℕ) (l m : List Seat) → Same l m → (s : Seat) → cut_of (excess most l) l s ≡ cut_of (excess most m) m s
unfolding excess lots_before
order_free most l m same s = ap₂ (λ over before. min s.lots (over - before)) (ap (λ n. n - most) (same.sums lots_of)) (same.sums (λ t. cond (goes_before t s) t.lots 0))

-- no seat is cut by more than it has
pub at_most : (over : ℕ) (l : List Seat) (s : Seat) → cut_of over l s ≤ s.lots
at_most over l s = omega arith

-- the cuts of an accepted call are those of its seats, in the order given
pub are_cuts : (kind metal : List ℕ) (grams : ℕ) (codes : List (List ℕ)) (lots cuts : List ℕ) → judge kind metal grams codes lots ≡ Cut cuts →
    cuts ≡ map (cut_of (excess (may_stay kind metal grams) (seats_of codes lots)) (seats_of codes lots)) (seats_of codes lots)
unfolding cuts_of
are_cuts kind metal grams codes lots cuts e = (accepted kind metal grams codes lots cuts e).cut_so

-- what is cut in all is what is held above what may stay
module _ (kind metal : List ℕ) (grams : ℕ) (codes : List (List ℕ)) (lots cuts : List ℕ) (e : judge kind metal grams codes lots ≡ Cut cuts) where
  abbrev seats : List Seat
  seats = seats_of codes lots

  abbrev most : ℕ
  most = may_stay kind metal grams

  cut_in_all : sum_of (λ n. n) cuts ≡ sum_of lots_of seats - most
  unfolding excess
  cut_in_all =
      ap (sum_of (λ n. n)) (are_cuts kind metal grams codes lots cuts e)
      ∙ sum-map (λ n. n) (cut_of (excess most seats) seats) seats
      ∙ total_cut seats (seats_apart codes lots (accepted kind metal grams codes lots cuts e).clear.codes) (excess most seats)
      ∙ less
    where
      less : min (sum_of lots_of seats - most) (sum_of lots_of seats) ≡ sum_of lots_of seats - most
      less = omega arith

  -- "reach the limit or below": what stays is at most what may stay
  pub stays : sum_of lots_of seats - sum_of (λ n. n) cuts ≤ most
  stays = omega (arith, cut_in_all)

  -- "the fewest whole lots": with one lot less cut, more than may stay would be left
  pub fewest : 0 < sum_of (λ n. n) cuts → most < sum_of lots_of seats - (sum_of (λ n. n) cuts - 1)
  fewest h = omega (arith, cut_in_all)

-- "from the largest seat fully before the next": where a seat is cut at all, every seat that goes before it is cut whole
pub whole_first : (over : ℕ) (l : List Seat) (s t : Seat) → Memᴰ t l → goes_before t s ≡ true → 0 < cut_of over l s → cut_of over l t ≡ t.lots
unfolding lots_before
whole_first over l s t m h k =
    let gap = sum_gap (λ u. cond (goes_before u t) u.lots 0) (λ u. cond (goes_before u s) u.lots 0) l below t m in
    let own : cond (goes_before t t) t.lots 0 ≡ 0 = rw (before_not t) in
    let all : cond (goes_before t s) t.lots 0 ≡ t.lots = rw h in
    omega (arith, gap, own, all)
  where
    below : (u : Seat) → cond (goes_before u t) u.lots 0 ≤ cond (goes_before u s) u.lots 0
    below u = by_test (goes_before u t) (λ e. rw (e, before_trans u t s e h) (omega arith)) (λ e. rw e (omega arith))
