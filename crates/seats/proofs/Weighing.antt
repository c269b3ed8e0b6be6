-- The keys and the weights of the first seats, as a loop lays them out: one seat more is its key and its weight in the next places.
-- Assumes nothing.
use Prim.Native.Nat.{ℕ, ◌+◌, ◌≤◌, ◌<◌}
use mathlib.Core.Path.{◌≡◌, refl, sym, ap, ◌∙◌}
use mathlib.Core.Bool.{Bool, true, false}
use mathlib.Core.List.{List}
use native.Mathlib.Omega.{arith}
use lib.ListN.{length, set}
use Rattle.rules.specs.declared.Standing.{Standing}
use Rattle.rules.specs.declared.Standing.TheVariants.{Pending, Tier1, Tier2, Tier3, Neither}
use Rattle.rules.specs.Division.{sum_of}
use Rattle.rules.specs.Book.{Seat}
use Rattle.rules.specs.Seats.{held_on, seat_weight}
use Rattle.laws.specs.Keys.{key_of}
use Rattle.laws.specs.Sums.{up_to}
use Rattle.laws.specs.Indices.{sum_more, sum_bound}
use Rattle.laws.specs.Filled.{Done, done_none, done_more}
use Rattle.laws.specs.Seats.{SaneSeat, SaneSeats}
use Rattle.seats.specs.declared.Places.{Places}
use Rattle.seats.specs.Places.{code_in, seat_in}
use Rattle.seats.specs.Dealt.{seats_at, seat_of, Weighed}
use Rattle.seats.specs.Walk.{sane_at, Behind, Next, behind_none}

held_le : (long : Bool) (s : Seat) → SaneSeat s → held_on long s.position ≤ 1_000_000
held_le true s h = h.long
held_le false s h = h.short

pub weight_le : (standing : Standing) (long : Bool) (s : Seat) → SaneSeat s → seat_weight standing long s ≤ 1_000_000
weight_le Pending long s h = h.unfilled
weight_le Tier1 long s h = held_le long s h
weight_le Tier2 long s h = held_le long s h
weight_le Tier3 long s h = held_le long s h
weight_le Neither long s h = omega arith

module _ (s : List ℕ) (at : ℕ) (standing : Standing) (long : Bool) where
  abbrev pub key_on : ℕ → ℕ
  key_on i = key_of (seat_of (seats_at s at) i).code

  abbrev pub weight_on : ℕ → ℕ
  weight_on i = seat_weight standing long (seat_of (seats_at s at) i)

  pub record Weighing (keys₀ keyed lots₀ laid : List ℕ) (place count weights : ℕ) : Type 0 where
    pub behind : Behind s at count place
    pub keys : Done key_on count keys₀ keyed
    pub lots : Done weight_on count lots₀ laid
    pub sum : weights ≡ sum_of weight_on (up_to count)

  pub none_yet : (keys₀ lots₀ : List ℕ) → Weighing keys₀ keys₀ lots₀ lots₀ at 0 0
  none_yet keys₀ lots₀ = record { behind = behind_none s at; keys = done_none keys₀; lots = done_none lots₀; sum = refl }

  module _ {keys₀ keyed lots₀ laid : List ℕ} {place count weights : ℕ} (w : Weighing keys₀ keyed lots₀ laid place count weights) where
    pub one_more : {p : Places} {key weight : ℕ} → Next s at count p → key ≡ key_of (code_in s p) → weight ≡ seat_weight standing long (seat_in s p) →
        count < length keys₀ → count < length lots₀ →
        Weighing keys₀ (set keyed count key) lots₀ (set laid count weight) p.next (count + 1) (weights + weight)
    one_more n k x h l =
        let here = n.here _ in
        let e = x ∙ ap (seat_weight standing long) (sym here) in
        record {
          behind = n.behind;
          keys = done_more w.keys h (k ∙ ap (λ (t : Seat). key_of t.code) (sym here));
          lots = done_more w.lots l e;
          sum = rw sum_more (omega (arith, w.sum, e));
        }

    pub weighed : count ≡ length (seats_at s at) → Weighed (seats_at s at) (seat_weight standing long) keys₀ keyed lots₀ laid count weights
    weighed e = record { all = e; keys = w.keys.whole; lots = w.lots.whole; sum = w.sum }

    pub sum_le : SaneSeats (seats_at s at) → count ≤ length (seats_at s at) → weights ≤ 4_000_000
    sum_le h l =
        omega (
          arith,
          w.sum,
          h.few,
          sum_bound weight_on 1_000_000 count (λ i b. weight_le standing long (seat_of (seats_at s at) i) (sane_at (seats_at s at) h.all i _ (omega arith))),
        )
