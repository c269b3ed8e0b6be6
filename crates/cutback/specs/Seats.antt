-- docs/POSITION-LIMIT.md. Request [13], "the fewest whole lots that reach the limit or below, from the largest seat fully before the next,
-- equal seats by smaller code".
-- Assumes nothing.
use Rattle.std.specs.Prelude.{ℕ, ◌-◌, min, Bool, cond, ◌&&◌, ◌||◌, List, [], ◌∷◌, map, ltb, eqb}
use Rattle.rules.specs.Codes.{smaller}
use Rattle.rules.specs.Division.{sum_of}

pub record Seat : Type 0 where
  pub code : List ℕ
  pub lots : ℕ

abbrev pub lots_of : Seat → ℕ
lots_of s = s.lots

-- "the seats with their lots"
abbrev pub seats_of : List (List ℕ) → List ℕ → List Seat
seats_of [] lots = []
seats_of (c ∷ cs) [] = []
seats_of (c ∷ cs) (n ∷ ns) = record { code = c; lots = n } ∷ seats_of cs ns

-- "from the largest seat fully before the next, equal seats by smaller code"
abbrev pub goes_before : Seat → Seat → Bool
goes_before a b = ltb b.lots a.lots || eqb b.lots a.lots && smaller a.code b.code

-- the lots of all seats that go before this one
unfoldable pub lots_before : List Seat → Seat → ℕ
lots_before all s = sum_of (λ t. cond (goes_before t s) t.lots 0) all

-- what is held above what may stay: "At or under the limit every cut is 0"
unfoldable pub excess : ℕ → List Seat → ℕ
excess most all = sum_of lots_of all - most

-- all of the seat, or what is still needed where the seats before it are cut
abbrev pub cut_of : ℕ → List Seat → Seat → ℕ
cut_of over all s = min s.lots (over - lots_before all s)

-- "The answer is in the order in which the seats were given."
unfoldable pub cuts_of : ℕ → List Seat → List ℕ
cuts_of most all = map (cut_of (excess most all) all) all
