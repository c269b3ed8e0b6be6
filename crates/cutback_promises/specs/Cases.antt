-- Request [13] on both sides of each edge, computed: one statement about the definitions.
-- Assumes nothing.
use Rattle.std.specs.Prelude.{ℕ, ◌≡◌, refl, List, [], ◌∷◌}
use Prim.Native.String.{String}
use Rattle.rules.specs.Text.{bytes}
use Rattle.rules.specs.Codes.{is_code}
use Rattle.cutback.specs.Limit.{tons}
use Rattle.cutback.specs.Seats.{lots_before, excess, cuts_of}
use Rattle.cutback.specs.Judge.{Verdict, Refused, Cut, judge}

abbrev codes4 : List (List ℕ)
codes4 = bytes "A" ∷ bytes "B" ∷ bytes "C" ∷ bytes "D" ∷ []

abbrev back4 : List (List ℕ)
back4 = bytes "D" ∷ bytes "C" ∷ bytes "B" ∷ bytes "A" ∷ []

abbrev one : List (List ℕ)
one = bytes "P1" ∷ []

abbrev two : List (List ℕ)
two = bytes "P1" ∷ bytes "P2" ∷ []

abbrev ask : String → String → ℕ → List (List ℕ) → List ℕ → Verdict
ask kind metal grams codes lots = judge (bytes kind) (bytes metal) grams codes lots

abbrev asked : List Verdict
asked =
    ask "individual" "silver" 1_000 (bytes "A7" ∷ bytes "B2" ∷ bytes "A10" ∷ bytes "C" ∷ []) (9_000 ∷ 12_000 ∷ 12_000 ∷ 500 ∷ [])
    ∷ ask "corporate" "gold" 1_000 two (800 ∷ 1_200 ∷ [])
    ∷ ask "corporate" "gold" 1_000 two (801 ∷ 1_200 ∷ [])
    ∷ ask "corporate" "gold" 700_000 two (2 ∷ 1 ∷ [])
    ∷ ask "corporate" "gold" 400_000 one (5 ∷ [])
    ∷ ask "corporate" "gold" 400_000 one (6 ∷ [])
    ∷ ask "individual" "gold" 1_000_000 codes4 (1 ∷ 1 ∷ 1 ∷ 1 ∷ [])
    ∷ ask "individual" "gold" 1_000_000 back4 (1 ∷ 1 ∷ 1 ∷ 1 ∷ [])
    ∷ ask "individual" "gold" 1_000 codes4 (100 ∷ 900 ∷ 300 ∷ 200 ∷ [])
    ∷ ask "corporate" "silver" 1 one (1_000_000 ∷ [])
    ∷ ask "corporate" "silver" 1_000_000 one (81 ∷ [])
    ∷ ask "individual" "silver" 999_999 one (21 ∷ [])
    ∷ ask "Corporate" "gold" 0 [] []
    ∷ ask "corporate" "copper" 0 [] []
    ∷ ask "corporate" "gold" 0 (bytes "a" ∷ []) []
    ∷ ask "corporate" "gold" 1_000_001 one (0 ∷ [])
    ∷ ask "corporate" "gold" 1_000 (bytes "A" ∷ bytes "B" ∷ bytes "C" ∷ bytes "D" ∷ bytes "e" ∷ []) (0 ∷ 0 ∷ 0 ∷ 0 ∷ 0 ∷ [])
    ∷ ask "corporate" "gold" 1_000 (bytes "A" ∷ bytes "B" ∷ bytes "C" ∷ bytes "D" ∷ bytes "B" ∷ []) (0 ∷ 0 ∷ 0 ∷ 0 ∷ 0 ∷ [])
    ∷ ask "corporate" "gold" 1_000 one (0 ∷ 0 ∷ [])
    ∷ ask "corporate" "gold" 1_000 [] []
    ∷ ask "corporate" "gold" 1_000 (bytes "A" ∷ bytes "B" ∷ bytes "C" ∷ bytes "D" ∷ bytes "E" ∷ []) (1_000_001 ∷ 0 ∷ 0 ∷ 0 ∷ 0 ∷ [])
    ∷ ask "corporate" "gold" 1_000 two (0 ∷ 1_000_001 ∷ [])
    ∷ ask "corporate" "gold" 1_000 two (0 ∷ [])
    ∷ []

abbrev answers : List Verdict
answers =
    Cut (0 ∷ 1_500 ∷ 12_000 ∷ 0 ∷ [])
    ∷ Cut (0 ∷ 0 ∷ [])
    ∷ Cut (0 ∷ 1 ∷ [])
    ∷ Cut (1 ∷ 0 ∷ [])
    ∷ Cut (0 ∷ [])
    ∷ Cut (1 ∷ [])
    ∷ Cut (1 ∷ 1 ∷ 1 ∷ 0 ∷ [])
    ∷ Cut (0 ∷ 1 ∷ 1 ∷ 1 ∷ [])
    ∷ Cut (0 ∷ 500 ∷ 0 ∷ 0 ∷ [])
    ∷ Cut (0 ∷ [])
    ∷ Cut (1 ∷ [])
    ∷ Cut (1 ∷ [])
    ∷ Refused 40
    ∷ Refused 40
    ∷ Refused 41
    ∷ Refused 41
    ∷ Refused 42
    ∷ Refused 42
    ∷ Refused 42
    ∷ Refused 43
    ∷ Refused 43
    ∷ Refused 44
    ∷ Refused 44
    ∷ []

pub cases : asked ≡ answers
unfolding judge tons lots_before excess cuts_of is_code
cases = refl
