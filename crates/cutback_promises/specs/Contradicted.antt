-- Wrong answers of request [13], which no call gives: each breaks one sentence of it. Computed.
-- Assumes nothing.
use Rattle.std.specs.Prelude.{ℕ, ◌≡◌, refl, List, [], ◌∷◌, ◌++◌, length, replicate, drop}
use Prim.Native.String.{String}
use Rattle.rules.specs.Text.{bytes}
use Rattle.rules.specs.Codes.{is_code}
use Rattle.cases.specs.Case.{Holds, so}
use Rattle.cutback.specs.Limit.{tons}
use Rattle.cutback.specs.Seats.{lots_before, excess, cuts_of}
use Rattle.cutback.specs.Lines.{codes_in, codes_ahead}
use Rattle.cutback.specs.Judge.{judge}
use Rattle.cutback_promises.specs.Allowed.{Handed, Tried, allowed, Contradicted, done, ◌&◌, none_given}

-- lent places, each filled with 9
abbrev room : ℕ → List ℕ
room n = replicate n 9

abbrev ask : String → String → ℕ → List (List ℕ) → List ℕ → Handed
ask kind metal grams codes lots = record { kind = bytes kind; metal = bytes metal; grams = grams; codes = codes; lots = lots }

abbrev tried : String → Handed → ℕ → ℕ → ℕ → ℕ → List ℕ → Tried
tried name h places number place length exit =
    record { name = name; handed = h; entry = room places; number = number; place = place; length = length; exit = exit }

-- cuts in five places, the fifth as it was; and a refusal that alters none
abbrev cuts : String → Handed → List ℕ → Tried
cuts name h ns = tried name h 5 0 0 (length ns) (ns ++ drop (length ns) (room 5))

abbrev refuses : String → Handed → ℕ → Tried
refuses name h number = tried name h 5 number 0 0 (room 5)

-- 33,500 lots where 20,000 may stay; two lots where one may; exactly what may stay, and one lot more
abbrev four : Handed
four = ask "individual" "silver" 1_000 (bytes "A7" ∷ bytes "B2" ∷ bytes "A10" ∷ bytes "C" ∷ []) (9_000 ∷ 12_000 ∷ 12_000 ∷ 500 ∷ [])

abbrev two : List (List ℕ)
two = bytes "P1" ∷ bytes "P2" ∷ []

abbrev exactly : Handed
exactly = ask "corporate" "gold" 1_000 two (800 ∷ 1_200 ∷ [])

abbrev above : Handed
above = ask "corporate" "gold" 1_000 two (801 ∷ 1_200 ∷ [])

abbrev broken : Handed
broken = ask "corporate" "gold" 700_000 two (2 ∷ 1 ∷ [])

-- five seats: with a bad code at the end, and with the first above 1,000,000 lots
abbrev five : String → ℕ → Handed
five last lots = ask "corporate" "gold" 1_000 (bytes "A" ∷ bytes "B" ∷ bytes "C" ∷ bytes "D" ∷ bytes last ∷ []) (lots ∷ 0 ∷ 0 ∷ 0 ∷ 0 ∷ [])

-- the right answers, so that a wrong one differs in its one respect
pub right_allowed :
    Holds "four seats" (allowed (cuts "four seats" four (0 ∷ 1_500 ∷ 12_000 ∷ 0 ∷ [])))
    × Holds "at the limit" (allowed (cuts "at the limit" exactly (0 ∷ 0 ∷ [])))
    × Holds "one above" (allowed (cuts "one above" above (0 ∷ 1 ∷ [])))
    × Holds "a broken lot" (allowed (cuts "a broken lot" broken (1 ∷ 0 ∷ [])))
    × Holds "no room" (allowed (tried "no room" four 3 11 4 0 (room 3)))
    × Holds "five seats" (allowed (refuses "five seats" (five "E" 1_000_001) 43))
unfolding judge tons lots_before excess cuts_of is_code
right_allowed = (so, so, so, so, so, so)

-- how the codes are read: by sizes, where one runs past the end, and at the front of lines
pub read_right :
    (codes_in (2 ∷ 1 ∷ []) (bytes "P1Q") ≡ bytes "P1" ∷ bytes "Q" ∷ [])
    × (codes_in (2 ∷ 2 ∷ []) (bytes "P1Q") ≡ bytes "P1" ∷ [] ∷ [])
    × (codes_ahead (bytes "P1 5\nP2 6") ≡ two)
read_right = (refl, refl, refl)

abbrev pub wrong : List Tried
wrong =
    cuts "equal lots are cut in the order given" four (0 ∷ 12_000 ∷ 1_500 ∷ 0 ∷ [])
    ∷ cuts "the smallest seats first" four (9_000 ∷ 0 ∷ 4_000 ∷ 500 ∷ [])
    ∷ cuts "the first seats first" four (9_000 ∷ 4_500 ∷ 0 ∷ 0 ∷ [])
    ∷ cuts "one lot too many" four (0 ∷ 1_501 ∷ 12_000 ∷ 0 ∷ [])
    ∷ cuts "one lot too few" four (0 ∷ 1_499 ∷ 12_000 ∷ 0 ∷ [])
    ∷ cuts "both largest seats alike" four (0 ∷ 6_750 ∷ 6_750 ∷ 0 ∷ [])
    ∷ cuts "the cuts from the largest seat on" four (12_000 ∷ 1_500 ∷ 0 ∷ 0 ∷ [])
    ∷ cuts "the lots that stay" four (9_000 ∷ 10_500 ∷ 0 ∷ 500 ∷ [])
    ∷ cuts "nothing is cut" four (0 ∷ 0 ∷ 0 ∷ 0 ∷ [])
    ∷ cuts "seats without a cut are left out" four (1_500 ∷ 12_000 ∷ [])
    ∷ tried "accepted, and nothing is written" four 5 0 0 0 (room 5)
    ∷ tried "the length is one short" four 5 0 0 3 (0 ∷ 1_500 ∷ 12_000 ∷ 0 ∷ 9 ∷ [])
    ∷ tried "a place behind the cuts is altered" four 5 0 0 4 (0 ∷ 1_500 ∷ 12_000 ∷ 0 ∷ 0 ∷ [])
    ∷ tried "no room, where there is" four 4 11 4 0 (room 4)
    ∷ tried "cuts for as many seats as there is room" four 3 0 0 3 (0 ∷ 1_500 ∷ 12_000 ∷ [])
    ∷ tried "no room, and the place is 0" four 3 11 0 0 (room 3)
    ∷ tried "no room, and a place is altered" four 3 11 4 0 (0 ∷ 9 ∷ 9 ∷ [])
    ∷ cuts "at the limit a lot is cut" exactly (0 ∷ 1 ∷ [])
    ∷ cuts "a lot above the limit stays" above (0 ∷ 0 ∷ [])
    ∷ cuts "a corporate customer by an individual's limit" above (0 ∷ 1_001 ∷ [])
    ∷ cuts "a part of a lot that may stay is taken for a whole one" broken (0 ∷ 0 ∷ [])
    ∷ refuses "41 before 40" (ask "Corporate" "gold" 0 [] []) 41
    ∷ refuses "42 before 41" (ask "corporate" "gold" 0 (bytes "a" ∷ []) (0 ∷ [])) 42
    ∷ refuses "43 before 42" (five "e" 0) 43
    ∷ refuses "44 before 43" (five "E" 1_000_001) 44
    ∷ cuts "a fifth seat is passed over" (five "E" 0) (0 ∷ 0 ∷ 0 ∷ 0 ∷ [])
    ∷ cuts "a code given twice is taken" (ask "corporate" "gold" 1_000 (bytes "A" ∷ bytes "A" ∷ []) (1 ∷ 1 ∷ [])) (0 ∷ 0 ∷ [])
    ∷ cuts "no seat has no cuts" (ask "corporate" "gold" 1_000 [] []) []
    ∷ cuts "a seat above 1,000,000 lots is cut" (ask "corporate" "gold" 1_000 (bytes "A" ∷ []) (1_000_001 ∷ [])) (998_001 ∷ [])
    ∷ refuses "lots without a code are 44" (ask "corporate" "gold" 1_000 (bytes "A" ∷ []) (0 ∷ 0 ∷ [])) 44
    ∷ cuts "a seat without lots has none" (ask "corporate" "gold" 1_000 two (0 ∷ [])) (0 ∷ 0 ∷ [])
    ∷ refuses "a lot of 1,000,000 grams is 41" (ask "corporate" "gold" 1_000_000 (bytes "A" ∷ []) (0 ∷ [])) 41
    ∷ tried "refused at the seat" (five "e" 0) 5 42 5 0 (room 5)
    ∷ tried "refused, and the length is that of the seats" (five "e" 0) 5 42 0 5 (room 5)
    ∷ tried "refused, and the places are cleared" (five "e" 0) 5 42 0 0 (0 ∷ 0 ∷ 0 ∷ 0 ∷ 0 ∷ [])
    ∷ []

pub contradicted : Contradicted wrong
unfolding judge tons lots_before excess cuts_of is_code
contradicted = none_given wrong (
    so & so & so & so & so & so & so & so & so & so & so & so & so & so & so & so & so & so
    & so & so & so & so & so & so & so & so & so & so & so & so & so & so & so & so & so & done)
