-- Document 01, case 11: "256 customers accepted, the 257th C is 10"; and what comes before 10, and what after it.
-- Assumes nothing.
use Rattle.std.specs.Prelude.{ℕ, zero, suc, ◌+◌, ◌/◌, ◌%◌, List, [], ◌∷◌, ◌++◌, length, take}
use Prim.Native.Char.{code}
use Prim.Native.String.{String}
use Rattle.rules.specs.Text.{bytes}
use Rattle.cases.specs.Tables.{gold, begins, group, end}
use Rattle.cases.specs.Case.{Case, refuses}
use Rattle.cases.specs.Refusals.{idle, lacking}

-- two letters, the first of which differs from one customer to the next
abbrev pub nth : ℕ → List ℕ
nth n = (code "A" + n % 16) ∷ (code "A" + n / 16) ∷ []

-- n customers without a position, before what follows
abbrev pub crowd_before : List ℕ → ℕ → List ℕ
crowd_before rest zero = rest
crowd_before rest (suc n) = crowd_before (group (nth n) "0" "0" "0" [] ++ rest) n

unfoldable pub crowd : ℕ → List ℕ
crowd n = gold ++ crowd_before [] n

-- after 255 customers, the book of what stands next and the rest is refused with a number where the rest begins
abbrev refused_then : String → List ℕ → List ℕ → ℕ → Case
refused_then n next rest number = refuses n (crowd 255 ++ (next ++ rest)) number (length (crowd 255 ++ next))

abbrev pub the256th : List ℕ
the256th = group (nth 255) "0" "0" "0" []

unfoldable pub crowded : List Case
crowded =
    refused_then "256 customers pass, and Z after them: 3" (the256th ++ end) (0 ∷ []) 3
    ∷ refused_then "10 before 5: a 257th C that is no code" the256th (begins []) 10
    ∷ refused_then "10 before 7: a 257th C with a known code" the256th (begins (nth 0)) 10
    ∷ refused_then "2 before 10: a 257th C that is cut" the256th (take 3 (begins (bytes "A"))) 2
    ∷ refused_then "9 before 10: the 256th customer lacks trades" [] (lacking ++ idle "B" ++ end) 9
    ∷ []
