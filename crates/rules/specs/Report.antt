-- docs/RULES.md, sections 12 and 14. Document 01, "Report and listing".
-- Assumes nothing.
use Rattle.std.specs.Prelude.{ℕ, zero, suc, ◌+◌, ◌/◌, ◌%◌, List, [], ◌∷◌, ◌++◌, cond, length, ltb}
use Prim.Native.Char.{Char, code}
use Rattle.rules.specs.declared.Standing.{Standing}
use Rattle.rules.specs.declared.Standing.TheVariants.{Pending, Tier1, Tier2, Tier3, Neither}
use Rattle.rules.specs.Text.{bytes}
use Rattle.rules.specs.Book.{Seat, Verdict, Refused, Accepted, judge}
use Rattle.rules.specs.Cascade.{Line, Outcome, outcome}
use Rattle.rules.specs.Seats.{seat_lots}

abbrev pub digit : ℕ → ℕ
digit n = code "0" + n

-- "Numbers are plain digits without leading zeros, 0 for none": the digits of n, before those that are there; a number has fewer
-- digits than its successor counts
abbrev pub digits_before : ℕ → ℕ → List ℕ → List ℕ
digits_before zero n ds = ds
digits_before (suc most) n ds =
    let more = digits_before most (n / 10) (digit (n % 10) ∷ ds) in
    cond (ltb n 10) (digit n ∷ ds) more

unfoldable pub digits : ℕ → List ℕ
digits n = digits_before (suc n) n []

-- P, 1, 2, 3, N: "E standing (one byte)"
abbrev pub letter : Standing → ℕ
letter Pending = code "P"
letter Tier1 = code "1"
letter Tier2 = code "2"
letter Tier3 = code "3"
letter Neither = code "N"

-- "a one-byte tag, a two-byte length (high byte first) and that many bytes of value"
abbrev pub field : Char → List ℕ → List ℕ
field tag v = code tag ∷ length v / 256 ∷ length v % 256 ∷ v

abbrev pub joined : {A : Type 0} → (A → List ℕ) → List A → List ℕ
joined f [] = []
joined f (a ∷ rest) = f a ++ joined f rest

-- "In the report each customer's O is followed by I and J (lots) for each seat."
unfoldable pub reported_seat : Line → Seat → List ℕ
reported_seat l s = field "I" s.code ++ field "J" (digits (seat_lots l s))

-- "for each customer in book order C code, E standing (one byte), O offset lots"
unfoldable pub reported : Line → List ℕ
reported l =
    field "C" l.code ++ field "E" (letter l.standing ∷ []) ++ field "O" (digits l.offset) ++ joined (reported_seat l) l.seats

-- "Report fields: T total, R residue, then for each customer .."
unfoldable pub report : Outcome → List ℕ
report o = field "T" (digits o.total) ++ field "R" (digits o.residue) ++ joined reported o.lines

-- "for each customer code, blank, standing, blank, offset. Each line ends with one line feed."
abbrev pub printed : Line → List ℕ
printed l = l.code ++ bytes " " ++ (letter l.standing ∷ []) ++ bytes " " ++ digits l.offset ++ bytes "\n"

abbrev pub listed : Outcome → List ℕ
listed o =
    bytes "total " ++ digits o.total ++ bytes "\n" ++ bytes "left " ++ digits o.residue ++ bytes "\n" ++ joined printed o.lines

-- "A refusal prints one line, refused 4 at 13 in that form (number, place)."
abbrev pub listing_of : Verdict → List ℕ
listing_of (Refused n place) = bytes "refused " ++ digits n ++ bytes " at " ++ digits place ++ bytes "\n"
listing_of (Accepted terms cs) = listed (outcome terms cs)

unfoldable pub listing : List ℕ → List ℕ
listing s = listing_of (judge s)
