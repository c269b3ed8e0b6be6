-- What the code answers of a list by places in its bytes: the definitions of the list, with where the next line begins.
-- Assumes nothing.
use Rattle.std.specs.Prelude.{ℕ, ◌+◌, ◌≡◌, List, [], ◌∷◌, Bool, cond, length, drop, eqb, Option, Some, None, option_map, Result, Ok, Err}
use denote.Bor.{Bor}
use Rattle.rules.specs.Text.{bytes}
use Rattle.rules.specs.Codes.{same}
use Rattle.rules.specs.Figures.{up_to}
use Rattle.days.specs.declared.Metal.{Metal}
use Rattle.days.specs.declared.Metal.TheVariants.{Gold, Silver}
use Rattle.days.specs.declared.Day.{Day}
use Rattle.days.specs.declared.NextDay.{NextDay}
use Rattle.days.specs.declared.Head.{Head}
use Rattle.days.specs.declared.Days.{Days as DaysAt}
use Rattle.days.specs.declared.DayList.{DayList}
use Rattle.days.specs.declared.refusal.Refusal.{Refusal}
use Rattle.days.specs.declared.refusal.ListRule.{ListRule}
use Rattle.days.specs.declared.refusal.ListRule.TheVariants.{NoDay}
use Rattle.days.specs.Refusal.{number_of}
use Rattle.days.specs.Lines.{Line, Whole, Cut, lines_of}
use Rattle.days.specs.Day.{day_of}
use Rattle.days.specs.Listed.{Days, All, Stop, Verdict, Refused, Accepted}

-- the bytes up to the first byte of its kind
abbrev pub up_to_byte : ℕ → List ℕ → List ℕ
up_to_byte b [] = []
up_to_byte b (x ∷ xs) = cond (eqb x b) [] (x ∷ up_to_byte b xs)

-- a day, and where the next line begins
abbrev pub found_at : ℕ → Result Day ListRule → Option (Result NextDay ListRule)
found_at next (Ok d) = Some (Ok (record { day = d; next = next }))
found_at next (Err rule) = Some (Err rule)

abbrev pub next_in : Bool → ℕ → List Line → Option (Result NextDay ListRule)
next_in long at [] = None
next_in long at (Cut v ∷ ls) = Some (Err NoDay)
next_in long at (Whole v ∷ ls) = found_at (at + length v + 1) (day_of long v)

-- the line that begins at a place
unfoldable pub next_of : Bool → List ℕ → ℕ → Option (Result NextDay ListRule)
next_of long s at = next_in long at (lines_of (drop at s))

-- where the second line begins
abbrev pub start_of : List ℕ → ℕ
start_of s = length (up_to "\n" s) + 1

abbrev pub metal_of : List ℕ → Option Metal
metal_of v = cond (same v (bytes "gold")) (Some Gold) (cond (same v (bytes "silver")) (Some Silver) None)

abbrev pub head_in : List Line → Option Head
head_in [] = None
head_in (Cut v ∷ ls) = None
head_in (Whole v ∷ ls) = option_map (λ metal. record { metal = metal; start = length v + 1 }) (metal_of v)

-- the first line
unfoldable pub head_of : List ℕ → Option Head
head_of s = head_in (lines_of s)

-- what is read of some lines, one after the other: their days, up to the first line that is none
abbrev pub then_of : Result Day ListRule → List (Result Day ListRule) → List (Result Day ListRule)
then_of (Ok d) rest = Ok d ∷ rest
then_of (Err rule) rest = Err rule ∷ []

abbrev pub days_in : Bool → List Line → List (Result Day ListRule)
days_in long [] = []
days_in long (Cut v ∷ ls) = Err NoDay ∷ []
days_in long (Whole v ∷ ls) = then_of (day_of long v) (days_in long ls)

-- what is read from a place on
unfoldable pub days_at : Bool → List ℕ → ℕ → List (Result Day ListRule)
days_at long s at = days_in long (lines_of (drop at s))

abbrev pub days_left : DaysAt → List (Result Day ListRule)
days_left d = days_at d.long d.list.now d.at

-- the days of what is read
abbrev pub days_of : List (Result Day ListRule) → List Day
days_of [] = []
days_of (Ok d ∷ rest) = d ∷ days_of rest
days_of (Err rule ∷ rest) = []

-- how many days there are
abbrev pub count_of : Days → Result ℕ Refusal
count_of (All ds) = Ok (length ds)
count_of (Stop rule place) = Err (record { rule = rule; place = place })

-- an accepted list: where its second line begins, the days that are read from there on, and how many they are
abbrev pub IsTaken : Bool → Bor (List ℕ) → Verdict → DayList → Type 0
IsTaken long s v list =
    (ds : List Day) × (v ≡ Accepted list.metal ds) × (list.count ≡ length ds) × (list.days ≡ record { list = s; at = start_of s.now; long = long }) × (list.start ≡ start_of s.now)

-- a refused one
abbrev pub IsNotTaken : Verdict → Refusal → Type 0
IsNotTaken v refusal = v ≡ Refused (number_of refusal.rule) refusal.place
