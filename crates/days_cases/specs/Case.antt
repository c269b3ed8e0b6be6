-- Cases of lists that hold or fail by computation; and the watch with other tests or other rows, and the ladder with other steps, so that wrong
-- readings can be tried on values.
-- Assumes nothing.
use Rattle.std.specs.Prelude.{ℕ, List, [], ◌∷◌, ◌++◌, map, Bool, true, false}
use Prim.Native.String.{String}
use Rattle.rules.specs.Text.{bytes}
use Rattle.rules.specs.Codes.{same}
use Rattle.rules.specs.Report.{listing_of}
use Rattle.rules.specs.Book.{Refused as BookRefused}
use Rattle.days.specs.declared.Metal.{Metal}
use Rattle.days.specs.declared.Day.{Day}
use Rattle.days.specs.Listed.{Verdict, Refused, Accepted, judge}
use Rattle.watch.specs.declared.table.Row.{Row}
use Rattle.watch.specs.Watch.{byte_of}
use Rattle.watch.specs.Moves.{listed}
use Rattle.locks.specs.declared.Step.{Step}
use Rattle.locks.specs.Listing.{listed as listedSteps}

-- a case has a name, a list, and what is printed of it
pub record Case : Type 0 where
  pub name : String
  pub list : String
  pub text : String

abbrev pub prints : String → String → String → Case
prints n s t = record { name = n; list = s; text = t }

-- printed so by a program
abbrev pub holds_by : (List ℕ → List ℕ) → Case → Bool
holds_by program c = same (program (bytes c.list)) (bytes c.text)

-- a case that holds, under its name, so that a failing one is named where it fails
pub data Holds : String → Bool → Type 0 where
  so : {n : String} → Holds n true

infixr 20 ◌&◌
pub data AllHold (program : List ℕ → List ℕ) : List Case → Type 0 where
  done : AllHold program []
  ◌&◌ : {c : Case} {cs : List Case} → Holds c.name (holds_by program c) → AllHold program cs → AllHold program (c ∷ cs)

-- the watch with other tests and other rows
abbrev pub Test : Type 0
Test = List Day → Row → Bool

abbrev pub bytes_by : Test → Test → (Metal → List Row) → Metal → List Day → List Day → List ℕ
bytes_by price interest rows metal recent [] = []
bytes_by price interest rows metal recent (d ∷ ds) =
    byte_of (map (price (d ∷ recent)) (rows metal) ++ map (interest (d ∷ recent)) (rows metal)) ∷ bytes_by price interest rows metal (d ∷ recent) ds

abbrev pub printed_by : Test → Test → (Metal → List Row) → Verdict → List ℕ
printed_by price interest rows (Refused n place) = listing_of (BookRefused n place)
printed_by price interest rows (Accepted metal ds) = listed (bytes_by price interest rows metal [] ds)

abbrev pub gives_by : Test → Test → (Metal → List Row) → Case → Bool
gives_by price interest rows c = same (printed_by price interest rows (judge false (bytes c.list))) (bytes c.text)

-- the ladder with other steps
abbrev pub ladder_by : (List Day → List Step) → Verdict → List ℕ
ladder_by on (Refused n place) = listing_of (BookRefused n place)
ladder_by on (Accepted metal ds) = listedSteps (on ds)

abbrev pub climbs_by : (List Day → List Step) → Case → Bool
climbs_by on c = same (ladder_by on (judge true (bytes c.list))) (bytes c.text)
