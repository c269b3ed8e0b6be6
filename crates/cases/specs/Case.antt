-- Cases that hold or fail by computation. They write the numbers of document 01 bare: a wrong name for a number is found here.
-- Assumes nothing.
use Rattle.std.specs.Prelude.{ℕ, suc, List, [], ◌∷◌, ◌++◌, map, Bool, true, false, ◌&&◌, length, eqb, ℤ, pos, negsuc}
use Prim.Native.String.{String}
use Rattle.rules.specs.Text.{bytes}
use Rattle.rules.specs.Codes.{same}
use Rattle.rules.specs.Book.{Verdict, Refused, Accepted, judge}
use Rattle.rules.specs.Standing.{total_gain}
use Rattle.rules.specs.Division.{share}
use Rattle.rules.specs.Report.{listing}
use Rattle.rules.specs.Answer.{Answer, answer}

-- a member of a division by itself
pub record Member : Type 0 where
  pub code : String
  pub weight : ℕ

abbrev pub member : String → ℕ → Member
member c w = record { code = c; weight = w }

-- A case has a name, what is put in, and what must come out: what is printed of a book; the number, the place and the report
-- of a call with so much room; the loss of a book's only customer, in the unit of its prices; the lots of a division.
pub data Case : Type 0 where
  Prints : String → List ℕ → String → Case
  Answers : String → List ℕ → ℕ → ℕ → ℕ → List ℕ → Case
  Loses : String → List ℕ → ℕ → Case
  Divides : String → ℕ → List Member → List ℕ → Case

-- the tables write cases by these names, which an error then shows whole
abbrev pub prints : String → List ℕ → String → Case
prints n s text = Prints n s text

abbrev pub answers : String → List ℕ → ℕ → ℕ → ℕ → List ℕ → Case
answers n s room number place r = Answers n s room number place r

abbrev pub loses : String → List ℕ → ℕ → Case
loses n s fen = Loses n s fen

abbrev pub divides : String → ℕ → List Member → List ℕ → Case
divides n x ms wanted = Divides n x ms wanted

-- a book is refused with a number at a place, whatever the room
abbrev pub refuses : String → List ℕ → ℕ → ℕ → Case
refuses n s number place = answers n s 0 number place []

-- the book of what stands in front and the rest is refused with a number where the rest begins
abbrev pub refused_after : String → List ℕ → List ℕ → ℕ → Case
refused_after n front rest number = refuses n (front ++ rest) number (length front)

-- a book is accepted, and this is its report, which the room just holds
abbrev pub reports : String → List ℕ → List ℕ → Case
reports n s r = answers n s (length r) 0 0 r

abbrev pub name : Case → String
name (Prints n s text) = n
name (Answers n s room number place r) = n
name (Loses n s fen) = n
name (Divides n x ms wanted) = n

abbrev pub is_loss : ℕ → ℤ → Bool
is_loss fen (pos n) = false
is_loss fen (negsuc n) = eqb (suc n) fen

abbrev pub alone : ℕ → Verdict → Bool
alone fen (Refused n place) = false
alone fen (Accepted tms []) = false
alone fen (Accepted tms (c ∷ [])) = is_loss fen (total_gain tms c)
alone fen (Accepted tms (c ∷ d ∷ cs)) = false

abbrev pub answered : Answer → ℕ → ℕ → List ℕ → Bool
answered a number place r = eqb a.number number && eqb a.place place && eqb a.length (length r) && same a.report r

abbrev pub holds : Case → Bool
holds (Prints n s text) = same (listing s) (bytes text)
holds (Answers n s room number place r) = answered (answer s room) number place r
holds (Loses n s fen) = alone fen (judge s)
holds (Divides n x ms wanted) = same (map (share (λ m. bytes m.code) (λ m. m.weight) x ms) ms) wanted

-- a case that holds, under its name, so that a failing one is named where it fails
pub data Holds : String → Bool → Type 0 where
  so : {n : String} → Holds n true

infixr 20 ◌&◌
pub data AllHold : List Case → Type 0 where
  done : AllHold []
  ◌&◌ : {c : Case} {cs : List Case} → Holds (name c) (holds c) → AllHold cs → AllHold (c ∷ cs)
