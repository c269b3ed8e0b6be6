-- Cases of comma sheets that hold or fail by computation, of sheets to books and of books to sheets. They write the numbers of request [8]
-- bare: a wrong name for a number is found here.
-- Assumes nothing.
use Rattle.std.specs.Prelude.{ℕ, List, [], ◌∷◌, Bool, length}
use Prim.Native.Char.{Char, code}
use Prim.Native.String.{String}
use Rattle.rules.specs.Answer.{Answer}
use Rattle.cases.specs.Case.{answered, Holds}
use Rattle.sheets.specs.Answers.{to_book, to_sheet}

-- what is put in: a sheet and a room, or a book, a mark and a room
pub data Asked : Type 0 where
  Sheet : List ℕ → ℕ → Asked
  Book : List ℕ → ℕ → ℕ → Asked

-- a case has a name, what is put in, and the number, the place and the bytes that must come out
pub record Case : Type 0 where
  pub name : String
  pub asked : Asked
  pub number : ℕ
  pub place : ℕ
  pub bytes : List ℕ

-- the tables write cases by these names, which an error then shows whole; a room that just holds what must come out, and no room for what is refused
abbrev pub leaves : String → List ℕ → List ℕ → ℕ → ℕ → Case
leaves n sheet book number place = record { name = n; asked = Sheet sheet (length book); number = number; place = place; bytes = book }

abbrev pub makes : String → List ℕ → List ℕ → Case
makes n sheet book = leaves n sheet book 0 0

abbrev pub refuses : String → List ℕ → ℕ → ℕ → Case
refuses n sheet number place = record { name = n; asked = Sheet sheet 0; number = number; place = place; bytes = [] }

abbrev pub has_no_room : String → List ℕ → ℕ → Case
has_no_room n sheet room = record { name = n; asked = Sheet sheet room; number = 23; place = 0; bytes = [] }

abbrev pub writes : String → List ℕ → Char → List ℕ → Case
writes n book mark sheet = record { name = n; asked = Book book (code mark) (length sheet); number = 0; place = 0; bytes = sheet }

abbrev pub writes_not : String → List ℕ → ℕ → ℕ → ℕ → ℕ → Case
writes_not n book mark room number place = record { name = n; asked = Book book mark room; number = number; place = place; bytes = [] }

-- by the calls as they are, or by others
abbrev pub answer_by : (List ℕ → ℕ → Answer) → (List ℕ → ℕ → ℕ → Answer) → Asked → Answer
answer_by reads writes (Sheet sheet room) = reads sheet room
answer_by reads writes (Book book mark room) = writes book mark room

abbrev pub holds_by : (List ℕ → ℕ → Answer) → (List ℕ → ℕ → ℕ → Answer) → Case → Bool
holds_by reads writes c = answered (answer_by reads writes c.asked) c.number c.place c.bytes

infixr 20 ◌&◌
pub data AllHold : List Case → Type 0 where
  done : AllHold []
  ◌&◌ : {c : Case} {cs : List Case} → Holds c.name (holds_by to_book to_sheet c) → AllHold cs → AllHold (c ∷ cs)
