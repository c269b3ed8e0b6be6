-- What the code says of lines before it writes anything: the number of a refusal, or how many bytes of the book they make.
-- Assumes nothing.
use Rattle.std.specs.Prelude.{ℕ, ◌+◌, ◌-◌, ◌*◌, ◌≤◌, ◌<◌, ◌≡◌, List, [], Bool, true, false, cond, length, drop, Result, Ok, Err}
use Rattle.rules.specs.Text.{is}
use Rattle.rules.specs.Book.{Step, Stop, Next}
use Rattle.sheets.specs.declared.sizing.Sized.{Sized}
use Rattle.sheets.specs.declared.refusal.SheetRule.{SheetRule}
use Rattle.sheets.specs.declared.refusal.SheetRule.TheVariants.{OtherMark}
use Rattle.sheets.specs.declared.refusal.Refusal.{Refusal}
use Rattle.sheets.specs.Refusal.{number_of}
use Rattle.sheets.specs.Mark.{in_book}
use Rattle.sheets.specs.Line.{carried, field_of, seat_of, trade_of}
use Rattle.sheets.specs.Read.{Read, Bad, Made}
use Rattle.sheets.specs.Places.{front_of, of_front, size_of}

-- the other mark stands among figures, or does not
abbrev pub Unstrayed : Bool → Result (Unit {0}) SheetRule → Type 0
Unstrayed stray (Ok u) = stray ≡ false
Unstrayed stray (Err rule) = (stray ≡ true) × (rule ≡ OtherMark)

-- a line's fields, none where it is refused
abbrev pub fields_in : Step (List ℕ) → List ℕ
fields_in (Stop n) = []
fields_in (Next fields) = fields

-- a line is good, or the rule is its refusal
abbrev pub Judges : Step (List ℕ) → Result (Unit {0}) SheetRule → Type 0
Judges line (Ok u) = line ≡ Next (fields_in line)
Judges line (Err rule) = line ≡ Stop (number_of rule)

-- the fields of a good line of one part, and of four
abbrev pub one_field : ℕ → ℕ → List ℕ → List ℕ
one_field mark t v = cond (carried t) (field_of t v) (field_of t (in_book mark v))

abbrev pub four_fields : ℕ → ℕ → List ℕ → List ℕ → List ℕ → List ℕ → List ℕ
four_fields mark t a b c d = cond (is "I" t) (seat_of mark t a b c d) (field_of t (trade_of mark a b c d))

-- the line that begins at a place is good, makes so many bytes, and the next line begins at `next`
pub record Fits (mark : ℕ) (s : List ℕ) (at next size : ℕ) : Type 0 where
  pub fields : List ℕ
  pub good : of_front mark (front_of (drop at s)) ≡ Next fields
  pub makes : length fields ≡ size
  pub ends : next ≡ at + size_of (front_of (drop at s))
  pub forward : at < next
  pub within : next ≤ length s
  pub small : size ≤ 7 * (next - at)

abbrev pub Sizes : ℕ → List ℕ → ℕ → Result Sized SheetRule → Type 0
Sizes mark s at (Ok r) = Fits mark s at r.next r.size
Sizes mark s at (Err rule) = of_front mark (front_of (drop at s)) ≡ Stop (number_of rule)

abbrev pub book_of : Read → List ℕ
book_of (Bad n place) = []
book_of (Made book) = book

-- the book's length, or the refusal
abbrev pub Tells : Read → Result ℕ Refusal → Type 0
Tells r (Ok n) = (r ≡ Made (book_of r)) × (n ≡ length (book_of r))
Tells r (Err e) = r ≡ Bad (number_of e.rule) e.place
