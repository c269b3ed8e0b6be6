-- The pieces of a report, over the numbers and bytes that the code has in hand; and that they are document 01's.
-- Assumes nothing.
use Rattle.std.specs.Prelude.{ℕ, ◌+◌, ◌/◌, ◌%◌, ◌≡◌, refl, List, [], ◌∷◌, ◌++◌, length}
use Prim.Native.Char.{Char, code}
use Rattle.std.proofs.Common.{append_assoc, arith, length-append}
use Rattle.rules.specs.declared.Standing.{Standing}
use Rattle.rules.specs.Book.{Seat}
use Rattle.rules.specs.Cascade.{Line, Outcome}
use Rattle.rules.specs.Seats.{seat_lots}
use Rattle.rules.specs.Report.{digits, letter, field, joined, reported_seat, reported, report}
use Rattle.writing.specs.Shown.{shown}

-- a field's first three bytes, where n bytes of value follow
abbrev pub tag_and_length : ℕ → ℕ → List ℕ
tag_and_length tag n = tag ∷ n / 256 ∷ n % 256 ∷ []

-- a field, over the number of its tag
abbrev pub tagged : ℕ → List ℕ → List ℕ
tagged tag v = tag_and_length tag (length v) ++ v

pub field_tagged : (tag : Char) (v : List ℕ) → field tag v ≡ tagged (code tag) v
field_tagged tag v = refl

pub reported_shown : (l : Line) → reported l ≡ reported (shown l.code l.seats l.standing l.offset)
unfolding reported reported_seat seat_lots
reported_shown l = refl

-- a customer's own fields, and those of a seat, which follow them
abbrev pub own_bytes : List ℕ → Standing → ℕ → List ℕ
own_bytes code standing offset = field "C" code ++ field "E" (letter standing ∷ []) ++ field "O" (digits offset)

abbrev pub seat_bytes : List ℕ → ℕ → List ℕ
seat_bytes code lots = field "I" code ++ field "J" (digits lots)

pub reported_own : (l : Line) → reported l ≡ own_bytes l.code l.standing l.offset ++ joined (reported_seat l) l.seats
unfolding reported
reported_own l = simp append_assoc

pub reported_seat_lem : (l : Line) (s : Seat) → reported_seat l s ≡ seat_bytes s.code (seat_lots l s)
unfolding reported_seat
reported_seat_lem l s = refl

-- what stands before the customers
abbrev pub report_head : ℕ → ℕ → List ℕ
report_head total residue = field "T" (digits total) ++ field "R" (digits residue)

pub report_head_lem : (o : Outcome) → report o ≡ report_head o.total o.residue ++ joined reported o.lines
unfolding report
report_head_lem o = refl

-- how many bytes they take in a report, by the length of the code
abbrev pub reported_length : ℕ → ℕ → ℕ
reported_length codeLength offset = 10 + codeLength + length (digits offset)

pub reported_length_lem : (code : List ℕ) (standing : Standing) (offset : ℕ) → length (own_bytes code standing offset) ≡ reported_length (length code) offset
reported_length_lem code standing offset = simp length-append (omega arith)

abbrev pub seat_length : ℕ → ℕ → ℕ
seat_length codeLength lots = 6 + codeLength + length (digits lots)

pub seat_length_lem : (code : List ℕ) (lots : ℕ) → length (seat_bytes code lots) ≡ seat_length (length code) lots
seat_length_lem code lots = simp length-append (omega arith)

pub report_head_length : (total residue : ℕ) → length (report_head total residue) ≡ 6 + length (digits total) + length (digits residue)
report_head_length total residue = simp length-append (omega arith)
