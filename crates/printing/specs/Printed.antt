-- The pieces of a listing, over the numbers and bytes that the code has in hand; and that they are document 01's.
-- Assumes nothing.
use Rattle.std.specs.Prelude.{ℕ, ◌+◌, ◌≡◌, refl, List, ◌++◌, length}
use Rattle.std.proofs.Common.{arith, length-append}
use Rattle.rules.specs.Text.{bytes}
use Rattle.rules.specs.Book.{Refused}
use Rattle.rules.specs.Cascade.{Line, Outcome}
use Rattle.rules.specs.Report.{digits, joined, printed, listed, listing_of}
use Rattle.writing.specs.Shown.{shown}

pub printed_shown : (l : Line) → printed l ≡ printed (shown l.code l.seats l.standing l.offset)
printed_shown l = refl

-- what stands before the customers
abbrev pub listed_head : ℕ → ℕ → List ℕ
listed_head total residue = bytes "total " ++ digits total ++ bytes "\n" ++ bytes "left " ++ digits residue ++ bytes "\n"

pub listed_head_lem : (o : Outcome) → listed o ≡ listed_head o.total o.residue ++ joined printed o.lines
listed_head_lem o = refl

pub printed_length : (l : Line) → length (printed l) ≡ 4 + length l.code + length (digits l.offset)
printed_length l = simp length-append (omega arith)

pub listed_head_length : (total residue : ℕ) → length (listed_head total residue) ≡ 13 + length (digits total) + length (digits residue)
listed_head_length total residue = simp length-append (omega arith)

pub refusal_length : (n place : ℕ) → length (listing_of (Refused n place)) ≡ 13 + length (digits n) + length (digits place)
refusal_length n place = simp length-append (omega arith)
