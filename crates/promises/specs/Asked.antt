-- What a function asks of its caller before it is called, which the kit publishes of the source as `Asked`. The entry points ask for nothing, whatever the
-- bytes, and so do the functions that first look at them; the program's `list` asks for a buffer that is always large enough.
-- Assumes nothing.
use Rattle.std.specs.Prelude.{◌≤◌, ◌↔◌, length}
use contract.Lifetimes.{Lfts}
use denote.Triple.Entry.{Args}
use denote.Triple.Clauses.{Ended}
use Rattle.figures.proofs as figures
use Rattle.figures.specs.contracts as figures_contracts
use Rattle.codes.proofs as codes
use Rattle.codes.specs.contracts as codes_contracts
use Rattle.gain.proofs as gain
use Rattle.gain.specs.contracts as gain_contracts
use Rattle.fields.proofs as fields
use Rattle.fields.specs.contracts as fields_contracts
use Rattle.terms.proofs as terms
use Rattle.terms.specs.contracts as terms_contracts
use Rattle.positions.proofs as positions
use Rattle.positions.specs.contracts as positions_contracts
use Rattle.seats.proofs as seats
use Rattle.seats.specs.contracts as seats_contracts
use Rattle.writing.proofs as writing
use Rattle.writing.specs.contracts as writing_contracts
use Rattle.entries.proofs as entries
use Rattle.entries.specs.contracts as entries_contracts
use Rattle.reasons.proofs as reasons
use Rattle.reasons.specs.contracts as reasons_contracts
use Rattle.allotment.proofs as allotment
use Rattle.allotment.specs.contracts as allotment_contracts
use Rattle.columns.proofs as columns
use Rattle.columns.specs.contracts as columns_contracts
use Rattle.frundavel.proofs as frundavel
use Rattle.frundavel.specs.contracts as frundavel_contracts
use Rattle.command.proofs as command
use Rattle.command.specs.contracts as command_contracts

abbrev pub AsksNothing : (T : Ended) → ((κs : Lfts T.signature.lifetimes) → Args T.signature κs → Type 0) → Type 0
AsksNothing T Asked = (κs : Lfts T.signature.lifetimes) (a : Args T.signature κs) → Asked κs a

-- the entry points
pub allot : AsksNothing allotment_contracts.allot.ended allotment.allot.Reads.Asked
allot κs a = tt

pub frundavel_allot : AsksNothing frundavel_contracts.frundavel_allot.ended frundavel.frundavel_allot.Reads.Asked
frundavel_allot κs a = tt

pub frundavel_moves : AsksNothing frundavel_contracts.frundavel_moves.ended frundavel.frundavel_moves.Reads.Asked
frundavel_moves κs a = tt

pub frundavel_ladder : AsksNothing frundavel_contracts.frundavel_ladder.ended frundavel.frundavel_ladder.Reads.Asked
frundavel_ladder κs a = tt

pub frundavel_sheet_to_book : AsksNothing frundavel_contracts.frundavel_sheet_to_book.ended frundavel.frundavel_sheet_to_book.Reads.Asked
frundavel_sheet_to_book κs a = tt

pub frundavel_book_to_sheet : AsksNothing frundavel_contracts.frundavel_book_to_sheet.ended frundavel.frundavel_book_to_sheet.Reads.Asked
frundavel_book_to_sheet κs a = tt

pub frundavel_reason : AsksNothing frundavel_contracts.frundavel_reason.ended frundavel.frundavel_reason.Reads.Asked
frundavel_reason κs a = tt

pub in_columns : AsksNothing columns_contracts.columns.ended columns.columns.Reads.Asked
in_columns κs a = tt

pub allot_in : AsksNothing allotment_contracts.allot_in.ended allotment.allot_in.Reads.Asked
allot_in κs a = tt

pub frundavel_columns : AsksNothing frundavel_contracts.frundavel_columns.ended frundavel.frundavel_columns.Reads.Asked
frundavel_columns κs a = tt

-- 8,192 bytes, no more and no less
pub list : (κs : Lfts 2) (a : Args allotment_contracts.list.signature κs) → allotment.list.Reads.Asked κs a ↔ (8_192 ≤ length a.1.0.now)
list κs a = (λ h. h, λ h. h)

-- the functions that look at bytes of a book, and the sums
pub read_terms : AsksNothing terms_contracts.read_terms.ended terms.read_terms.Reads.Asked
read_terms κs a = tt

pub read_seats : AsksNothing positions_contracts.read_seats.ended positions.read_seats.Reads.Asked
read_seats κs a = tt

pub next_seat : AsksNothing seats_contracts.next_seat.ended seats.next_seat.Reads.Asked
next_seat κs a = tt

pub only_seat : AsksNothing seats_contracts.only_seat.ended seats.only_seat.Reads.Asked
only_seat κs a = tt

pub field_at : AsksNothing fields_contracts.field_at.ended fields.field_at.Reads.Asked
field_at κs a = tt

pub refusal_in : AsksNothing fields_contracts.refusal_in.ended fields.refusal_in.Reads.Asked
refusal_in κs a = tt

pub held_at : AsksNothing fields_contracts.held_at.ended fields.held_at.Reads.Asked
held_at κs a = tt

pub read_written : AsksNothing figures_contracts.read_written.ended figures.read_written.Reads.Asked
read_written κs a = tt

pub read_figure : AsksNothing figures_contracts.read_figure.ended figures.read_figure.Reads.Asked
read_figure κs a = tt

pub read_held : AsksNothing figures_contracts.read_held.ended figures.read_held.Reads.Asked
read_held κs a = tt

pub read_opening : AsksNothing figures_contracts.read_opening.ended figures.read_opening.Reads.Asked
read_opening κs a = tt

pub read_code : AsksNothing codes_contracts.read_code.ended codes.read_code.Reads.Asked
read_code κs a = tt

pub net_of : AsksNothing gain_contracts.net_of.ended gain.net_of.Reads.Asked
net_of κs a = tt

pub net_long : AsksNothing gain_contracts.net_long.ended gain.net_long.Reads.Asked
net_long κs a = tt

pub counted_pending : AsksNothing gain_contracts.counted_pending.ended gain.counted_pending.Reads.Asked
counted_pending κs a = tt

pub digits_length : AsksNothing writing_contracts.digits_length.ended writing.digits_length.Reads.Asked
digits_length κs a = tt

pub letter_of : AsksNothing writing_contracts.letter_of.ended writing.letter_of.Reads.Asked
letter_of κs a = tt

pub head_length : AsksNothing entries_contracts.head_length.ended entries.head_length.Reads.Asked
head_length κs a = tt

pub reason_field : AsksNothing reasons_contracts.field_at.ended reasons.field_at.Reads.Asked
reason_field κs a = tt

pub word_of : AsksNothing command_contracts.word_of.ended command.word_of.Reads.Asked
word_of κs a = tt
