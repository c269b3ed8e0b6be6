-- "Every public function's contract determines all it returns and all lent bytes, on refusal too", and the entry points ask for nothing: of the
-- functions that read and write sheets. The contracts are those that the kit publishes of the source.
-- Assumes nothing.
use Rattle.std.specs.Prelude.{ℕ, ◌≡◌, refl, List}
use Rattle.std.proofs.Common.{sym, ap, ◌∙◌}
use contract.Lifetimes.{Lfts}
use denote.Triple.Entry.{Args, Res}
use denote.Triple.Clauses.{Ended, Lasts, AtExit, at_exit}
use Rattle.rules.specs.Answer.{Answer as Answer01}
use Rattle.answers.specs.declared.Answer.{Answer}
use Rattle.answers.specs.Answered.{Answered}
use Rattle.sheets.specs.contracts as sheets_contracts
use Rattle.sheets.proofs as sheets

abbrev pub Contract : Ended → Type 1
Contract T = (κs : Lfts T.signature.lifetimes) → Args T.signature κs → Res T.signature κs → AtExit T κs → Type 0

-- for the same arguments, and the same values behind all that is lent: any two results are equal, and so is all that two calls leave
abbrev pub Determined : (T : Ended) → Contract T → Type 0
Determined T Learnt =
    (κs : Lfts T.signature.lifetimes) (a : Args T.signature κs) (r q : Res T.signature κs) (s t : Lasts T κs a) →
    Learnt κs a r (at_exit T κs a s) → Learnt κs a q (at_exit T κs a t) → (r ≡ q) × (s ≡ t)

abbrev pub AsksNothing : (T : Ended) → ((κs : Lfts T.signature.lifetimes) → Args T.signature κs → Type 0) → Type 0
AsksNothing T Asked = (κs : Lfts T.signature.lifetimes) (a : Args T.signature κs) → Asked κs a

same : (r q : Answer) → r.number ≡ q.number → r.place ≡ q.place → r.length ≡ q.length → r ≡ q
same r q n p l i = record { number = n i; place = p i; length = l i }

answered : {a : Answer01} {r q : Answer} {entry x y : List ℕ} → Answered a r entry x → Answered a q entry y → (r ≡ q) × (x ≡ y)
answered {a} {r} {q} e f = (same r q (e.number ∙ sym f.number) (e.place ∙ sym f.place) (e.length ∙ sym f.length), e.buffer ∙ sym f.buffer)

pub sheet_to_book : Determined sheets_contracts.sheet_to_book.ended sheets.sheet_to_book.Reads.Learnt
sheet_to_book κs a r q s t e f = ((answered e f).0, ap (λ (l : List ℕ). (tt, (l, tt))) (answered e f).1)

pub book_to_sheet : Determined sheets_contracts.book_to_sheet.ended sheets.book_to_sheet.Reads.Learnt
book_to_sheet κs a r q s t e f = ((answered e f).0, ap (λ (l : List ℕ). (tt, (tt, (l, tt)))) (answered e f).1)

pub number : Determined sheets_contracts.refusal.SheetRule.number.ended sheets.refusal.SheetRule.number.Reads.Learnt
number κs a r q s t e f = (e ∙ sym f, refl)

-- whatever the bytes
pub asks_sheet_to_book : AsksNothing sheets_contracts.sheet_to_book.ended sheets.sheet_to_book.Reads.Asked
asks_sheet_to_book κs a = tt

pub asks_book_to_sheet : AsksNothing sheets_contracts.book_to_sheet.ended sheets.book_to_sheet.Reads.Asked
asks_book_to_sheet κs a = tt
