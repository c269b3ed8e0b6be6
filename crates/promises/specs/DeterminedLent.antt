-- The same of the functions that put bytes into a lent buffer or lots into lent columns, and of the call: see `Determined`.
-- Assumes nothing.
use Rattle.std.specs.Prelude.{ℕ, ◌≡◌, refl, List}
use Rattle.std.proofs.Common.{sym, ap, ◌∙◌}
use Rattle.rules.specs.Book.{Verdict, Refused, Accepted, judge}
use Rattle.writing.specs.Written.{Wrote}
use Rattle.roll.specs.declared.Roll.{Roll}
use Rattle.roll.specs.Roll.{Columns, Rolled}
use Rattle.rules.specs.Answer.{Answer as Answer01}
use Rattle.answers.specs.declared.Answer.{Answer}
use Rattle.allotment.specs.declared.Listing.{Listing}
use Rattle.answers.specs.Answered.{Answered}
use Rattle.allotment.specs.Listed.{Judged}
use Rattle.columns.specs.View.{Runs, runs, Viewed}
use Rattle.division.proofs as division
use Rattle.division.specs.contracts as division_contracts
use Rattle.cascade.proofs as cascade
use Rattle.cascade.specs.contracts as cascade_contracts
use Rattle.writing.proofs as writing
use Rattle.writing.specs.contracts as writing_contracts
use Rattle.entries.proofs as entries
use Rattle.entries.specs.contracts as entries_contracts
use Rattle.printing.proofs as printing
use Rattle.printing.specs.contracts as printing_contracts
use Rattle.roll.proofs as roll
use Rattle.roll.specs.contracts as roll_contracts
use Rattle.report.proofs as report
use Rattle.report.specs.contracts as report_contracts
use Rattle.reasons.proofs as reasons
use Rattle.reasons.specs.contracts as reasons_contracts
use Rattle.allotment.proofs as allotment
use Rattle.allotment.specs.contracts as allotment_contracts
use Rattle.columns.proofs as columns
use Rattle.columns.specs.contracts as columns_contracts
use Rattle.rows.proofs as rows
use Rattle.rows.specs.contracts as rows_contracts
use Rattle.frundavel.proofs as frundavel
use Rattle.frundavel.specs.contracts as frundavel_contracts
use Rattle.promises.specs.Determined.{Determined}

-- a contract that names the bytes written into the buffer that is lent first, and the place behind them
wrote : {Rest : Type 0} {rest : Rest} {at r q : ℕ} {bytes entry x y : List ℕ} → Wrote at bytes entry x r → Wrote at bytes entry y q →
    (r ≡ q) × (◌≡◌ {A = List ℕ × Rest} (x, rest) (y, rest))
wrote {Rest} {rest} e f = (e.next ∙ sym f.next, ap (λ b. (b, rest)) (e.whole ∙ sym f.whole))

-- division
pub divide : Determined division_contracts.divide.ended division.divide.Reads.Learnt
divide κs a r q s t e f = (refl, ap (λ lots. (lots, (tt, (tt, (tt, (tt, tt)))))) (e ∙ sym f))

-- cascade
pub staked : Determined cascade_contracts.staked.ended cascade.staked.Reads.Learnt
staked κs a r q s t e f = (e ∙ sym f, refl)

pub run : Determined cascade_contracts.Cascade.run.ended cascade.Cascade.run.Reads.Learnt
run κs a r q s t e f = (e ∙ sym f, refl)

pub run_in : Determined cascade_contracts.run.ended cascade.run.Reads.Learnt
run_in κs a r q s t e f = (e ∙ sym f, refl)

pub run_rows : Determined cascade_contracts.rows.run.ended cascade.rows.run.Reads.Learnt
run_rows κs a r q s t e f = (e ∙ sym f, refl)

pub to_rows : Determined cascade_contracts.rows.to_rows.ended cascade.rows.to_rows.Reads.Learnt
to_rows κs a r q s t e f = (e ∙ sym f, refl)

pub to_columns : Determined cascade_contracts.rows.to_columns.ended cascade.rows.to_columns.Reads.Learnt
to_columns κs a r q s t e f = (
  refl,
  λ i. (tt, (tt, ((e.keyed ∙ sym f.keyed) i, ((e.stood ∙ sym f.stood) i, ((e.staked ∙ sym f.staked) i, ((e.wide ∙ sym f.wide) i, tt)))))),
)

pub tier : Determined cascade_contracts.Cascade.tier.ended cascade.Cascade.tier.Reads.Learnt
tier κs a r q s t e f = (e ∙ sym f, refl)

-- writing
pub put_byte : Determined writing_contracts.put_byte.ended writing.put_byte.Reads.Learnt
put_byte κs a r q s t e f = wrote e f

pub put_three : Determined writing_contracts.put_three.ended writing.put_three.Reads.Learnt
put_three κs a r q s t e f = wrote e f

pub put_bytes : Determined writing_contracts.put_bytes.ended writing.put_bytes.Reads.Learnt
put_bytes κs a r q s t e f = wrote e f

pub digits_length : Determined writing_contracts.digits_length.ended writing.digits_length.Reads.Learnt
digits_length κs a r q s t e f = (e.0 ∙ sym f.0, refl)

pub fill_digits : Determined writing_contracts.fill_digits.ended writing.fill_digits.Reads.Learnt
fill_digits κs a r q s t e f = wrote e f

pub put_digits : Determined writing_contracts.put_digits.ended writing.put_digits.Reads.Learnt
put_digits κs a r q s t e f = wrote e f

pub letter_of : Determined writing_contracts.letter_of.ended writing.letter_of.Reads.Learnt
letter_of κs a r q s t e f = (e ∙ sym f, refl)

-- entries
pub put_reported : Determined entries_contracts.put_reported.ended entries.put_reported.Reads.Learnt
put_reported κs a r q s t e f = wrote e f

pub put_seat : Determined entries_contracts.put_seat.ended entries.put_seat.Reads.Learnt
put_seat κs a r q s t e f = wrote e f

pub put_head : Determined entries_contracts.put_head.ended entries.put_head.Reads.Learnt
put_head κs a r q s t e f = wrote e f

pub reported_length_lem : Determined entries_contracts.reported_length.ended entries.reported_length.Reads.Learnt
reported_length_lem κs a r q s t e f = (e ∙ sym f, refl)

pub seat_length_lem : Determined entries_contracts.seat_length.ended entries.seat_length.Reads.Learnt
seat_length_lem κs a r q s t e f = (e.0 ∙ sym f.0, refl)

pub head_length : Determined entries_contracts.head_length.ended entries.head_length.Reads.Learnt
head_length κs a r q s t e f = (e ∙ sym f, refl)

-- printing
pub put_printed : Determined printing_contracts.put_printed.ended printing.put_printed.Reads.Learnt
put_printed κs a r q s t e f = wrote e f

pub put_printed_head : Determined printing_contracts.put_printed_head.ended printing.put_printed_head.Reads.Learnt
put_printed_head κs a r q s t e f = wrote e f

pub put_worded : Determined printing_contracts.put_worded.ended printing.put_worded.Reads.Learnt
put_worded κs a r q s t e f = wrote e f

pub put_refusal : Determined printing_contracts.put_refusal.ended printing.put_refusal.Reads.Learnt
put_refusal κs a r q s t e f = wrote e f

-- reasons
pub field_at : Determined reasons_contracts.field_at.ended reasons.field_at.Reads.Learnt
field_at κs a r q s t e f = (e ∙ sym f, refl)

pub put_reason : Determined reasons_contracts.put_reason.ended reasons.put_reason.Reads.Learnt
put_reason κs a r q s t e f = wrote e f

pub put_said : Determined reasons_contracts.put_said.ended reasons.put_said.Reads.Learnt
put_said κs a r q s t e f = wrote e f

-- roll: what it returns, and its four columns
module _ (book : List ℕ) (r q : Roll) (k l m n k' l' m' n' : List ℕ) where
  same_roll : (v : Verdict) → Rolled book v k l m n r → Rolled book v k' l' m' n' q → r ≡ q
  same_roll (Refused number place) e f = e ∙ sym f
  same_roll (Accepted terms cs) e f = λ i. record { refusal = (e.0 ∙ sym f.0) i; count = (e.1.counted ∙ sym f.1.counted) i; down = (e.2 ∙ sym f.2) i }

pub read_roll : Determined roll_contracts.read_roll.ended roll.read_roll.Reads.Learnt
read_roll κs a r q s t e f = (
  same_roll a.0.now r q _ _ _ _ _ _ _ _ (judge a.0.now) e.rolled f.rolled,
  ap (λ (c : Columns). (tt, (c.keys, (c.starts, (c.standings, (c.stakes, tt)))))) (e.filled ∙ sym f.filled),
)

-- report
pub standing_of : Determined report_contracts.standing_of.ended report.standing_of.Reads.Learnt
standing_of κs a r q s t e f = (e ∙ sym f, refl)

pub report_length : Determined report_contracts.report_length.ended report.report_length.Reads.Learnt
report_length κs a r q s t e f = (e ∙ sym f, refl)

pub put_sheet : Determined report_contracts.put_sheet.ended report.put_sheet.Reads.Learnt
put_sheet κs a r q s t e f = wrote e f

-- allotment
pub close : Determined allotment_contracts.close.ended allotment.close.Reads.Learnt
close κs a r q s t e f = (e ∙ sym f, refl)

same_listing : (v : Verdict) (r q : Listing) → r.length ≡ q.length → Judged v r.number r.place → Judged v q.number q.place → r ≡ q
same_listing (Refused n place) r q l e f = λ i. record { number = (e.0 ∙ sym f.0) i; place = (e.1 ∙ sym f.1) i; length = l i }
same_listing (Accepted terms cs) r q l e f = λ i. record { number = (e.0 ∙ sym f.0) i; place = (e.1 ∙ sym f.1) i; length = l i }

pub list : Determined allotment_contracts.list.ended allotment.list.Reads.Learnt
list κs a r q s t e f = (
  same_listing (judge a.0.now) r q (e.0.size ∙ sym f.0.size) e.1 f.1,
  ap (λ out. (tt, (out, tt))) (e.0.buffer ∙ sym f.0.buffer),
)

same_answer : {r q : Answer} → r.number ≡ q.number → r.place ≡ q.place → r.length ≡ q.length → r ≡ q
same_answer n p l = λ i. record { number = n i; place = p i; length = l i }

-- a contract that names the three numbers, and the bytes of the buffer that is lent second
answered : {a : Answer01} {r q : Answer} {entry x y : List ℕ} → Answered a r entry x → Answered a q entry y →
    (r ≡ q) × (◌≡◌ {A = Unit {0} × (List ℕ × Unit {0})} (tt, (x, tt)) (tt, (y, tt)))
answered e f = (
  same_answer (e.number ∙ sym f.number) (e.place ∙ sym f.place) (e.length ∙ sym f.length),
  ap (λ out. (tt, (out, tt))) (e.buffer ∙ sym f.buffer),
)

pub allot_in : Determined allotment_contracts.allot_in.ended allotment.allot_in.Reads.Learnt
allot_in κs a r q s t e f = ((answered e f).0, ap (λ out. (tt, (out, (tt, tt)))) (e.buffer ∙ sym f.buffer))

pub frundavel_allot_in_rows : Determined rows_contracts.frundavel_allot_in_rows.ended rows.frundavel_allot_in_rows.Reads.Learnt
frundavel_allot_in_rows κs a r q s t e f = answered e f

pub allot : Determined allotment_contracts.allot.ended allotment.allot.Reads.Learnt
allot κs a r q s t e f = answered e f

-- the calls for C
pub frundavel_allot : Determined frundavel_contracts.frundavel_allot.ended frundavel.frundavel_allot.Reads.Learnt
frundavel_allot κs a r q s t e f = answered e f

pub frundavel_moves : Determined frundavel_contracts.frundavel_moves.ended frundavel.frundavel_moves.Reads.Learnt
frundavel_moves κs a r q s t e f = answered e f

pub frundavel_ladder : Determined frundavel_contracts.frundavel_ladder.ended frundavel.frundavel_ladder.Reads.Learnt
frundavel_ladder κs a r q s t e f = answered e f

pub frundavel_sheet_to_book : Determined frundavel_contracts.frundavel_sheet_to_book.ended frundavel.frundavel_sheet_to_book.Reads.Learnt
frundavel_sheet_to_book κs a r q s t e f = answered e f

pub frundavel_book_to_sheet : Determined frundavel_contracts.frundavel_book_to_sheet.ended frundavel.frundavel_book_to_sheet.Reads.Learnt
frundavel_book_to_sheet κs a r q s t e f = ((answered e f).0, ap (λ out. (tt, (tt, (out, tt)))) (e.buffer ∙ sym f.buffer))

pub frundavel_reason : Determined frundavel_contracts.frundavel_reason.ended frundavel.frundavel_reason.Reads.Learnt
frundavel_reason κs a r q s t e f = (
  (answered e f).0,
  ap (λ (l : Unit {0} × (List ℕ × Unit {0})). (tt, (tt, l))) (answered e f).1,
)

-- columns: the three numbers, and every place of the four runs that are lent behind the book
abbrev lasts : Runs → Unit {0} × (List ℕ × (List ℕ × (List ℕ × (List ℕ × Unit {0}))))
lasts x = (tt, (x.standings, (x.offered, (x.pending, (x.offsets, tt)))))

viewed : {a : (Runs → List ℕ) → Answer01} {r q : Answer} {entry x y : Runs} → Viewed a entry x r → Viewed a entry y q → (r ≡ q) × (lasts x ≡ lasts y)
viewed {x = x} {y = y} e f = (
  same_answer (e.number ∙ sym f.number) (e.place ∙ sym f.place) (e.length ∙ sym f.length),
  λ i. lasts (runs ((e.standings ∙ sym f.standings) i) ((e.offered ∙ sym f.offered) i) ((e.pending ∙ sym f.pending) i) ((e.offsets ∙ sym f.offsets) i)),
)

pub in_columns : Determined columns_contracts.columns.ended columns.columns.Reads.Learnt
in_columns κs a r q s t e f = viewed e f

pub frundavel_columns : Determined frundavel_contracts.frundavel_columns.ended frundavel.frundavel_columns.Reads.Learnt
frundavel_columns κs a r q s t e f = viewed e f
