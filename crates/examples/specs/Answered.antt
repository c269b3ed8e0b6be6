-- Small right answers, each the only one that the published contract of its function allows, beside `Leaves`. A comment says what wrong programs answer there.
-- Assumes nothing.
use Rattle.std.specs.Prelude.{ℕ, ◌+◌, ◌*◌, ◌^◌, true, ◌≡◌, [], ◌∷◌, ◌++◌, ℤ, pos, neg_ℤ}
use Rattle.std.proofs.Math.Path.{refl, ap, ap₂}
use Rattle.std.proofs.Common.{◌∙◌}
use contract.Lifetimes.{Lfts}
use denote.Triple.Entry.{Args}
use denote.Triple.Clauses.{AtExit}
use Rattle.rules.specs.declared.Form.{Form}
use Rattle.rules.specs.declared.Lots.{Lots}
use Rattle.rules.specs.declared.Trade.{Trade}
use Rattle.rules.specs.declared.Written.{Written}
use Rattle.rules.specs.declared.Written.TheVariants.{Malformed as NoFigure}
use Rattle.rules.specs.declared.Opening.{Opening}
use Rattle.rules.specs.declared.Opening.TheVariants.{Made}
use Rattle.rules.specs.declared.Opening.TheVariants.{Malformed as NoTrade}
use Rattle.rules.specs.declared.Position.{Position}
use Rattle.rules.specs.declared.Terms.{Terms}
use Rattle.rules.specs.declared.Standing.{Standing}
use Rattle.rules.specs.declared.Standing.TheVariants.{Pending, Neither}
use Rattle.rules.specs.Figures.{fen, lots, rate, written_of, figure_of}
use Rattle.rules.specs.Stamp.{stamp, stamp_of}
use Rattle.rules.specs.Opening.{opening_of}
use Rattle.figures.specs.Good.{made_one}
use Rattle.rules.specs.Text.{bytes}
use Rattle.rules.specs.Refusal as refusal
use Rattle.rules.specs.Codes.{is_code}
use Rattle.rules.specs.Fields.{fields_of}
use Rattle.rules.specs.Report.{field, digits}
use Rattle.fields.specs.declared.Found.{Found}
use Rattle.fields.specs.declared.Found.TheVariants.{Short}
use Rattle.fields.specs.declared.Found.TheVariants.{Field as FieldAt}
use Rattle.fields.specs.Reading.{refused_at}
use Rattle.laws.specs.Keys.{digit_of, key_of}
use Rattle.codes.specs.declared.Code.{Code}
use Rattle.codes.specs.declared.Code.TheVariants.{Key, Malformed}
use Rattle.codes.specs.Codes.{code_of, mark_of}
use Rattle.terms.specs.declared.TermsAt.{TermsAt}
use Rattle.terms.specs.declared.TermsAt.TheVariants.{Refused as NoTerms}
use Rattle.terms.specs.Terms.{terms_of}
use Rattle.writing.specs.Written.{written}
use Rattle.report.specs.Sheet.{sheet_bytes}
use Rattle.rules.proofs as rules
use Rattle.rules.specs.contracts as rules_contracts
use Rattle.gain.proofs as gain
use Rattle.gain.specs.contracts as gain_contracts
use Rattle.figures.proofs as figures
use Rattle.figures.specs.contracts as figures_contracts
use Rattle.fields.proofs as fields
use Rattle.fields.specs.contracts as fields_contracts
use Rattle.writing.proofs as writing
use Rattle.writing.specs.contracts as writing_contracts
use Rattle.cascade.proofs as cascade
use Rattle.cascade.specs.contracts as cascade_contracts
use Rattle.codes.proofs as codes
use Rattle.codes.specs.contracts as codes_contracts
use Rattle.terms.proofs as terms-of-a-book
use Rattle.terms.specs.contracts as terms-of-a-book_contracts
use Rattle.entries.proofs as entries
use Rattle.entries.specs.contracts as entries_contracts
use Rattle.printing.proofs as printing
use Rattle.printing.specs.contracts as printing_contracts
use Rattle.report.proofs as report
use Rattle.report.specs.contracts as report_contracts

-- the first of the two, and the greater: 1
module _ (κs : Lfts 0) (a : Args rules_contracts.lesser.signature κs) (r : ℕ) (s : AtExit rules_contracts.lesser.ended κs) (h : rules.lesser.Reads.Learnt κs a r s) where
  pub lesser_of_two : a.0 ≡ 1 → a.1.0 ≡ 0 → r ≡ 0
  lesser_of_two e f = h ∙ rw (e, f) refl

-- times the price in place of the lots: 16; the price for the settlement price: 0
module _ (κs : Lfts 0) (a : Args gain_contracts.gain_of.signature κs) (r : ℤ) (s : AtExit gain_contracts.gain_of.ended κs) (h : gain.gain_of.Reads.Learnt κs a r s) where
  pub gain_of_three : a.0 ≡ true → a.1.0 ≡ fen 10 → a.1.1.0 ≡ fen 8 → a.1.1.1.0 ≡ 3 → r ≡ pos 6
  gain_of_three long settlement price n = h.exact ∙ rw (long, settlement, price, n) refl

abbrev holds : ℕ → ℕ → ℕ → Position
holds long short unfilled = record { long = lots long; short = lots short; unfilled = lots unfilled }

module _ (κs : Lfts 0) (a : Args gain_contracts.counted_pending.signature κs) (r : Lots) (s : AtExit gain_contracts.counted_pending.ended κs) (h : gain.counted_pending.Reads.Learnt κs a r s) where
  -- all that is unfilled: 1
  pub none_pending : a.0 ≡ holds 1 1 1 → r.0 ≡ 0
  none_pending e = h ∙ rw e refl

  -- at most what is held long: 0
  pub one_pending : a.0 ≡ holds 0 1 1 → r.0 ≡ 1
  one_pending e = h ∙ rw e refl

-- locked down, at 100 fen: a loss of 8 percent, and tiers from 16 and 4 percent
abbrev terms : Terms
terms = record { down = true; decimals = 2; settlement = fen 100; loss = rate 8_000; edge1 = rate 16_000; edge2 = rate 4_000 }

module _ (κs : Lfts 0) (a : Args gain_contracts.standing_of.signature κs) (r : Standing) (s : AtExit gain_contracts.standing_of.ended κs) (h : gain.standing_of.Reads.Learnt κs a r s) (under : a.0 ≡ terms) where
  -- with the loss held against tier 1's edge: N; with the total as it is: N
  pub a_loser : a.1.0 ≡ holds 1 0 1 → a.1.1.0 ≡ neg_ℤ (pos 8) → r ≡ Pending
  a_loser e f = h ∙ rw (under, e, f) refl

  -- with the total as it is: P
  pub no_loser : a.1.0 ≡ holds 1 0 1 → a.1.1.0 ≡ pos 8 → r ≡ Neither
  no_loser e f = h ∙ rw (under, e, f) refl

  -- where a loser is pending with no lots pending: P
  pub nothing_pending : a.1.0 ≡ holds 1 0 0 → a.1.1.0 ≡ neg_ℤ (pos 8) → r ≡ Neither
  nothing_pending e f = h ∙ rw (under, e, f) refl

module _ (κs : Lfts 1) (a : Args fields_contracts.field_at.signature κs) (r : Found) (s : AtExit fields_contracts.field_at.ended κs) (h : fields.field_at.Reads.Learnt κs a r s) (front : a.1.0 ≡ 0) where
  -- with the low byte of the size first: a field of one byte
  pub size_of_256 : a.0.now ≡ 68 ∷ 1 ∷ 0 ∷ 85 ∷ [] → r ≡ Short
  unfolding fields_of
  size_of_256 e = h ∙ rw (e, front) refl

  -- where a value may go past the end of the book by a field's head: a field of one byte
  pub one_byte_short : a.0.now ≡ 68 ∷ 0 ∷ 1 ∷ [] → r ≡ Short
  unfolding fields_of
  one_byte_short e = h ∙ rw (e, front) refl

  -- where the size counts the head too: the value ends at 1
  pub one_byte : a.0.now ≡ 68 ∷ 0 ∷ 1 ∷ 85 ∷ [] → r ≡ FieldAt 68 3 4
  unfolding fields_of
  one_byte e = h ∙ rw (e, front) refl

-- the second of three for the third: 1, 2, 2; the third over the second: 1, 3, 0
module _ (κs : Lfts 1) (a : Args writing_contracts.put_three.signature κs) (r : ℕ) (s : AtExit writing_contracts.put_three.ended κs) (h : writing.put_three.Reads.Learnt κs a r s) where
  pub three_put : a.0.now ≡ 0 ∷ 0 ∷ 0 ∷ [] → a.1.0 ≡ 0 → a.1.1.0 ≡ 1 → a.1.1.1.0 ≡ 2 → a.1.1.1.1.0 ≡ 3 → s.0.now ≡ 1 ∷ 2 ∷ 3 ∷ []
  unfolding written
  three_put out at x y z = h.whole ∙ rw (out, at, x, y, z) refl

-- document 01's five in columns. What tier 1 offers: 3; one lot more for each: 15; with those of every standing pending: 19
module _ (κs : Lfts 2) (a : Args cascade_contracts.staked.signature κs) (r : ℕ) (s : AtExit cascade_contracts.staked.ended κs) (h : cascade.staked.Reads.Learnt κs a r s) where
  pub pending_ten : a.0.now ≡ 3 ∷ 0 ∷ 1 ∷ 0 ∷ 2 ∷ [] → a.1.0.now ≡ 1 ∷ 4 ∷ 3 ∷ 6 ∷ 5 ∷ [] → a.1.1.0 ≡ 5 → a.1.1.1.0 ≡ 0 → r ≡ 10
  pending_ten standings stakes count k = h ∙ rw (standings, stakes, count, k) refl

  pub offered_three : a.0.now ≡ 3 ∷ 0 ∷ 1 ∷ 0 ∷ 2 ∷ [] → a.1.0.now ≡ 1 ∷ 4 ∷ 3 ∷ 6 ∷ 5 ∷ [] → a.1.1.0 ≡ 5 → a.1.1.1.0 ≡ 1 → r ≡ 3
  offered_three standings stakes count k = h ∙ rw (standings, stakes, count, k) refl

module _ (κs : Lfts 1) (a : Args codes_contracts.read_code.signature κs) (r : Code) (s : AtExit codes_contracts.read_code.ended κs) (h : codes.read_code.Reads.Learnt κs a r s) where
  -- with the bytes between 9 and A counted: 18 times 37 ^ 11; without the padding: 11
  pub code_a : a.0.now ≡ bytes "A" → r ≡ Key (11 * 37 ^ 11)
  unfolding code_of key_of digit_of is_code
  code_a e = h ∙ rw e refl

  -- where small letters are taken: a key
  pub no_small_letter : a.0.now ≡ bytes "a" → r ≡ Malformed
  unfolding code_of is_code
  no_small_letter e = h ∙ rw e refl

-- with a lock of two bytes: D is taken, and the book is cut short behind it
module _ (κs : Lfts 1) (a : Args terms-of-a-book_contracts.read_terms.signature κs) (r : TermsAt) (s : AtExit terms-of-a-book_contracts.read_terms.ended κs) (h : terms-of-a-book.read_terms.Reads.Learnt κs a r s) where
  pub lock_of_two : a.0.now ≡ field "D" (bytes "DD") → r ≡ NoTerms (refused_at refusal.malformed 0)
  unfolding terms_of fields_of
  lock_of_two e = h ∙ rw e refl

-- by 1,000: 44; the mark of its half: 1
module _ (κs : Lfts 0) (a : Args codes_contracts.mark_of.signature κs) (r : ℕ) (s : AtExit codes_contracts.mark_of.ended κs) (h : codes.mark_of.Reads.Learnt κs a r s) where
  pub mark_of_2044 : a.0 ≡ 2_044 → r ≡ 2
  unfolding mark_of
  mark_of_2044 e = h ∙ rw e refl

-- without the standing's byte: 13; with two tags: 11
module _ (κs : Lfts 0) (a : Args entries_contracts.reported_length.signature κs) (r : ℕ) (s : AtExit entries_contracts.reported_length.ended κs) (h : entries.reported_length.Reads.Learnt κs a r s) where
  pub length_of_a_customer : a.0 ≡ 2 → a.1.0 ≡ 12 → r ≡ 14
  unfolding digits
  length_of_a_customer e f = h ∙ rw (e, f) refl

-- the total twice: 8; one tag: 6
module _ (κs : Lfts 0) (a : Args entries_contracts.head_length.signature κs) (r : ℕ) (s : AtExit entries_contracts.head_length.ended κs) (h : entries.head_length.Reads.Learnt κs a r s) where
  pub length_of_the_head : a.0 ≡ 5 → a.1.0 ≡ 12 → r ≡ 9
  unfolding digits
  length_of_the_head e f = h ∙ rw (e, f) refl

-- R before T, and the total once more, are other bytes
module _ (κs : Lfts 1) (a : Args entries_contracts.put_head.signature κs) (r : ℕ) (s : AtExit entries_contracts.put_head.ended κs) (h : entries.put_head.Reads.Learnt κs a r s) where
  pub head_put : a.0.now ≡ bytes "xxxxxxxxx" → a.1.0 ≡ 5 → a.1.1.0 ≡ 12 → s.0.now ≡ field "T" (bytes "5") ++ field "R" (bytes "12")
  unfolding written digits
  head_put out total residue = h.whole ∙ rw (out, total, residue) refl

-- of no customers. The total's digits twice: 8; one byte more: 10
module _ (κs : Lfts 4) (a : Args report_contracts.report_length.signature κs) (r : ℕ) (s : AtExit report_contracts.report_length.ended κs) (h : report.report_length.Reads.Learnt κs a r s) where
  pub length_of_a_report : a.1.1.1.1.0 ≡ 0 → a.1.1.1.1.1.0 ≡ 5 → a.1.1.1.1.1.1.0 ≡ 12 → r ≡ 9
  unfolding sheet_bytes digits
  length_of_a_report count total residue = h ∙ rw (count, total, residue) refl

-- with the residue for the total: "total 12\nleft 5\n"
module _ (κs : Lfts 5) (a : Args report_contracts.put_sheet.signature κs) (r : ℕ) (s : AtExit report_contracts.put_sheet.ended κs) (h : report.put_sheet.Reads.Learnt κs a r s) where
  pub empty_listing :
      a.0.now ≡ bytes "xxxxxxxxxxxxxxxxx" → a.1.1.1.1.1.0 ≡ 0 → a.1.1.1.1.1.1.0 ≡ 5 → a.1.1.1.1.1.1.1.0 ≡ 12 → a.1.1.1.1.1.1.1.1.1.0 ≡ true →
      s.0.now ≡ bytes "total 5\nleft 12\nx"
  unfolding written sheet_bytes digits
  empty_listing out count total residue listed = h.whole ∙ rw (out, count, total, residue, listed) refl

-- a blank for the line feed, a comma before the offset
module _ (κs : Lfts 2) (a : Args printing_contracts.put_printed.signature κs) (r : ℕ) (s : AtExit printing_contracts.put_printed.ended κs) (h : printing.put_printed.Reads.Learnt κs a r s) where
  pub customer_put : a.0.now ≡ bytes "xxxxxxxx" → a.1.0 ≡ 0 → a.1.1.0.now ≡ bytes "P1" → a.1.1.1.0 ≡ Pending → a.1.1.1.1.0 ≡ 6 → s.0.now ≡ bytes "P1 P 6\nx"
  unfolding written digits
  customer_put out at code standing offset = h.whole ∙ rw (out, at, code, standing, offset) refl

-- no line feed behind the total, the residue as the total
module _ (κs : Lfts 1) (a : Args printing_contracts.put_printed_head.signature κs) (r : ℕ) (s : AtExit printing_contracts.put_printed_head.ended κs) (h : printing.put_printed_head.Reads.Learnt κs a r s) where
  pub total_put : a.0.now ≡ bytes "xxxxxxxxxxxxxxxxx" → a.1.0 ≡ 5 → a.1.1.0 ≡ 12 → s.0.now ≡ bytes "total 5\nleft 12\nx"
  unfolding written digits
  total_put out total residue = h.whole ∙ rw (out, total, residue) refl

-- "refused 4 of 13\n", and the place as the number: "refused 13 at 13\n"
module _ (κs : Lfts 1) (a : Args printing_contracts.put_refusal.signature κs) (r : ℕ) (s : AtExit printing_contracts.put_refusal.ended κs) (h : printing.put_refusal.Reads.Learnt κs a r s) where
  pub refusal_put : a.0.now ≡ bytes "xxxxxxxxxxxxxxxxx" → a.1.0 ≡ 4 → a.1.1.0 ≡ 13 → s.0.now ≡ bytes "refused 4 at 13\nx"
  unfolding written digits
  refusal_put out number place = h.whole ∙ rw (out, number, place) refl

-- prices up to 9999998
module _ (κs : Lfts 0) (a : Args figures_contracts.price_form.signature κs) (r : Form) (s : AtExit figures_contracts.price_form.ended κs) (h : figures.price_form.Reads.Learnt κs a r s) where
  pub largest_price : r.most ≡ 9_999_999
  largest_price = ap (λ (f : Form). f.most) h

-- figures of eight digits: 12345678, and 12345678 with two decimals
module _ (κs : Lfts 1) (a : Args figures_contracts.read_written.signature κs) (r : Written) (s : AtExit figures_contracts.read_written.ended κs) (h : figures.read_written.Reads.Learnt κs a r s) where
  pub eight_digits : a.0.now ≡ bytes "12345678" → r ≡ NoFigure
  unfolding written_of
  eight_digits e = h ∙ ap written_of e

  pub eight_with_decimals : a.0.now ≡ bytes "123456.78" → r ≡ NoFigure
  unfolding written_of
  eight_with_decimals e = h ∙ ap written_of e

abbrev made : ℕ → ℕ → Trade
made day minutes = record { bought = true; price = fen 40_000; lots = lots 25; stamp = stamp (day * 1_440 + minutes) }

module _ (κs : Lfts 1) (a : Args figures_contracts.read_opening.signature κs) (r : Opening) (s : AtExit figures_contracts.read_opening.ended κs) (h : figures.read_opening.Reads.Learnt κs a r s) where
  -- the day for the hour, and the hour for the day: 20250115 at 1030
  pub day_and_hour : a.0.now ≡ bytes "400.00 25 20250110 1530" → a.1.0 ≡ true → r ≡ Made (made 20_250_110 1_180) 2
  unfolding opening_of written_of figure_of stamp_of
  day_and_hour e f = h ∙ ap₂ (λ v b. opening_of b v) e f

  -- eight digits before the blank
  pub no_price : a.0.now ≡ bytes "123456.78 25 20250115 2031" → a.1.0 ≡ true → r ≡ NoTrade
  unfolding opening_of written_of figure_of stamp_of
  no_price e f = h ∙ ap₂ (λ v b. opening_of b v) e f

-- the day alone, without the time
module _ (κs : Lfts 1) (a : Args figures_contracts.read_again.signature κs) (r : Trade) (s : AtExit figures_contracts.read_again.ended κs) (h : figures.read_again.Reads.Learnt κs a r s) where
  pub day_and_time : a.0.now ≡ bytes "400.00 25 20250115 2031" → a.1.0 ≡ true → r ≡ made 20_250_115 41
  unfolding opening_of written_of figure_of stamp_of
  day_and_time e f = (made_one (opening_of a.1.0 a.0.now) r (made 20_250_115 41) h.0 2 h.1 (ap₂ (λ v b. opening_of b v) e f)).0
