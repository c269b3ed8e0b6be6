-- docs/MOVES.md. A day's spans depend on that day and the five before it alone; and the table that the code reads is the one of the definitions.
-- Assumes nothing.
use Rattle.std.specs.Prelude.{ℕ, zero, suc, ◌<◌, ◌≡◌, refl, Bool, List, [], ◌∷◌, length, get_or, take}
use Rattle.std.proofs.Common.{sym, ap, ◌∙◌, arith}
use Rattle.days.specs.declared.Metal.{Metal}
use Rattle.days.specs.declared.Metal.TheVariants.{Gold, Silver}
use Rattle.days.specs.declared.Day.{Day}
use Rattle.watch.specs.declared.table.Row.{Row}
use Rattle.watch.specs.Table.{row, row_at, rows_of}
use Rattle.watch.specs.Watch.{moved, grown, back, price_met, interest_met, spans_on, spans_from, spans}
use Rattle.watch.specs.Window.{row_few}

back_take : (n k : ℕ) (ds : List Day) (test : Day → Bool) → n < k → back n (take k ds) test ≡ back n ds test
back_take n zero ds test h = absurd (omega arith)
back_take n (suc k) [] test h = refl
back_take zero (suc k) (d ∷ ds) test h = refl
back_take (suc n) (suc k) (d ∷ ds) test h = back_take n k ds test (omega arith)

price_alone : (ds : List Day) (r : Row) → r.days < 6 → price_met (take 6 ds) r ≡ price_met ds r
price_alone [] r h = refl
price_alone (d ∷ ds) r h = back_take r.days 6 (d ∷ ds) (λ base. moved r.price d.price.0 base.price.0) h

interest_alone : (ds : List Day) (r : Row) → r.days < 6 → interest_met (take 6 ds) r ≡ interest_met ds r
interest_alone [] r h = refl
interest_alone (d ∷ ds) r h = back_take r.days 6 (d ∷ ds) (λ base. grown r.interest d.interest.0 base.interest.0) h

-- the newest of some days, and the five before it
pub six_alone : (metal : Metal) (ds : List Day) → spans_on metal (take 6 ds) ≡ spans_on metal ds
unfolding spans_on
six_alone metal ds =
    rw (
      price_alone ds (row_at metal 0) (row_few metal 0).days,
      price_alone ds (row_at metal 1) (row_few metal 1).days,
      price_alone ds (row_at metal 2) (row_few metal 2).days,
      interest_alone ds (row_at metal 0) (row_few metal 0).days,
      interest_alone ds (row_at metal 1) (row_few metal 1).days,
      interest_alone ds (row_at metal 2) (row_few metal 2).days,
    )

-- day i and those before it, newest first; the days before the first of ds stand newest first
abbrev pub newest : ℕ → List Day → List Day → List Day
newest i recent [] = recent
newest zero recent (d ∷ ds) = d ∷ recent
newest (suc i) recent (d ∷ ds) = newest i (d ∷ recent) ds

byte_at : (metal : Metal) (i : ℕ) (recent ds : List Day) → i < length ds → get_or (spans_from metal recent ds) i 0 ≡ spans_on metal (newest i recent ds)
byte_at metal i recent [] h = absurd (omega arith)
byte_at metal zero recent (d ∷ ds) h = refl
byte_at metal (suc i) recent (d ∷ ds) h = byte_at metal i (d ∷ recent) ds (omega arith)

-- of two lists of one metal: where a day and the five before it are the same, so are its spans
pub alone : (metal : Metal) (ds es : List Day) (i j : ℕ) → i < length ds → j < length es → take 6 (newest i [] ds) ≡ take 6 (newest j [] es) →
    get_or (spans metal ds) i 0 ≡ get_or (spans metal es) j 0
unfolding spans
alone metal ds es i j h k same =
    byte_at metal i [] ds h ∙ sym (six_alone metal (newest i [] ds)) ∙ ap (spans_on metal) same ∙ six_alone metal (newest j [] es) ∙ sym (byte_at metal j [] es k)

-- the first day that can meet a span is day 4
pub first_three : (metal : Metal) (a b c : Day) → spans metal (a ∷ b ∷ c ∷ []) ≡ 0 ∷ 0 ∷ 0 ∷ []
unfolding spans spans_on row_at
first_three Gold a b c = refl
first_three Silver a b c = refl

-- the figures of Articles 12 and 13, row by row
pub gold_rows : rows_of Gold ≡ row 3 10 30 ∷ row 4 12 35 ∷ row 5 14 40 ∷ []
unfolding row_at
gold_rows = refl

pub silver_rows : rows_of Silver ≡ row 3 12 30 ∷ row 4 15 35 ∷ row 5 17 40 ∷ []
unfolding row_at
silver_rows = refl
