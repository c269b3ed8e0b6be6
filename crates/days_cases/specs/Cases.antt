-- Both sides of each figure of Articles 12 and 13, each refusal, and wrong readings that the cases refute.
-- Assumes nothing.
use Rattle.std.specs.Prelude.{◌-◌, ◌*◌, min, max, ◌≡◌, refl, List, [], ◌∷◌, false, leb, ltb}
use Rattle.rules.specs.Figures.{written_of, figure_of}
use Rattle.rules.specs.Report.{digits}
use Rattle.days.specs.declared.Metal.TheVariants.{Gold}
use Rattle.days.specs.Lines.{lines_of}
use Rattle.days.specs.Day.{interest_of, judged_day, short_of, long_of, day_of}
use Rattle.days.specs.Listed.{days_from, list_of, verdict_of, judge}
use Rattle.watch.specs.Table.{row_at, rows_of}
use Rattle.watch.specs.Watch.{back, moved, price_met, interest_met, spans_on, spans}
use Rattle.watch.specs.Moves.{kind, day_line, listed, listing}
use Rattle.days_cases.specs.Case.{Case, prints, AllHold, done, ◌&◌, so, Test, gives_by}

abbrev pub gold_up : Case
gold_up = prints "gold, up 10 percent over 3 days" "gold\n100.00 1\n100.00 1\n100.00 1\n110.00 1\n" "days 4\n4 price3\n"

abbrev pub gold_down : Case
gold_down = prints "gold, down 10 percent over 3 days" "gold\n100.00 1\n100.00 1\n100.00 1\n90.00 1\n" "days 4\n4 price3\n"

abbrev pub from_day_before : Case
from_day_before = prints "measured from the day before the first counted day" "gold\n100.00 1\n110.00 1\n110.00 1\n110.00 1\n110.00 1\n" "days 5\n4 price3\n"

abbrev pub open_up : Case
open_up = prints "open interest, up 30 percent over 3 days" "silver\n100.00 10\n100.00 10\n100.00 10\n100.00 13\n" "days 4\n4 open3\n"

abbrev pub open_down : Case
open_down = prints "open interest, down" "silver\n100.00 10\n100.00 10\n100.00 10\n100.00 5\n" "days 4\n"

abbrev pub silver_short : Case
silver_short = prints "silver, 11 percent over 3 days" "silver\n100.00 1\n100.00 1\n100.00 1\n111.00 1\n" "days 4\n"

unfoldable pub table : List Case
table =
    gold_up ∷
    prints "gold, up 9.99" "gold\n100.00 1\n100.00 1\n100.00 1\n109.99 1\n" "days 4\n" ∷
    gold_down ∷
    prints "gold, down 9.99" "gold\n100.00 1\n100.00 1\n100.00 1\n90.01 1\n" "days 4\n" ∷
    from_day_before ∷
    prints "gold, 12 over 4" "gold\n100.00 1\n112.00 1\n112.00 1\n112.00 1\n112.00 1\n" "days 5\n4 price3\n5 price4\n" ∷
    prints "gold, 11.99 over 4" "gold\n100.00 1\n112.00 1\n112.00 1\n112.00 1\n111.99 1\n" "days 5\n4 price3\n" ∷
    prints "gold, 14 over 5" "gold\n100.00 1\n114.00 1\n114.00 1\n114.00 1\n114.00 1\n114.00 1\n" "days 6\n4 price3\n5 price4\n6 price5\n" ∷
    prints "gold, down 13.99 over 5" "gold\n100.00 1\n86.00 1\n86.00 1\n86.00 1\n86.00 1\n86.01 1\n" "days 6\n4 price3\n5 price4\n" ∷
    prints "silver, 12 over 3" "silver\n100.00 1\n100.00 1\n100.00 1\n112.00 1\n" "days 4\n4 price3\n" ∷
    silver_short ∷
    prints "silver, 15 over 4, 17 over 5" "silver\n100.00 1\n117.00 1\n117.00 1\n117.00 1\n115.00 1\n117.00 1\n" "days 6\n4 price3\n5 price4\n6 price5\n" ∷
    open_up ∷
    open_down ∷
    prints "open interest, 12 to 15" "gold\n1.00 12\n1.00 12\n1.00 12\n1.00 15\n" "days 4\n" ∷
    prints "open interest, 35 over 4, 40 over 5" "gold\n1.00 20\n1.00 20\n1.00 28\n1.00 28\n1.00 27\n1.00 28\n" "days 6\n4 open3\n5 open3 open4\n6 open4 open5\n" ∷
    prints "all six" "gold\n100.00 10\n100.00 10\n100.00 10\n100.00 10\n100.00 10\n200.00 99\n" "days 6\n6 price3 price4 price5 open3 open4 open5\n" ∷
    prints "no days" "gold\n" "days 0\n" ∷
    prints "three days" "silver\n1.00 1\n99999.99 9999999999\n0.01 1\n" "days 3\n" ∷
    prints "an empty list" "" "refused 33 at 0\n" ∷
    prints "no line feed behind the metal" "gold" "refused 33 at 0\n" ∷
    prints "another metal" "Gold\n1.00 1\n" "refused 33 at 0\n" ∷
    prints "no line feed behind a day" "gold\n1.00 1\n1.00 1" "refused 33 at 2\n" ∷
    prints "an empty line" "gold\n\n" "refused 33 at 1\n" ∷
    prints "a comma" "gold\n1,00 1\n" "refused 33 at 1\n" ∷
    prints "two blanks" "gold\n1.00  1\n" "refused 33 at 1\n" ∷
    prints "a blank at the end" "gold\n1.00 1 \n" "refused 33 at 1\n" ∷
    prints "one decimal" "gold\n1.0 1\n" "refused 33 at 1\n" ∷
    prints "a leading zero" "gold\n01.00 1\n" "refused 33 at 1\n" ∷
    prints "six digits" "gold\n100000.00 1\n" "refused 33 at 1\n" ∷
    prints "eleven digits" "gold\n1.00 12345678901\n" "refused 33 at 1\n" ∷
    prints "a leading zero of open interest" "gold\n1.00 01\n" "refused 33 at 1\n" ∷
    prints "a carriage return" "gold\n1.00 1\r\n" "refused 33 at 1\n" ∷
    prints "the longer form" "gold\n1.00 1 - 7.000\n" "refused 33 at 1\n" ∷
    prints "a zero price" "gold\n1.00 1\n0.00 1\n" "refused 31 at 2\n" ∷
    prints "zero open interest" "gold\n1.00 0\n" "refused 31 at 1\n" ∷
    prints "33 before 31 in a line" "gold\n0.00 x\n" "refused 33 at 1\n" ∷
    prints "the first bad line" "gold\n0.00 1\nx\n" "refused 31 at 1\n" ∷ []

pub hold : AllHold listing table
unfolding table listing judge verdict_of list_of days_from lines_of day_of short_of long_of judged_day interest_of figure_of written_of spans spans_on row_at listed day_line kind digits
hold =
    so & so & so & so & so & so & so & so & so & so & so & so & so & so & so & so & so & so & so & so &
    so & so & so & so & so & so & so & so & so & so & so & so & so & so & so & so & so & so & done

-- Wrong readings, each the right one but for what its name says.

abbrev pub first_counted : Test
first_counted [] row = false
first_counted (d ∷ ds) row = back (row.days - 1) (d ∷ ds) λ base. moved row.price d.price.0 base.price.0

abbrev pub later_price : Test
later_price [] row = false
later_price (d ∷ ds) row = back row.days (d ∷ ds) λ base. leb (row.price * d.price.0) ((max d.price.0 base.price.0 - min d.price.0 base.price.0) * 100)

abbrev pub either_way : Test
either_way [] row = false
either_way (d ∷ ds) row = back row.days (d ∷ ds) λ base. moved row.interest d.interest.0 base.interest.0

abbrev pub not_exactly : Test
not_exactly [] row = false
not_exactly (d ∷ ds) row = back row.days (d ∷ ds) λ base. ltb (row.price * base.price.0) ((max d.price.0 base.price.0 - min d.price.0 base.price.0) * 100)

pub measured_from_the_first_counted_day : gives_by first_counted interest_met rows_of from_day_before ≡ false
unfolding listing judge verdict_of list_of days_from lines_of day_of short_of long_of judged_day interest_of figure_of written_of spans spans_on row_at listed day_line kind digits
measured_from_the_first_counted_day = refl

pub over_the_later_price : gives_by later_price interest_met rows_of gold_up ≡ false
unfolding listing judge verdict_of list_of days_from lines_of day_of short_of long_of judged_day interest_of figure_of written_of spans spans_on row_at listed day_line kind digits
over_the_later_price = refl

pub open_interest_down : gives_by price_met either_way rows_of open_down ≡ false
unfolding listing judge verdict_of list_of days_from lines_of day_of short_of long_of judged_day interest_of figure_of written_of spans spans_on row_at listed day_line kind digits
open_interest_down = refl

pub silver_by_golds_row : gives_by price_met interest_met (λ metal. rows_of Gold) silver_short ≡ false
unfolding listing judge verdict_of list_of days_from lines_of day_of short_of long_of judged_day interest_of figure_of written_of spans spans_on row_at listed day_line kind digits
silver_by_golds_row = refl

pub exactly_the_figure_not_counted : gives_by not_exactly interest_met rows_of gold_up ≡ false
unfolding listing judge verdict_of list_of days_from lines_of day_of short_of long_of judged_day interest_of figure_of written_of spans spans_on row_at listed day_line kind digits
exactly_the_figure_not_counted = refl
