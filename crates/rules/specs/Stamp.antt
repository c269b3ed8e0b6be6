-- docs/RULES.md, section 4. Request [2]: when a trade was made. "A trade value gains a blank, the trading day as eight digits, a blank and the
-- time as four digits, 0000 to 2359." The day written is the trading day already: nothing is converted.
-- Assumes nothing.
use Rattle.std.specs.Prelude.{ℕ, ◌+◌, ◌*◌, ◌/◌, ◌%◌, List, Bool, cond, not, ◌&&◌, ◌||◌, length, leb, eqb}
use Rattle.rules.specs.declared.Stamp.{Stamp}
use Rattle.rules.specs.declared.Figure.{Figure}
use Rattle.rules.specs.declared.Figure.TheVariants.{Value, Malformed}
use Rattle.rules.specs.Figures.{all_digits_of, number_after}

abbrev pub stamp : ℕ → Stamp
stamp n = record { 0 = n }

-- leap years as they are
abbrev pub leap : ℕ → Bool
leap year = eqb (year % 4) 0 && (not (eqb (year % 100) 0) || eqb (year % 400) 0)

abbrev pub days_in : ℕ → ℕ → ℕ
days_in year month =
    cond (eqb month 2) (cond (leap year) 29 28)
    (cond (eqb month 4 || eqb month 6 || eqb month 9 || eqb month 11) 30 31)

-- a "calendar date from 20000101 to 20991231"
abbrev pub is_date : ℕ → ℕ → ℕ → Bool
is_date year month day = leb 2000 year && leb year 2099 && leb 1 month && leb month 12 && leb 1 day && leb day (days_in year month)

abbrev pub is_day : ℕ → Bool
is_day n = is_date (n / 10_000) (n / 100 % 100) (n % 100)

-- "0000 to 2359": the hour is not above 23, nor the minute above 59
abbrev pub is_time : ℕ → Bool
is_time n = leb (n / 100) 23 && leb (n % 100) 59

-- "minutes since 19:50 taken around the clock": 19:50 is the first minute of a trading day and 19:49 its last; to add 250 is to go back 1,190 of 1,440
abbrev pub minutes : ℕ → ℕ
minutes time = (time / 100 * 60 + time % 100 + 250) % 1_440

-- "Order is by day, then by minutes since 19:50": eight digits are in order as the days are
abbrev pub stamp_number : ℕ → ℕ → ℕ
stamp_number day time = day * 1_440 + minutes time

-- exactly so many digits
abbrev pub digits_of : ℕ → List ℕ → Bool
digits_of n v = eqb (length v) n && all_digits_of v

-- the stamp of a day and a time as they are written
unfoldable pub stamp_of : List ℕ → List ℕ → Figure
stamp_of day time =
    let d = number_after 0 day in
    let t = number_after 0 time in
    cond (digits_of 8 day && digits_of 4 time && is_day d && is_time t) (Value (stamp_number d t)) Malformed
