-- What the reader of a stamp answers, from the last 14 bytes of a trade's value.
-- Assumes nothing.
use Rattle.std.specs.Prelude.{ℕ, ◌+◌, ◌*◌, cond, ◌&&◌, List, take, drop, slice_index}
use Rattle.rules.specs.Text.{is}
use Rattle.rules.specs.Stamp.{is_day, is_time, stamp_number}
use Rattle.figures.specs.declared.number.Digits.{Digits}
use Rattle.figures.specs.declared.number.Digits.TheVariants.{Number, Other}
use Rattle.figures.specs.Numbers.{digits_after}

-- a day of the years 2000 to 2099
abbrev pub day_by : ℕ → ℕ → ℕ → ℕ
day_by y m d = ((2_000 + y) * 100 + m) * 100 + d

abbrev pub stamp_by : ℕ → ℕ → Digits
stamp_by day time = cond (is_day day && is_time time) (Number (stamp_number day time)) Other

abbrev pub then : Digits → (ℕ → Digits) → Digits
then (Number n) next = next n
then Other next = Other

-- ` 20250115 2031`
abbrev pub stamp_in : List ℕ → Digits
stamp_in v =
    cond (is " " (slice_index v 0) && is " " (slice_index v 9))
    (then (digits_after 0 (take 8 (drop 1 v))) λ day. then (digits_after 0 (drop 10 v)) λ time. stamp_by day time)
    Other
