-- docs/MOVES.md. Requests [11] and [12], "Refusals": a name for each number. Brought in as `refusal`.
-- Assumes nothing.
use Rattle.std.specs.Prelude.{ℕ}
use Rattle.days.specs.declared.refusal.ListRule.{ListRule}
use Rattle.days.specs.declared.refusal.ListRule.TheVariants.{TooManyDays, Zero, OtherMark, NoDay}

-- "over 2,001 line feeds"
abbrev pub too_many_days : ℕ
too_many_days = 30

-- "a zero price or zero open interest"
abbrev pub zero : ℕ
zero = 31

-- "another letter as the mark"
abbrev pub other_mark : ℕ
other_mark = 32

-- "not of this form"
abbrev pub no_day : ℕ
no_day = 33

-- the number of each rule, as code names it
abbrev pub number_of : ListRule → ℕ
number_of TooManyDays = too_many_days
number_of Zero = zero
number_of OtherMark = other_mark
number_of NoDay = no_day
