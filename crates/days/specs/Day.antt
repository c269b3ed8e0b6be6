-- docs/MOVES.md. Requests [11] and [12]: what one line says of a day.
-- Assumes nothing.
use Rattle.std.specs.Prelude.{ℕ, List, Bool, cond, ◌&&◌, ◌||◌, length, get_or, leb, eqb, Option, Some, None, Result, Ok, Err}
use Prim.Native.Char.{code}
use Rattle.rules.specs.declared.Rate.{Rate}
use Rattle.rules.specs.declared.Form.{Form}
use Rattle.rules.specs.declared.Figure.{Figure}
use Rattle.rules.specs.declared.Figure.TheVariants.{Value, Comma, Malformed}
use Rattle.rules.specs.Text.{is, bytes}
use Rattle.rules.specs.Codes.{same}
use Rattle.rules.specs.Figures.{fen, lots, rate, rate_form, plain, number_after, up_to, after, figure_of}
use Rattle.days.specs.declared.Mark.{Mark}
use Rattle.days.specs.declared.Mark.TheVariants.{Unlocked, Up, Down}
use Rattle.days.specs.declared.Day.{Day}
use Rattle.days.specs.declared.refusal.ListRule.{ListRule}
use Rattle.days.specs.declared.refusal.ListRule.TheVariants.{Zero, OtherMark, NoDay}

-- "settlement price as in document 01 or 0.00"
abbrev pub settlement_form : Form
settlement_form = record { decimals = 2; least = 0; most = 9_999_999 }

-- "open interest, 0 or 1 to 10 digits without a leading zero"
abbrev pub is_interest : List ℕ → Bool
is_interest v = leb 1 (length v) && leb (length v) 10 && plain v

unfoldable pub interest_of : List ℕ → Figure
interest_of v = cond (is_interest v) (Value (number_after 0 v)) Malformed

-- "33 not of this form": a figure that is none, also one with a comma
abbrev pub part : {A : Type 0} → Figure → (ℕ → Result A ListRule) → Result A ListRule
part (Value n) next = next n
part Comma next = Err NoDay
part Malformed next = Err NoDay

abbrev pub upper_case : ℕ → Bool
upper_case x = leb (code "A") x && leb x (code "Z")

abbrev pub lower_case : ℕ → Bool
lower_case x = leb (code "a") x && leb x (code "z")

-- "a mark (- not locked, U up, D down)"; "another letter as the mark (another byte there is 33)"
abbrev pub may_mark : ℕ → Bool
may_mark x = is "-" x || upper_case x || lower_case x

abbrev pub marks : ℕ → Bool
marks x = is "-" x || is "U" x || is "D" x

abbrev pub mark_of : ℕ → Mark
mark_of x = cond (is "U" x) Up (cond (is "D" x) Down Unlocked)

-- of a line that is of its form: "31 a zero price or zero open interest", "then 32 for another letter as the mark"
unfoldable pub judged_day : ℕ → ℕ → ℕ → Option Rate → Result Day ListRule
judged_day p q x limit =
    cond (eqb p 0 || eqb q 0) (Err Zero)
    (cond (marks x) (Ok (record { price = fen p; interest = lots q; mark = mark_of x; limit = limit })) (Err OtherMark))

-- what follows the price and its blank: open interest, and nothing more; a day of this form is not locked
unfoldable pub short_of : ℕ → List ℕ → Result Day ListRule
short_of p v = part (interest_of v) λ q. judged_day p q (code "-") None

-- "a price limit as a rate, or - if missing"
unfoldable pub limit_of : ℕ → ℕ → ℕ → List ℕ → Result Day ListRule
limit_of p q x v = cond (same v (bytes "-")) (judged_day p q x None) (part (figure_of rate_form v) λ n. judged_day p q x (Some (rate n)))

-- one byte is a mark
abbrev pub is_mark : List ℕ → Bool
is_mark v = eqb (length v) 1 && may_mark (get_or v 0 0)

-- "a mark, then a blank and its price limit"
unfoldable pub tail_of : ℕ → ℕ → List ℕ → Result Day ListRule
tail_of p q v = cond (is_mark (up_to " " v)) (limit_of p q (get_or v 0 0) (after " " v)) (Err NoDay)

-- open interest, "a blank and a mark ..": the longer form
unfoldable pub long_of : ℕ → List ℕ → Result Day ListRule
long_of p v = part (interest_of (up_to " " v)) λ q. tail_of p q (after " " v)

abbrev pub behind_price : Bool → ℕ → List ℕ → Result Day ListRule
behind_price long p v = cond long (long_of p v) (short_of p v)

-- "settlement price .., a blank, open interest": in the longer form, which the ladder reads, with a mark and a limit
unfoldable pub day_of : Bool → List ℕ → Result Day ListRule
day_of long v = part (figure_of settlement_form (up_to " " v)) λ p. behind_price long p (after " " v)
