-- What the parts of the reader answer: the digits at the start of bytes and the number that they write; and what is wrong with a value that
-- could not be read.
-- Assumes nothing.
use Rattle.std.specs.Prelude.{◌≡◌, ℕ, suc, ◌+◌, ◌-◌, ◌*◌, ◌<◌, ◌≤◌, Bool, true, false, cond, not, ◌&&◌, ◌||◌, List, [], ◌∷◌, length, ◌==◌, nat_le, slice_index}
use Prim.Native.Char.{code}
use Rattle.rules.specs.declared.Written.{Written}
use Rattle.rules.specs.declared.Written.TheVariants.{Number as Figured}
use Rattle.rules.specs.declared.Written.TheVariants.{Comma as CommaWritten}
use Rattle.rules.specs.declared.Written.TheVariants.{Malformed as NoFigure}
use Rattle.rules.specs.declared.Figure.{Figure}
use Rattle.rules.specs.declared.Figure.TheVariants.{Comma, Malformed}
use Rattle.rules.specs.declared.Opening.{Opening}
use Rattle.rules.specs.declared.Opening.TheVariants.{Comma as CommaIn}
use Rattle.rules.specs.declared.Opening.TheVariants.{Malformed as NoTrade}
use Rattle.rules.specs.Text.{is}
use Rattle.rules.specs.Figures.{is_digit, all_digits_of, number_after, has}
use Rattle.figures.specs.declared.number.Digits.{Digits}
use Rattle.figures.specs.declared.number.Digits.TheVariants.{Number, Other}

-- the digit that a byte writes, and more than 9 where it writes none
pub record DigitOf (x r : ℕ) : Type 0 where
  pub digit : r ≤ 9 → (is_digit x ≡ true) × (r ≡ x - code "0")
  pub none : 9 < r → is_digit x ≡ false

-- how many digits stand at the start
abbrev pub run : List ℕ → ℕ
run [] = 0
run (x ∷ xs) = cond (is_digit x) (suc (run xs)) 0

-- and the number that they write after the number n
abbrev pub run_number : ℕ → List ℕ → ℕ
run_number n [] = n
run_number n (x ∷ xs) = cond (is_digit x) (run_number (n * 10 + (x - code "0")) xs) n

-- the number that the digits ds write after the number n
abbrev pub digits_after : ℕ → List ℕ → Digits
digits_after n ds = cond (all_digits_of ds) (Number (number_after n ds)) Other

-- as many bytes as there may be digits before a point, with no leading zero
abbrev pub may_be_whole : List ℕ → Bool
may_be_whole ds = nat_le 1 (length ds) && nat_le (length ds) 7 && (not (is "0" (slice_index ds 0)) || length ds == 1)

-- a value that is no figure, and one that is no trade: 4 or 5
abbrev pub no_figure : List ℕ → Written
no_figure v = cond (has "," v) CommaWritten NoFigure

abbrev pub refused_as_of : Written → Figure
refused_as_of (Figured n d) = Malformed
refused_as_of CommaWritten = Comma
refused_as_of NoFigure = Malformed

abbrev pub no_opening : List ℕ → Opening
no_opening v = cond (has "," v) CommaIn NoTrade
