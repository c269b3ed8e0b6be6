-- What the reader of the figure at the start of bytes answers: its number, its decimals and where it ends, or none.
-- Assumes nothing.
use Rattle.std.specs.Prelude.{◌≡◌, ℕ, ◌+◌, ◌<◌, ◌≤◌, cond, ◌&&◌, List, [], ◌∷◌, length, take, drop, nat_le, slice_index}
use Rattle.rules.specs.Text.{is}
use Rattle.rules.specs.Figures.{all_digits_of}
use Rattle.figures.specs.declared.start.Start.{Start}
use Rattle.figures.specs.declared.start.Start.TheVariants.{Ends}
use Rattle.figures.specs.declared.start.Start.TheVariants.{Other as NoStart}
use Rattle.figures.specs.declared.number.Digits.{Digits}
use Rattle.figures.specs.declared.number.Digits.TheVariants.{Number, Other}
use Rattle.figures.specs.Two.{bytes_at, two_at}
use Rattle.figures.specs.Numbers.{run, run_number, may_be_whole}

-- i digits before the point and k behind it write the number n
abbrev pub pointed : ℕ → ℕ → ℕ → Start
pointed i k n = cond (nat_le 1 k && nat_le (i + k) 7) (Ends n k (i + 1 + k)) NoStart

-- a point, two digits and a blank: the number of the digits
abbrev pub two_alone : List ℕ → Digits
two_alone v =
    cond (nat_le 4 (length v) && is " " (slice_index v 3) && is "." (slice_index v 0)) (cond (all_digits_of (bytes_at v 1)) (Number (two_at v 1)) Other) Other

-- what follows i digits that write the number n
abbrev pub behind : ℕ → ℕ → List ℕ → Start
behind i n [] = Ends n 0 i
behind i n (x ∷ ds) = cond (is "." x) (pointed i (run ds) (run_number n ds)) (Ends n 0 i)

abbrev pub start_of : List ℕ → Start
start_of v = cond (may_be_whole (take (run v) v)) (behind (run v) (run_number 0 v) (drop (run v) v)) NoStart

-- where a blank follows it
abbrev pub before_blank : List ℕ → Start → Start
before_blank v (Ends n d e) = cond (is " " (slice_index v e)) (Ends n d e) NoStart
before_blank v NoStart = NoStart

abbrev pub front_of : List ℕ → Start
front_of v = before_blank v (start_of v)

-- bytes that begin with a figure and go on after it
pub record Fronted (v : List ℕ) : Type 0 where
  pub price : ℕ
  pub places : ℕ
  pub end : ℕ
  pub short : length v ≤ 16
  pub inside : end < length v
  pub read : start_of v ≡ Ends price places end

-- its number, and where it ends
abbrev pub IsFrontedAt : ℕ → ℕ → List ℕ → Type 0
IsFrontedAt price end v = (d : ℕ) × (start_of v ≡ Ends price d end)
