-- docs/RULES.md, section 4. Document 01, "The book, field by field": what a figure is.
-- Assumes nothing.
use Rattle.std.specs.Prelude.{ℕ, ◌+◌, ◌-◌, ◌*◌, List, [], ◌∷◌, ◌++◌, Bool, true, false, cond, not, ◌&&◌, ◌||◌, length, get_or, leb, eqb}
use Prim.Native.Char.{Char, code}
use Rattle.rules.specs.declared.Fen.{Fen}
use Rattle.rules.specs.declared.Lots.{Lots}
use Rattle.rules.specs.declared.Rate.{Rate}
use Rattle.rules.specs.declared.Form.{Form}
use Rattle.rules.specs.declared.Written.{Written}
use Rattle.rules.specs.declared.Written.TheVariants.{Number}
use Rattle.rules.specs.declared.Written.TheVariants.{Comma as CommaIn}
use Rattle.rules.specs.declared.Written.TheVariants.{Malformed as NoFigure}
use Rattle.rules.specs.declared.Figure.{Figure}
use Rattle.rules.specs.declared.Figure.TheVariants.{Value, Comma, Malformed}
use Rattle.rules.specs.Text.{is}

-- "Prices are in fen, positions in lots and rates in thousandths of a percent, as figures of these forms"
abbrev pub fen : ℕ → Fen
fen n = record { 0 = n }

abbrev pub lots : ℕ → Lots
lots n = record { 0 = n }

abbrev pub rate : ℕ → Rate
rate n = record { 0 = n }

-- "price: 1 to 5 digits, a point, exactly 2 digits; 0.01 to 99999.99". Request [3]: "With X 0 a price is a whole figure from 1 to 9,999,999".
-- How many digits stand before the point, the range says, since no figure has a leading zero
abbrev pub price_form : ℕ → Form
price_form x = record { decimals = x; least = 1; most = 9_999_999 }

-- "rate: 1 or 2 digits, a point, exactly 3 digits; 0.001 to 99.999"
abbrev pub rate_form : Form
rate_form = record { decimals = 3; least = 1; most = 99_999 }

-- "lots: 1 to 7 digits; 0 to 1,000,000 in K, H, Q"
abbrev pub held_form : Form
held_form = record { decimals = 0; least = 0; most = 1_000_000 }

-- "1 to 1,000,000 in a trade"
abbrev pub traded_form : Form
traded_form = record { decimals = 0; least = 1; most = 1_000_000 }

abbrev pub is_digit : ℕ → Bool
is_digit x = leb (code "0") x && leb x (code "9")

abbrev pub all_digits_of : List ℕ → Bool
all_digits_of [] = true
all_digits_of (x ∷ xs) = is_digit x && all_digits_of xs

-- the number that digits write after the number n
abbrev pub number_after : ℕ → List ℕ → ℕ
number_after n [] = n
number_after n (x ∷ xs) = number_after (n * 10 + (x - code "0")) xs

abbrev pub has : Char → List ℕ → Bool
has c [] = false
has c (x ∷ xs) = is c x || has c xs

-- "The part before a point, or a lots figure, has no leading zero unless it is the single digit 0."
abbrev pub plain : List ℕ → Bool
plain ds = all_digits_of ds && (not (is "0" (get_or ds 0 0)) || eqb (length ds) 1)

-- the bytes up to the first of its kind, and those after it
abbrev pub up_to : Char → List ℕ → List ℕ
up_to c [] = []
up_to c (x ∷ xs) = cond (is c x) [] (x ∷ up_to c xs)

abbrev pub after : Char → List ℕ → List ℕ
after c [] = []
after c (x ∷ xs) = cond (is c x) xs (after c xs)

-- the part before a point, and the digits after it
abbrev pub whole : List ℕ → List ℕ
whole v = up_to "." v

abbrev pub behind_point : List ℕ → List ℕ
behind_point v = after "." v

-- all its digits as one number: 400.00 is 40000
abbrev pub number : List ℕ → ℕ
number v = number_after 0 (whole v ++ behind_point v)

-- digits, and where there is a point digits after it; no form has more than 7
abbrev pub is_written : List ℕ → Bool
is_written v =
    leb 1 (length (whole v)) && plain (whole v) && (not (has "." v) || leb 1 (length (behind_point v))) && all_digits_of (behind_point v)
    && leb (length (whole v) + length (behind_point v)) 7

-- Request [3]: "Reading a figure must now answer with the value and the number of decimals written, or say why it is no figure."
unfoldable pub written_of : List ℕ → Written
written_of v = cond (has "," v) CommaIn (cond (is_written v) (Number (number v) (length (behind_point v))) NoFigure)

abbrev pub in_range : Form → ℕ → Bool
in_range form n = leb form.least n && leb n form.most

-- who asks says what it may have
abbrev pub asked : Form → Written → Figure
asked form (Number n d) = cond (eqb d form.decimals && in_range form n) (Value n) Malformed
asked form CommaIn = Comma
asked form NoFigure = Malformed

-- "4: a comma (0x2C) stands in S, L, U, V, K, H, Q, B or A", and "5: a value is otherwise not of its form or range"
unfoldable pub figure_of : Form → List ℕ → Figure
figure_of form v = asked form (written_of v)
