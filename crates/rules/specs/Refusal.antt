-- docs/RULES.md, section 6.
-- Document 01, "Refusal numbers", and requests [4] and [5]: a name for each number of the table, and for 0. Brought in as `refusal`, so that a definition reads
-- `refusal.overdrawn`.
-- Assumes nothing.
use Rattle.std.specs.Prelude.{ℕ}
use Rattle.rules.specs.declared.refusal.Rule.{Rule}
use Rattle.rules.specs.declared.refusal.Rule.TheVariants.{TooLong, CutShort, Misplaced, Comma, Malformed, Edges, GivenBefore, Overdrawn, Uncovered, TooMany, NoRoom, Astray, SeatTwice}

abbrev pub accepted : ℕ
accepted = 0

-- "the book has more than 60,000 bytes"
abbrev pub too_long : ℕ
too_long = 1

-- "fewer than 3 bytes are left where a field must begin, or its value runs past the end"
abbrev pub cut_short : ℕ
cut_short = 2

-- "the tag doesn't belong there, or bytes follow Z"
abbrev pub misplaced : ℕ
misplaced = 3

-- "a comma (0x2C) stands in S, L, U, V, K, H, Q, B or A"
abbrev pub comma : ℕ
comma = 4

-- "a value is otherwise not of its form or range"
abbrev pub malformed : ℕ
malformed = 5

-- "U is not greater than V"
abbrev pub edges : ℕ
edges = 6

-- "a customer code was given before"
abbrev pub given_before : ℕ
given_before = 7

-- "Q exceeds K when locked down, or H when locked up"
abbrev pub overdrawn : ℕ
overdrawn = 8

-- "the customer's opening trades on the side of its net position sum to less than that position"
abbrev pub uncovered : ℕ
uncovered = 9

-- "a C after 256 customers"
abbrev pub too_many : ℕ
too_many = 10

-- "the report is longer than the lent buffer"
abbrev pub no_room : ℕ
no_room = 11

-- Request [4]: "a trade price above five times S or below a fifth of S"
abbrev pub astray : ℕ
astray = 12

-- Request [5]: "a seat code twice in one customer"
abbrev pub seat_twice : ℕ
seat_twice = 13

-- the number of each rule, as code names it
abbrev pub number_of : Rule → ℕ
number_of TooLong = too_long
number_of CutShort = cut_short
number_of Misplaced = misplaced
number_of Comma = comma
number_of Malformed = malformed
number_of Edges = edges
number_of GivenBefore = given_before
number_of Overdrawn = overdrawn
number_of Uncovered = uncovered
number_of TooMany = too_many
number_of NoRoom = no_room
number_of Astray = astray
number_of SeatTwice = seat_twice
