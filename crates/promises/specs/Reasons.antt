-- docs/RULES.md, sections 6 and 7. Document 01, "Refusal numbers", and requests [4] and [5]: for each rule that one field can break a test of its own, and the order of the rules.
-- Assumes nothing.
use Rattle.std.specs.Prelude.{ℕ, ◌*◌, ◌≡◌, Bool, true, false, cond, not, ◌&&◌, ◌||◌, List, [], ◌∷◌, ◌++◌, length, leb, ltb, eqb}
use Prim.Native.Char.{Char}
use Rattle.rules.specs.declared.Terms.{Terms}
use Rattle.rules.specs.declared.Form.{Form}
use Rattle.rules.specs.Refusal as refusal
use Rattle.rules.specs.Limits.{most_customers, most_seats}
use Rattle.rules.specs.Text.{is, bytes}
use Rattle.rules.specs.Figures.{number_after, price_form, rate_form, held_form, traded_form, has, behind_point, number, is_written, in_range}
use Rattle.rules.specs.Stamp.{digits_of, is_day, is_time}
use Rattle.rules.specs.Opening.{up_to_blank, after_blank}
use Rattle.rules.specs.Codes.{is_code, same}
use Rattle.rules.specs.Book.{Seat, Customer, uncovered, given, seated, Nobody, Open, DueI, DueK, DueH, DueQ, DueSeat, DueTrade, begun, seat_at}
use Rattle.rules.specs.Book.{Due, AtTerm, InGroup, DueD, DueX, DueS, DueL, DueU, DueV}

-- What was read before the field: the terms; the customer whose group is open, or nobody, who has no seats and no trades; the seat of which K, H or Q
-- is due, or one without lots; and the customers up to a C or Z that stands here, with the one whose group it closes.

abbrev pub terms_read : Due → Terms
terms_read (AtTerm term ts) = ts
terms_read (InGroup terms cs g) = terms

abbrev pub customer_read : Due → Customer
customer_read (AtTerm term ts) = begun []
customer_read (InGroup terms cs Nobody) = begun []
customer_read (InGroup terms cs (Open part c)) = c

abbrev pub seat_read : Due → Seat
seat_read (AtTerm term ts) = seat_at [] 0 0 0
seat_read (InGroup terms cs Nobody) = seat_at [] 0 0 0
seat_read (InGroup terms cs (Open DueI c)) = seat_at [] 0 0 0
seat_read (InGroup terms cs (Open (DueK s) c)) = s
seat_read (InGroup terms cs (Open (DueH s) c)) = s
seat_read (InGroup terms cs (Open (DueQ s) c)) = s
seat_read (InGroup terms cs (Open DueSeat c)) = seat_at [] 0 0 0
seat_read (InGroup terms cs (Open DueTrade c)) = seat_at [] 0 0 0

abbrev pub customers_read : Due → List Customer
customers_read (AtTerm term ts) = []
customers_read (InGroup terms cs Nobody) = cs
customers_read (InGroup terms cs (Open part c)) = cs ++ c ∷ []

-- "Terms, each once: D, S, L, U, V", and "X after D", then groups: "After C a group now has 1 to 4 seats, each an I field .. with its own K, H, Q; the
-- customer's trades follow", each B or A; then "Z". The tags that may stand where; "a fifth seat is 3"
abbrev pub belongs : Due → ℕ → Bool
belongs (AtTerm DueD ts) t = is "D" t
belongs (AtTerm DueX ts) t = is "X" t
belongs (AtTerm DueS ts) t = is "S" t
belongs (AtTerm DueL ts) t = is "L" t
belongs (AtTerm DueU ts) t = is "U" t
belongs (AtTerm DueV ts) t = is "V" t
belongs (InGroup terms cs Nobody) t = is "C" t || is "Z" t
belongs (InGroup terms cs (Open DueI c)) t = is "I" t
belongs (InGroup terms cs (Open (DueK s) c)) t = is "K" t
belongs (InGroup terms cs (Open (DueH s) c)) t = is "H" t
belongs (InGroup terms cs (Open (DueQ s) c)) t = is "Q" t
belongs (InGroup terms cs (Open DueSeat c)) t = is "C" t || is "Z" t || is "B" t || is "A" t || is "I" t && ltb (length c.seats) most_seats
belongs (InGroup terms cs (Open DueTrade c)) t = is "C" t || is "Z" t || is "B" t || is "A" t

-- a field of this letter stands here, and it belongs
abbrev pub stands : Char → Due → ℕ → Bool
stands letter due t = is letter t && belongs due t

-- a value is a figure of a form: written as one, with its form's decimals and in its range
abbrev pub is_figure : Form → List ℕ → Bool
is_figure form v = is_written v && eqb (length (behind_point v)) form.decimals && in_range form (number v)

-- the day as eight digits and the time as four, and both are such
abbrev pub is_stamp : List ℕ → List ℕ → Bool
is_stamp day time = digits_of 8 day && digits_of 4 time && is_day (number_after 0 day) && is_time (number_after 0 time)

-- "a price, one blank (0x20), lots", and "a blank, the trading day as eight digits, a blank and the time as four digits"; the price has x decimals
abbrev pub is_trade : ℕ → List ℕ → Bool
is_trade x v =
    let rest = after_blank v in
    let made = after_blank rest in
    is_figure (price_form x) (up_to_blank v) && is_figure traded_form (up_to_blank rest) && is_stamp (up_to_blank made) (after_blank made)

-- the table of tags and values, with "X, one byte 0 or 2", by which every price has x decimals, "I .. formed as a customer code", and "Z, length 0"; no
-- other tag has a form
abbrev pub is_of : ℕ → ℕ → List ℕ → Bool
is_of x t v =
    cond (is "D" t) (same v (bytes "D") || same v (bytes "U"))
    (cond (is "X" t) (same v (bytes "0") || same v (bytes "2"))
    (cond (is "S" t) (is_figure (price_form x) v)
    (cond (is "L" t || is "U" t || is "V" t) (is_figure rate_form v)
    (cond (is "C" t || is "I" t) (is_code v)
    (cond (is "K" t || is "H" t || is "Q" t) (is_figure held_form v)
    (cond (is "B" t || is "A" t) (is_trade x v)
    (cond (is "Z" t) (eqb (length v) 0) true)))))))

-- A rule: its number, and whether a field breaks it, by what was read before the field, its tag t and its value v.
pub record Rule : Type 0 where
  pub number : ℕ
  pub breaks : Due → ℕ → List ℕ → Bool

abbrev rule : ℕ → (Due → ℕ → List ℕ → Bool) → Rule
rule number breaks = record { number = number; breaks = breaks }

-- "the tag doesn't belong there"
abbrev pub rule3 : Rule
rule3 = rule refusal.misplaced (λ due t v. not (belongs due t))

-- "a comma (0x2C) stands in S, L, U, V, K, H, Q, B or A"
abbrev pub rule4 : Rule
rule4 =
    rule refusal.comma (λ due t v.
    (is "S" t || is "L" t || is "U" t || is "V" t || is "K" t || is "H" t || is "Q" t || is "B" t || is "A" t) && has "," v)

-- "a value is otherwise not of its form or range"; "a wrong X value, or decimals other than X, is 5"
abbrev pub rule5 : Rule
rule5 = rule refusal.malformed (λ due t v. not (is_of (terms_read due).decimals t v))

-- "U is not greater than V"
abbrev pub rule6 : Rule
rule6 = rule refusal.edges (λ due t v. stands "V" due t && is_figure rate_form v && leb (terms_read due).edge1.0 (number v))

-- "a customer code was given before"
abbrev pub rule7 : Rule
rule7 = rule refusal.given_before (λ due t v. stands "C" due t && given v (customers_read due))

-- "Q exceeds K when locked down, or H when locked up", and "test 8 is per seat"
abbrev pub rule8 : Rule
rule8 =
    rule refusal.overdrawn (λ due t v.
    let p = (seat_read due).position in
    stands "Q" due t && is_figure held_form v && ltb (cond (terms_read due).down p.long.0 p.short.0) (number v))

-- "the customer's opening trades on the side of its net position sum to less than that position", "at C or Z after a customer"; "test 9 use the sums"
abbrev pub rule9 : Rule
rule9 = rule refusal.uncovered (λ due t v. (stands "C" due t || stands "Z" due t) && uncovered (customer_read due))

-- "a C after 256 customers"
abbrev pub rule10 : Rule
rule10 = rule refusal.too_many (λ due t v. stands "C" due t && leb most_customers (length (customers_read due)))

-- "Refuse a trade price above five times S or below a fifth of S": of every trade, whether its lots count or not
abbrev pub rule12 : Rule
rule12 =
    rule refusal.astray (λ due t v.
    let s = (terms_read due).settlement.0 in
    let price = number (up_to_blank v) in
    (stands "B" due t || stands "A" due t) && is_trade (terms_read due).decimals v && (ltb (5 * s) price || ltb (5 * price) s))

-- "a seat code twice in one customer", and the same code at two customers is good
abbrev pub rule13 : Rule
rule13 = rule refusal.seat_twice (λ due t v. stands "I" due t && seated v (customer_read due).seats)

-- "For one field: 2, 3, then (at C or Z after a customer) 9 for that customer, then 10, 4, 5, then 6 at V, 7 at C, 8 at Q", and "12, at the trade's
-- tag, after 4 and 5 for that field", and "13 .. at its I, after 5". A field has a tag and a value only where 2 is not broken
abbrev pub in_order : List Rule
in_order = rule3 ∷ rule9 ∷ rule10 ∷ rule4 ∷ rule5 ∷ rule12 ∷ rule13 ∷ rule6 ∷ rule7 ∷ rule8 ∷ []

module _ (due : Due) (t : ℕ) (v : List ℕ) where
  -- of rules in order, the first that the field breaks has number n
  pub data FirstOf : List Rule → ℕ → Type 0 where
    here : {r : Rule} {rs : List Rule} → r.breaks due t v ≡ true → FirstOf (r ∷ rs) r.number
    after : {r : Rule} {rs : List Rule} {n : ℕ} → r.breaks due t v ≡ false → FirstOf rs n → FirstOf (r ∷ rs) n

  -- the field breaks none of them
  pub data NoneOf : List Rule → Type 0 where
    done : NoneOf []
    kept : {r : Rule} {rs : List Rule} → r.breaks due t v ≡ false → NoneOf rs → NoneOf (r ∷ rs)

  abbrev pub First : ℕ → Type 0
  First n = FirstOf in_order n

  abbrev pub Sound : Type 0
  Sound = NoneOf in_order
