-- Requests [1] and [5] of document 02, "A statement our brokers can read" and "Customers with several seats": what is told of every accepted book, about
-- the standings and the lots that stand in the report's bytes, beside the seats of the book with their K, H and Q. docs/STATEMENT.md has the same in plain
-- words.
-- Assumes nothing.
use Rattle.std.specs.Prelude.{ℕ, ◌+◌, ◌≤◌, ◌<◌, ◌≡◌, Bool, cond, ◌||◌, List, [], ◌∷◌, ◌++◌, map, length, get_or}
use Prim.Native.Char.{Char, code}
use Rattle.rules.specs.declared.Terms.{Terms}
use Rattle.rules.specs.declared.Position.{Position}
use Rattle.rules.specs.Text.{is}
use Rattle.rules.specs.Figures.{number_after}
use Rattle.rules.specs.Fields.{Field, Whole, Cut, fields_of}
use Rattle.rules.specs.Book.{Seat, Customer, Accepted, judge, added, net, net_long, seat_at}
use Rattle.rules.specs.Standing.{counted_pending}
use Rattle.rules.specs.Division.{sum_of}
use Rattle.rules.specs.Report.{digits, field, joined}
use Rattle.laws.specs.Sums.{up_to}
use Rattle.promises.specs.Outcomes.{no_customer}

-- What a report tells of one seat: its code and its lots
pub record SeatEntry : Type 0 where
  pub code : List ℕ
  pub lots : ℕ

-- and of one customer: its code, the letter of its standing, the lots that are offset and its seats
pub record Entry : Type 0 where
  pub code : List ℕ
  pub letter : ℕ
  pub lots : ℕ
  pub seats : List SeatEntry

abbrev pub no_seat : SeatEntry
no_seat = record { code = []; lots = 0 }

abbrev pub no_entry : Entry
no_entry = record { code = []; letter = 0; lots = 0; seats = [] }

pub record Told : Type 0 where
  pub total : ℕ
  pub residue : ℕ
  pub entries : List Entry

-- A report is read from its bytes: T, R, then for each customer C, E and O, and "each customer's O is followed by I and J (lots) for each seat". From
-- the last field on, what stands behind a field: the letter of an E, the number of an O or a J, the seats up to the next C, and the customers from there on
pub record Behind : Type 0 where
  pub letter : ℕ
  pub number : ℕ
  pub seats : List SeatEntry
  pub entries : List Entry

abbrev pub with_field : ℕ → List ℕ → Behind → Behind
with_field t v b =
    cond (is "C" t) (record { letter = 0; number = 0; seats = []; entries = record { code = v; letter = b.letter; lots = b.number; seats = b.seats } ∷ b.entries })
    (cond (is "E" t) (record { letter = get_or v 0 0; number = b.number; seats = b.seats; entries = b.entries })
    (cond (is "I" t) (record { letter = 0; number = 0; seats = record { code = v; lots = b.number } ∷ b.seats; entries = b.entries })
    (record { letter = b.letter; number = number_after 0 v; seats = b.seats; entries = b.entries })))

abbrev pub behind_in : List Field → Behind
behind_in [] = record { letter = 0; number = 0; seats = []; entries = [] }
behind_in (Cut ∷ fs) = record { letter = 0; number = 0; seats = []; entries = [] }
behind_in (Whole t v ∷ fs) = with_field t v (behind_in fs)

abbrev pub nothing : Told
nothing = record { total = 0; residue = 0; entries = [] }

abbrev pub told_in : List Field → Told
told_in [] = nothing
told_in (Cut ∷ fs) = nothing
told_in (Whole t v ∷ []) = nothing
told_in (Whole t v ∷ Cut ∷ fs) = nothing
told_in (Whole t v ∷ Whole r u ∷ fs) = record { total = number_after 0 v; residue = number_after 0 u; entries = (behind_in fs).entries }

unfoldable pub told : List ℕ → Told
told report = told_in (fields_of report)

-- the bytes that tell it
abbrev pub seat_bytes : SeatEntry → List ℕ
seat_bytes s = field "I" s.code ++ field "J" (digits s.lots)

abbrev pub entry_bytes : Entry → List ℕ
entry_bytes e = field "C" e.code ++ field "E" (e.letter ∷ []) ++ field "O" (digits e.lots) ++ joined seat_bytes e.seats

abbrev pub told_bytes : Told → List ℕ
told_bytes t = field "T" (digits t.total) ++ field "R" (digits t.residue) ++ joined entry_bytes t.entries

abbrev pub in_tier : ℕ → Bool
in_tier letter = is "1" letter || is "2" letter || is "3" letter

-- The most that may be offset: the counted pending of a customer that is P, the offered position of one in a tier, which is the whole net position,
-- and nothing of anybody else
abbrev pub stake : ℕ → Position → ℕ
stake letter p = cond (is "P" letter) (counted_pending p) (cond (in_tier letter) (net p) 0)

-- The most that may be offset at a seat: its Q for a customer that is P, its lots held on the customer's net side for one in a tier, and nothing for
-- anybody else
abbrev pub seat_stake : ℕ → Position → Seat → ℕ
seat_stake letter p s =
    cond (is "P" letter) s.position.unfilled.0 (cond (in_tier letter) (cond (net_long p) s.position.long.0 s.position.short.0) 0)

-- what a report tells of the customer at index i and of its seats, and of all whose standing has a letter
module _ (t : Told) where
  abbrev pub letter_at_of : ℕ → ℕ
  letter_at_of i = (get_or t.entries i no_entry).letter

  abbrev pub lots_at : ℕ → ℕ
  lots_at i = (get_or t.entries i no_entry).lots

  abbrev pub seats_at : ℕ → List SeatEntry
  seats_at i = (get_or t.entries i no_entry).seats

  abbrev pub lots_of : Char → ℕ
  lots_of letter = sum_of (λ e. cond (is letter e.letter) e.lots 0) t.entries

-- the seats that the book has of the customer at index i, and its position, "positions added up"
abbrev pub book_seats : List Customer → ℕ → List Seat
book_seats customers i = (get_or customers i no_customer).seats

abbrev pub position_at : List Customer → ℕ → Position
position_at customers i = added (book_seats customers i)

-- a seat of no book
abbrev pub empty_seat : Seat
empty_seat = seat_at [] 0 0 0

module _ (customers : List Customer) (t : Told) where
  -- a tier "has given all": each of its customers is offset for its whole net position
  abbrev pub GaveAll : Char → Type 0
  GaveAll tier = (i : ℕ) → i < length customers → letter_at_of t i ≡ code tier → lots_at t i ≡ net (position_at customers i)

  -- the counted pending of the customer at index i, where it is on the pending side
  abbrev pub pending_at : ℕ → ℕ
  pending_at i = cond (is "P" (letter_at_of t i)) (counted_pending (position_at customers i)) 0

  -- The statement. Its four sentences are those of request [1], and what it says of the seats is request [5]'s.
  pub record Statement : Type 0 where
    -- The report names the book's customers, each in its place.
    pub same_customers : map (λ e. e.code) t.entries ≡ map (λ c. c.code) customers
    -- 1. "The lots offset on the pending side equal those on the gaining side", and each side's are the report's total.
    pub both_sides : lots_of t "P" ≡ lots_of t "1" + lots_of t "2" + lots_of t "3"
    pub the_total : lots_of t "P" ≡ t.total
    -- Total and residue together are what the pending side has counted: "residue is the counted pending of all P customers less the total".
    pub the_residue : t.total + t.residue ≡ sum_of pending_at (up_to (length customers))
    -- 2. "None exceeds its counted pending or its offered position."
    pub none_exceeds : (i : ℕ) → i < length customers → lots_at t i ≤ stake (letter_at_of t i) (position_at customers i)
    -- 3. "A tier gives a lot only when every earlier tier has given all."
    pub second_after_first : 0 < lots_of t "2" → GaveAll "1"
    pub third_after_both : 0 < lots_of t "3" → GaveAll "1" × GaveAll "2"
    -- 4. "Residue above 0 remains only when all three tiers have given all."
    pub residue_after_all : 0 < t.residue → GaveAll "1" × GaveAll "2" × GaveAll "3"
    -- 5. "The customer's offset is divided over its seats": the report names the book's seats, each in its place; no seat's lots exceed its Q, or what it
    -- holds on the customer's net side; and a customer's seats together have its offset.
    pub same_seats : (i : ℕ) → i < length customers → map (λ e. e.code) (seats_at t i) ≡ map (λ s. s.code) (book_seats customers i)
    pub no_seat_exceeds :
        (i : ℕ) → i < length customers → (j : ℕ) → j < length (book_seats customers i) →
        (get_or (seats_at t i) j no_seat).lots ≤ seat_stake (letter_at_of t i) (position_at customers i) (get_or (book_seats customers i) j empty_seat)
    pub seats_add_up : (i : ℕ) → i < length customers → sum_of (λ e. e.lots) (seats_at t i) ≡ lots_at t i

-- The statement of a book and of the bytes of its report, which tell that and nothing else
pub record Stated (book report : List ℕ) : Type 0 where
  pub terms : Terms
  pub customers : List Customer
  pub judged : judge book ≡ Accepted terms customers
  pub nothing_else : report ≡ told_bytes (told report)
  pub statement : Statement customers (told report)
