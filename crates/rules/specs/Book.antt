-- docs/RULES.md, sections 3, 6 and 7.
-- Document 01, "The book, field by field" (which tag may stand where), "Refusal numbers" 1 to 10 with their places, 12 of request [4] and 13 of request [5].
-- Assumes nothing.
use Rattle.std.specs.Prelude.{ℕ, ◌+◌, ◌-◌, ◌*◌, min, max, List, [], ◌∷◌, ◌++◌, Bool, true, false, cond, not, ◌&&◌, ◌||◌, length, leb, ltb, eqb}
use Rattle.rules.specs.declared.Fen.{Fen}
use Rattle.rules.specs.declared.Terms.{Terms}
use Rattle.rules.specs.declared.Position.{Position}
use Rattle.rules.specs.declared.Trade.{Trade}
use Rattle.rules.specs.declared.Figure.{Figure}
use Rattle.rules.specs.declared.Figure.TheVariants.{Value, Comma, Malformed}
use Rattle.rules.specs.declared.Opening.{Opening}
use Rattle.rules.specs.declared.Opening.TheVariants.{Made}
use Rattle.rules.specs.declared.Opening.TheVariants.{Comma as CommaIn}
use Rattle.rules.specs.declared.Opening.TheVariants.{Malformed as NoTrade}
use Rattle.rules.specs.Refusal as refusal
use Rattle.rules.specs.Limits.{longest_book, most_customers, most_seats}
use Rattle.rules.specs.Text.{is, bytes}
use Rattle.rules.specs.Figures.{fen, lots, rate, price_form, rate_form, held_form, figure_of}
use Rattle.rules.specs.Opening.{opening_of, among}
use Rattle.rules.specs.Codes.{is_code, same}
use Rattle.rules.specs.Fields.{Field, Whole, Cut, fields_of}
use Rattle.rules.specs.Division.{sum_of}

-- "Net position: the larger of K and H less the smaller, on the larger's side."
abbrev pub net : Position → ℕ
net p = max p.long.0 p.short.0 - min p.long.0 p.short.0

abbrev pub net_long : Position → Bool
net_long p = ltb p.short.0 p.long.0

-- "1 to 4 seats, each an I field (seat code, formed as a customer code) with its own K, H, Q"
pub record Seat : Type 0 where
  pub code : List ℕ
  pub position : Position

-- "a customer may hold through several members, positions added up"
abbrev pub added : List Seat → Position
added seats =
    record {
      long = lots (sum_of (λ (s : Seat). s.position.long.0) seats);
      short = lots (sum_of (λ (s : Seat). s.position.short.0) seats);
      unfilled = lots (sum_of (λ (s : Seat). s.position.unfilled.0) seats);
    }

-- "After C a group now has 1 to 4 seats ..; the customer's trades follow." The seats are in the book's order; the trades are held newest first
pub record Customer : Type 0 where
  pub code : List ℕ
  pub seats : List Seat
  pub trades : List Trade

-- "Net, pending and test 9 use the sums"
abbrev pub position : Customer → Position
position c = added c.seats

-- a trade is on a side: bought for a long position, sold for a short one
abbrev pub on_side : Bool → Trade → Bool
on_side true t = t.bought
on_side false t = not t.bought

abbrev pub opened : Bool → List Trade → ℕ
opened long [] = 0
opened long (t ∷ ts) = cond (on_side long t) t.lots.0 0 + opened long ts

-- 9: "the customer's opening trades on the side of its net position sum to less than that position"
abbrev pub uncovered : Customer → Bool
uncovered c = ltb (opened (net_long (position c)) c.trades) (net (position c))

-- 8: "Q exceeds K when locked down, or H when locked up", and "test 8 is per seat"
abbrev pub overdrawn : Terms → Position → Bool
overdrawn terms p = ltb (cond terms.down p.long.0 p.short.0) p.unfilled.0

-- Request [4]: "Refuse a trade price above five times S or below a fifth of S." Both are in the book's unit, and both ends are good
abbrev pub astray : Fen → Fen → Bool
astray s price = ltb (5 * s.0) price.0 || ltb (5 * price.0) s.0

-- a code that one of a list has
abbrev pub taken : {A : Type 0} → (A → List ℕ) → List ℕ → List A → Bool
taken code v [] = false
taken code v (a ∷ rest) = same (code a) v || taken code v rest

-- 7: "a customer code was given before"
abbrev pub given : List ℕ → List Customer → Bool
given v cs = taken (λ (c : Customer). c.code) v cs

-- 13: "a seat code twice in one customer"
abbrev pub seated : List ℕ → List Seat → Bool
seated v seats = taken (λ (s : Seat). s.code) v seats

-- What one field comes to: a refusal's number, or what it leads to. No place is seen here.
pub data Step (A : Type 0) : Type 0 where
  Stop : ℕ → Step A
  Next : A → Step A

module _ {A : Type 0} where
  -- 3: "the tag doesn't belong there"
  abbrev pub must : Bool → Step A → Step A
  must true next = next
  must false next = Stop refusal.misplaced

  -- a refusal where the test holds
  abbrev pub refuse : ℕ → Bool → Step A → Step A
  refuse n true next = Stop n
  refuse n false next = next

  -- 4 and 5 for a figure
  abbrev pub figure : Figure → (ℕ → Step A) → Step A
  figure (Value n) next = next n
  figure Comma next = Stop refusal.comma
  figure Malformed next = Stop refusal.malformed

  -- 4 and 5 for a trade, whose price has as many decimals as X says
  abbrev pub trade : ℕ → Opening → (Trade → Step A) → Step A
  trade x (Made t d) next = refuse refusal.malformed (not (eqb d x)) (next t)
  trade x CommaIn next = Stop refusal.comma
  trade x NoTrade next = Stop refusal.malformed

  -- "D: one byte: D locked at the lower limit, U locked at the upper"
  abbrev pub lock : List ℕ → (Bool → Step A) → Step A
  lock v next = cond (same v (bytes "D")) (next true) (cond (same v (bytes "U")) (next false) (Stop refusal.malformed))

  -- "X, one byte 0 or 2, says how many decimals every price in the book has"
  abbrev pub places : List ℕ → (ℕ → Step A) → Step A
  places v next = cond (same v (bytes "0")) (next 0) (cond (same v (bytes "2")) (next 2) (Stop refusal.malformed))

-- "C", "1 to 4 seats, each an I field .. with its own K, H, Q", then "opening trades, each B or A": which of a customer's fields is due. A seat that
-- is not read to its end is here, with no lots that are not read; after a seat either one more may come or a trade, and after a trade only trades
pub data Part : Type 0 where
  DueI : Part
  DueK : Seat → Part
  DueH : Seat → Part
  DueQ : Seat → Part
  DueSeat : Part
  DueTrade : Part

-- a customer's group: nobody's yet, or which part is due and the customer as far as it is read
pub data Group : Type 0 where
  Nobody : Group
  Open : Part → Customer → Group

abbrev pub begun : List ℕ → Customer
begun code = record { code = code; seats = []; trades = [] }

-- after its C
abbrev pub after_c : List ℕ → Group
after_c code = Open DueI (begun code)

abbrev pub seat_at : List ℕ → ℕ → ℕ → ℕ → Seat
seat_at code k h q = record { code = code; position = record { long = lots k; short = lots h; unfilled = lots q } }

abbrev pub joined_by : Customer → Seat → Customer
joined_by c s = record { code = c.code; seats = c.seats ++ s ∷ []; trades = c.trades }

abbrev pub traded : Customer → Trade → Customer
traded c t = record { code = c.code; seats = c.seats; trades = among t c.trades }

-- at I: 5, then "13, a seat code twice in one customer, at its I, after 5"
abbrev pub sits : List ℕ → Customer → Step Group
sits v c = refuse refusal.malformed (not (is_code v)) (refuse refusal.seat_twice (seated v c.seats) (Next (Open (DueK (seat_at v 0 0 0)) c)))

-- at B or A: 4 and 5, then "12, at the trade's tag, after 4 and 5 for that field"
abbrev pub trades : Terms → Customer → ℕ → List ℕ → Step Group
trades terms c t v =
    must (is "B" t || is "A" t) (trade terms.decimals (opening_of (is "B" t) v) λ x.
    refuse refusal.astray (astray terms.settlement x.price) (Next (Open DueTrade (traded c x))))

-- The seats and the trades: they depend on the terms and on the customer's own fields alone. "a fifth seat is 3"
unfoldable pub within : Terms → Group → ℕ → List ℕ → Step Group
within terms Nobody t v = Stop refusal.misplaced
within terms (Open DueI c) t v = must (is "I" t) (sits v c)
within terms (Open (DueK s) c) t v = must (is "K" t) (figure (figure_of held_form v) λ k. Next (Open (DueH (seat_at s.code k 0 0)) c))
within terms (Open (DueH s) c) t v =
    must (is "H" t) (figure (figure_of held_form v) λ h. Next (Open (DueQ (seat_at s.code s.position.long.0 h 0)) c))
within terms (Open (DueQ s) c) t v =
    must (is "Q" t) (figure (figure_of held_form v) λ q.
    let seat = seat_at s.code s.position.long.0 s.position.short.0 q in
    refuse refusal.overdrawn (overdrawn terms seat.position) (Next (Open DueSeat (joined_by c seat))))
within terms (Open DueSeat c) t v = cond (is "I" t && ltb (length c.seats) most_seats) (sits v c) (trades terms c t v)
within terms (Open DueTrade c) t v = trades terms c t v

-- a group may end once a seat's Q is read
abbrev pub may_end : Part → Bool
may_end DueI = false
may_end (DueK s) = false
may_end (DueH s) = false
may_end (DueQ s) = false
may_end DueSeat = true
may_end DueTrade = true

-- "Terms, each once: D, S, L, U, V", and "X after D": which of them is due
pub data Term : Type 0 where
  DueD : Term
  DueX : Term
  DueS : Term
  DueL : Term
  DueU : Term
  DueV : Term

-- what is due: a term, with the terms as far as they are read, or a field of the groups
pub data Due : Type 0 where
  AtTerm : Term → Terms → Due
  InGroup : Terms → List Customer → Group → Due

-- no term is read yet
abbrev pub no_terms : Terms
no_terms = record { down = false; decimals = 0; settlement = fen 0; loss = rate 0; edge1 = rate 0; edge2 = rate 0 }

abbrev pub at_front : Due
at_front = AtTerm DueD no_terms

-- the book is being read, or "Z" has ended it
pub data Stage : Type 0 where
  Reading : Due → Stage
  Ended : Terms → List Customer → Stage

-- 3 and 9 at C or Z: the customers, with the one whose group ends here
abbrev pub closed : List Customer → Group → (List Customer → Step Stage) → Step Stage
closed cs Nobody next = next cs
closed cs (Open part c) next = must (may_end part) (refuse refusal.uncovered (uncovered c) (next (cs ++ c ∷ [])))

-- "10: a C after 256 customers", then 5, then 7
abbrev pub opens : Terms → List ℕ → List Customer → Step Stage
opens terms v cs =
    refuse refusal.too_many (leb most_customers (length cs))
    (refuse refusal.malformed (not (is_code v))
    (refuse refusal.given_before (given v cs) (Next (Reading (InGroup terms cs (after_c v))))))

-- "Z, length 0 (another length is 5)"
abbrev pub ends : Terms → List ℕ → List Customer → Step Stage
ends terms v cs = refuse refusal.malformed (ltb 0 (length v)) (Next (Ended terms cs))

abbrev pub goes_on_of : Terms → List Customer → Step Group → Step Stage
goes_on_of terms cs (Stop n) = Stop n
goes_on_of terms cs (Next g) = Next (Reading (InGroup terms cs g))

-- the terms with one more
abbrev pub locked : Terms → Bool → Terms
locked ts d = record { down = d; decimals = ts.decimals; settlement = ts.settlement; loss = ts.loss; edge1 = ts.edge1; edge2 = ts.edge2 }

abbrev pub with_decimals : Terms → ℕ → Terms
with_decimals ts x = record { down = ts.down; decimals = x; settlement = ts.settlement; loss = ts.loss; edge1 = ts.edge1; edge2 = ts.edge2 }

abbrev pub settled : Terms → ℕ → Terms
settled ts s = record { down = ts.down; decimals = ts.decimals; settlement = fen s; loss = ts.loss; edge1 = ts.edge1; edge2 = ts.edge2 }

abbrev pub with_loss : Terms → ℕ → Terms
with_loss ts l = record { down = ts.down; decimals = ts.decimals; settlement = ts.settlement; loss = rate l; edge1 = ts.edge1; edge2 = ts.edge2 }

abbrev pub with_edge1 : Terms → ℕ → Terms
with_edge1 ts u = record { down = ts.down; decimals = ts.decimals; settlement = ts.settlement; loss = ts.loss; edge1 = rate u; edge2 = ts.edge2 }

abbrev pub with_edge2 : Terms → ℕ → Terms
with_edge2 ts v = record { down = ts.down; decimals = ts.decimals; settlement = ts.settlement; loss = ts.loss; edge1 = ts.edge1; edge2 = rate v }

-- "For one field: 2, 3, then (at C or Z after a customer) 9 for that customer, then 10, 4, 5, then 6 at V, 7 at C, 8 at Q." And 13 at I, after 5.
unfoldable pub step : Due → ℕ → List ℕ → Step Stage
step (AtTerm DueD ts) t v = must (is "D" t) (lock v λ d. Next (Reading (AtTerm DueX (locked ts d))))
step (AtTerm DueX ts) t v = must (is "X" t) (places v λ x. Next (Reading (AtTerm DueS (with_decimals ts x))))
step (AtTerm DueS ts) t v = must (is "S" t) (figure (figure_of (price_form ts.decimals) v) λ s. Next (Reading (AtTerm DueL (settled ts s))))
step (AtTerm DueL ts) t v = must (is "L" t) (figure (figure_of rate_form v) λ l. Next (Reading (AtTerm DueU (with_loss ts l))))
step (AtTerm DueU ts) t v = must (is "U" t) (figure (figure_of rate_form v) λ u. Next (Reading (AtTerm DueV (with_edge1 ts u))))
-- 6: "U is not greater than V"
step (AtTerm DueV ts) t v =
    must (is "V" t) (figure (figure_of rate_form v) λ x.
    refuse refusal.edges (leb ts.edge1.0 x) (Next (Reading (InGroup (with_edge2 ts x) [] Nobody))))
step (InGroup terms cs g) t v =
    cond (is "C" t) (closed cs g (opens terms v))
    (cond (is "Z" t) (closed cs g (ends terms v))
    (goes_on_of terms cs (within terms g t v)))

pub data Verdict : Type 0 where
  Refused : ℕ → ℕ → Verdict
  Accepted : Terms → List Customer → Verdict

-- The place of a refusal is the field's tag; of 9, "its C tag", the last one.
abbrev pub placed : ℕ → ℕ → Step Stage → (Stage → Verdict) → Verdict
placed last_c at (Stop n) next = Refused n (cond (eqb n refusal.uncovered) last_c at)
placed last_c at (Next stage) next = next stage

-- "Then fields are judged from the front, and the first that breaks a rule decides." The fields that begin at a place:
-- "2: fewer than 3 bytes are left where a field must begin, or its value runs past the end"; "3: .. or bytes follow Z".
abbrev pub walk : Stage → ℕ → ℕ → List Field → Verdict
walk (Ended terms cs) last_c at [] = Accepted terms cs
walk (Ended terms cs) last_c at (f ∷ fs) = Refused refusal.misplaced at
walk (Reading due) last_c at [] = Refused refusal.cut_short at
walk (Reading due) last_c at (Cut ∷ fs) = Refused refusal.cut_short at
walk (Reading due) last_c at (Whole t v ∷ fs) =
    placed last_c at (step due t v) λ stage. walk stage (cond (is "C" t) at last_c) (at + 3 + length v) fs

-- "1: the book has more than 60,000 bytes", and "Number 1 comes first."
unfoldable pub judge : List ℕ → Verdict
judge s = cond (ltb longest_book (length s)) (Refused refusal.too_long 0) (walk (Reading at_front) 0 0 (fields_of s))
