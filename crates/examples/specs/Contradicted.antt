-- Wrong answers to document 01's listing, to books whose prices have other decimals than X says, and to books with a price too far from S: the
-- contract of `frundavel_allot` allows none of them. Computed.
-- Assumes nothing.
use Rattle.std.specs.Prelude.{ℕ, ◌-◌, ◌≡◌, refl, List, [], ◌∷◌, ◌++◌, take, drop, replicate}
use Prim.Native.String.{String}
use Rattle.std.proofs.Common.{sym, ap₂, ◌∙◌, take_at, arith}
use Rattle.std.proofs.Math.Path.{ap}
use Rattle.std.proofs.Math.ListN.{length}
use contract.Lifetimes.{Lfts}
use denote.Triple.Entry.{Args}
use denote.Triple.Clauses.{AtExit}
use Rattle.rules.specs.Text.{bytes}
use Rattle.rules.specs.Figures.{written_of, figure_of}
use Rattle.rules.specs.Stamp.{stamp_of}
use Rattle.rules.specs.Opening.{opening_of}
use Rattle.rules.specs.Codes.{is_code}
use Rattle.rules.specs.Fields.{fields_of}
use Rattle.rules.specs.Book.{within, step, judge}
use Rattle.rules.specs.Standing.{gain_from, total_gain, standing}
use Rattle.rules.specs.Division.{left_over_of, rank, share_of, share}
use Rattle.rules.specs.Cascade.{line_of, quantity, after, cascade, outcome}
use Rattle.rules.specs.Seats.{seat_lots}
use Rattle.rules.specs.Report.{field, digits, reported_seat, reported, report, listing}
use Rattle.rules.specs.Answer.{answer}
use Rattle.cases.specs.Case.{Holds, so}
use Rattle.cases.specs.Tables.{terms_with, gold, bought, sold, bought_as, customer, book, entry}
use Rattle.cases.specs.Cases.{the_listing}
use Rattle.writing.specs.Written.{written_front}
use Rattle.allotment.specs.declared.Listing.{Listing}
use Rattle.allotment.proofs as allotment
use Rattle.allotment.specs.contracts as allotment_contracts
use Rattle.examples.specs.Allowed.{Tried, tried, allowed, Contradicted, done, ◌&◌, none_given}

-- the listing, and the same with a comma in L; buffers filled with one byte
abbrev sound : List ℕ
sound = the_listing "8.000"

abbrev comma : List ℕ
comma = the_listing "8,000"

abbrev room : ℕ → List ℕ
room n = replicate n 255

-- what a report has of a customer with one seat
abbrev line : String → String → String → List ℕ
line code letter lots = entry code letter lots

-- a report of the five customers: the total, the residue, and the lots offset in the listing's order
abbrev told : String → String → String → String → String → String → String → List ℕ
told total residue w3 p2 w1 p1 w2 =
    field "T" (bytes total) ++ field "R" (bytes residue) ++ line "W3" "3" w3 ++ line "P2" "P" p2 ++ line "W1" "1" w1 ++ line "P1" "P" p1 ++ line "W2" "2" w2

abbrev right : List ℕ
right = told "9" "1" "1" "3" "3" "6" "5"

-- number 0, and a report in a buffer of 125 bytes
abbrev reports : String → List ℕ → Tried
reports name shown = tried name sound (room 125) 0 0 (length shown) (shown ++ drop (length shown) (room 125))

-- the same customer twice, without a position
abbrev idle : List ℕ
idle = customer "A" "0" "0" "0" []

abbrev twice : List ℕ
twice = book gold (idle ∷ idle ∷ [])

-- a customer with one lot bought at a price, and its report where it is neither
abbrev one : List ℕ → String → List ℕ
one tms trade = book tms (customer "A" "1" "0" "0" (bought trade ∷ []) ∷ [])

abbrev neither : List ℕ
neither = field "T" (bytes "0") ++ field "R" (bytes "0") ++ line "A" "N" "0"

abbrev takes : String → List ℕ → Tried
takes name s = tried name s (room 40) 0 0 (length neither) (neither ++ drop (length neither) (room 40))

-- a customer with one lot bought at S, before or behind a trade too far from it
abbrev beside : List ℕ → List ℕ → List ℕ
beside first second = book gold (customer "A" "1" "0" "0" (first ∷ second ∷ []) ∷ [])

-- refused with 12 at its first trade
abbrev far : String → List ℕ → Tried
far name s = tried name s (room 40) 12 (length (gold ++ idle)) 0 (room 40)

-- prices with so many decimals, and S so written
abbrev priced : String → String → List ℕ
priced x s = terms_with "D" x s "8.000" "8.000" "4.000"

-- the right answers, so that a wrong one differs in its one respect
pub right_allowed : Holds "the listing" (allowed (reports "the listing" right))
unfolding answer written_of figure_of opening_of stamp_of is_code fields_of within step judge gain_from total_gain standing left_over_of rank share_of share line_of quantity after cascade outcome digits seat_lots reported_seat reported report
right_allowed = so

pub yuan_allowed : Holds "prices in yuan" (allowed (takes "prices in yuan" (one (priced "0" "400") "440 1")))
unfolding answer written_of figure_of opening_of stamp_of is_code fields_of within step judge gain_from total_gain standing left_over_of rank share_of share line_of quantity after cascade outcome digits seat_lots reported_seat reported report
yuan_allowed = so

pub bound_allowed : Holds "five times S" (allowed (takes "five times S" (one gold "2000.00 1")))
unfolding answer written_of figure_of opening_of stamp_of is_code fields_of within step judge gain_from total_gain standing left_over_of rank share_of share line_of quantity after cascade outcome digits seat_lots reported_seat reported report
bound_allowed = so

pub far_allowed : Holds "above five times S" (allowed (far "above five times S" (one gold "2000.01 1")))
unfolding answer written_of figure_of opening_of stamp_of is_code fields_of within step judge gain_from total_gain standing left_over_of rank share_of share line_of quantity after cascade outcome digits seat_lots reported_seat reported report
far_allowed = so

abbrev pub wrong : List Tried
wrong =
    reports "the cascade is not run" (told "0" "10" "0" "0" "0" "0" "0")
    ∷ reports "tier 1 alone" (told "3" "7" "0" "1" "3" "2" "0")
    ∷ reports "of equal remainders the larger code, or the grand total divided once" (told "9" "1" "1" "4" "3" "5" "5")
    ∷ tried "accepted, and nothing is written" sound (room 125) 0 0 0 (room 125)
    ∷ tried "the length is one short" sound (room 125) 0 0 117 (right ++ room 7)
    ∷ tried "a byte behind the report is altered" sound (room 125) 0 0 118 (right ++ room 6 ++ 0 ∷ [])
    ∷ tried "the empty book's answer" sound (room 125) 2 0 0 (room 125)
    ∷ tried "no room, where there is" sound (room 118) 11 118 0 (room 118)
    ∷ tried "a report cut to its room" sound (room 117) 0 0 117 (take 117 right)
    ∷ tried "number and place change places" comma (room 125) 17 4 0 (room 125)
    ∷ tried "refused, and a byte is altered" comma (room 125) 4 17 0 (0 ∷ room 124)
    ∷ tried "a comma is passed over" comma (room 125) 0 0 118 (right ++ room 7)
    ∷ reports "all customers N" (field "T" (bytes "0") ++ field "R" (bytes "0") ++ line "W3" "N" "0" ++ line "P2" "N" "0" ++ line "W1" "N" "0" ++ line "P1" "N" "0" ++ line "W2" "N" "0")
    ∷ reports "the report begins with the second customer" (field "T" (bytes "9") ++ field "R" (bytes "1") ++ line "P2" "P" "3" ++ line "W1" "1" "3" ++ line "P1" "P" "6" ++ line "W2" "2" "5")
    ∷ tried "an entry more than there are customers" sound (room 144) 0 0 140 (right ++ line "W2" "2" "5" ++ room 4)
    ∷ tried "a rate of two decimals is taken" (the_listing "8.00") (room 125) 0 0 118 (right ++ room 7)
    ∷ tried "every book is too long" sound (room 125) 1 0 0 (room 125)
    ∷ tried "bytes after Z are passed over" (sound ++ 0 ∷ []) (room 125) 0 0 118 (right ++ room 7)
    ∷ tried "a code given before is told as one of no form" twice (room 125) 5 (length (book gold (idle ∷ [])) - 3) 0 (room 125)
    ∷ tried "a code given before is passed over" twice (room 58) 0 0 50 (neither ++ line "A" "N" "0" ++ room 8)
    ∷ takes "a trade's price without decimals is taken where X is 2" (one gold "440 1")
    ∷ takes "a trade's price with decimals is taken where X is 0" (one (priced "0" "400") "440.00 1")
    ∷ takes "S has two decimals, whatever X says" (one (priced "0" "400.00") "440 1")
    ∷ takes "X 1 is taken" (one (priced "1" "400.0") "440.0 1")
    ∷ takes "a leading zero is taken where X is 0" (one (priced "0" "400") "0440 1")
    ∷ far "five times S itself is refused" (one gold "2000.00 1")
    ∷ far "a fifth of S itself is refused" (one gold "80.00 1")
    ∷ takes "six times S is taken" (one gold "2400.00 1")
    ∷ takes "a sixth of S is taken" (one gold "66.67 1")
    ∷ takes "a trade that does not count is not judged" (beside (bought "40000.00 1") (bought "400.00 1"))
    ∷ takes "a trade on the other side is not judged" (beside (bought "400.00 1") (sold "40000.00 1"))
    ∷ far "12 before 5: the price of a trade of 0 lots" (one gold "40000.00 0")
    ∷ far "12 before 5: a price without its decimals" (one gold "4000000 1")
    ∷ far "12 before 4: a comma in the lots" (one gold "40000.00 1,0")
    ∷ takes "of somebody short, trades that lack a lot are enough" (book gold (customer "A" "0" "2" "0" (sold "400.00 1" ∷ []) ∷ []))
    ∷ takes "bought trades are taken for trades in order"
    (book gold (customer "A" "1" "0" "1" (bought_as "450.00 1 20250115 1000" ∷ bought_as "400.00 1 20250114 1000" ∷ []) ∷ []))
    ∷ []

pub contradicted : Contradicted wrong
unfolding answer written_of figure_of opening_of stamp_of is_code fields_of within step judge gain_from total_gain standing left_over_of rank share_of share line_of quantity after cascade outcome digits seat_lots reported_seat reported report
contradicted = none_given wrong (
    so & so & so & so & so & so & so & so & so & so & so & so & so & so & so & so & so & so & so & so
    & so & so & so & so & so & so & so & so & so & so & so & so & so & so & so & so & done)

-- What the program's `list` leaves at the front of the buffer, as many bytes as it says, is the listing: a refused book is not listed as one
-- without customers, and an accepted one is not left as its report.
module _ (κs : Lfts 2) (a : Args allotment_contracts.list.signature κs) (r : Listing) (s : AtExit allotment_contracts.list.ended κs) (h : allotment.list.Reads.Learnt κs a r s) where
  pub listed : take r.length s.1.0.now ≡ listing a.0.now
  listed =
      let text = listing a.0.now in
      ap₂ take h.0.size (h.0.buffer ∙ written_front text a.1.0.now) ∙ take_at text (drop (length text) a.1.0.now) (length text) refl

  pub not_without_customers : a.0.now ≡ comma → take r.length s.1.0.now ≡ bytes "total 0\nleft 0\n" → ⊥
  unfolding written_of figure_of opening_of is_code fields_of within step judge digits listing
  not_without_customers book shown =
      let refused : listing a.0.now ≡ bytes "refused 4 at 17\n" = ap listing book in
      absurd (omega (arith, ap length (sym shown ∙ listed ∙ refused)))

  pub not_the_report : a.0.now ≡ sound → take r.length s.1.0.now ≡ right → ⊥
  unfolding written_of figure_of opening_of stamp_of is_code fields_of within step judge gain_from total_gain standing left_over_of rank share_of share line_of quantity after cascade outcome digits seat_lots reported_seat reported listing
  not_the_report book shown =
      let accepted : listing a.0.now ≡ bytes "total 9\nleft 1\nW3 3 1\nP2 P 3\nW1 1 3\nP1 P 6\nW2 2 5\n" = ap listing book in
      absurd (omega (arith, ap length (sym shown ∙ listed ∙ accepted)))
