-- Wrong answers to books with several seats (request [5]): the contract of `frundavel_allot` allows none of them. Computed.
-- Assumes nothing.
use Rattle.std.specs.Prelude.{ℕ, List, [], ◌∷◌, ◌++◌, length, drop, replicate}
use Prim.Native.String.{String}
use Rattle.rules.specs.Text.{bytes}
use Rattle.rules.specs.Figures.{written_of, figure_of}
use Rattle.rules.specs.Stamp.{stamp_of}
use Rattle.rules.specs.Opening.{opening_of}
use Rattle.rules.specs.Codes.{is_code}
use Rattle.rules.specs.Fields.{fields_of}
use Rattle.rules.specs.Book.{within, step, judge}
use Rattle.rules.specs.Standing.{gain_from, total_gain, standing}
use Rattle.rules.specs.Division.{left_over_of, rank, share_of, share}
use Rattle.rules.specs.Cascade.{line_of, quantity, after, cascade, outcome}
use Rattle.rules.specs.Seats.{seat_lots}
use Rattle.rules.specs.Report.{digits, reported_seat, reported, report}
use Rattle.rules.specs.Answer.{answer}
use Rattle.cases.specs.Case.{Holds, so}
use Rattle.cases.specs.Tables.{gold, bought, seat, seated, end, book, totals, seat_entry, entry_over}
use Rattle.examples.specs.Several.{several, report_with}
use Rattle.examples.specs.Allowed.{Tried, tried, allowed, Contradicted, done, ◌&◌, none_given}

abbrev room : List ℕ
room = replicate 100 255

-- a book is accepted with this report, or refused with a number at a place
abbrev reports : String → List ℕ → List ℕ → Tried
reports name s shown = tried name s room 0 0 (length shown) (shown ++ drop (length shown) room)

abbrev refuses : String → List ℕ → ℕ → ℕ → Tried
refuses name s number place = tried name s room number place 0 room

-- a customer over some seats and with some trades; and its report where it is neither
abbrev over : String → List (List ℕ) → List (List ℕ) → List ℕ
over c seats trades = seated (bytes c) seats trades

abbrev empty : String → List ℕ
empty i = seat i "0" "0" "0"

abbrev nothing : String → List ℕ
nothing i = seat_entry i "0"

abbrev neither : List (List ℕ) → List ℕ
neither seats = totals "0" "0" ++ entry_over "A" "N" "0" seats

-- all that is unfilled is at a seat of net 2, and the sum's net is 7
abbrev capped : List ℕ
capped = book gold (over "P" (seat "1" "5" "3" "5" ∷ seat "2" "5" "0" "0" ∷ []) (bought "440.00 7" ∷ []) ∷ [])

abbrev left : String → List ℕ
left r = totals "0" r ++ entry_over "P" "P" "0" (nothing "1" ∷ nothing "2" ∷ [])

-- Q exceeds K at the second seat, and not in the sum
abbrev overdrawn : List ℕ
overdrawn = book gold (over "A" (seat "1" "9" "0" "0" ∷ seat "2" "5" "0" "6" ∷ []) (bought "400.00 14" ∷ []) ∷ [])

-- the trades cover each seat, and not the sum
abbrev uncovered : List ℕ
uncovered = book gold (over "A" (seat "1" "5" "0" "0" ∷ seat "2" "4" "0" "0" ∷ []) (bought "400.00 8" ∷ []) ∷ [])

abbrev four : List (List ℕ)
four = empty "1" ∷ empty "2" ∷ empty "3" ∷ empty "4" ∷ []

abbrev fifth : List ℕ
fifth = gold ++ over "A" (four ++ empty "5" ∷ []) [] ++ end

abbrev twice : List ℕ
twice = book gold (over "A" (empty "1" ∷ empty "1" ∷ []) [] ∷ [])

abbrev late : List ℕ
late = gold ++ over "A" (empty "1" ∷ []) (bought "400.00 1" ∷ empty "2" ∷ []) ++ end

-- the same seat code at two customers
abbrev shared : List ℕ
shared = book gold (over "A" (empty "1" ∷ []) [] ∷ over "B" (empty "1" ∷ []) [] ∷ [])

-- the right answers, so that a wrong one differs in its one respect
pub several_allowed : Holds "several seats" (allowed (reports "several seats" several (report_with "2" "1" "2" "4" "1")))
unfolding answer written_of figure_of opening_of stamp_of is_code fields_of within step judge gain_from total_gain standing left_over_of rank share_of share line_of quantity after cascade outcome digits seat_lots reported_seat reported report
several_allowed = so

pub capped_allowed : Holds "five are pending" (allowed (reports "five are pending" capped (left "5")))
unfolding answer written_of figure_of opening_of stamp_of is_code fields_of within step judge gain_from total_gain standing left_over_of rank share_of share line_of quantity after cascade outcome digits seat_lots reported_seat reported report
capped_allowed = so

pub fifth_allowed : Holds "a fifth seat is 3" (allowed (refuses "a fifth seat is 3" fifth 3 (length (gold ++ over "A" four []))))
unfolding answer written_of figure_of opening_of stamp_of is_code fields_of within step judge gain_from total_gain standing left_over_of rank share_of share line_of quantity after cascade outcome digits seat_lots reported_seat reported report
fifth_allowed = so

pub twice_allowed : Holds "a seat code twice is 13" (allowed (refuses "a seat code twice is 13" twice 13 (length (gold ++ over "A" (empty "1" ∷ []) []))))
unfolding answer written_of figure_of opening_of stamp_of is_code fields_of within step judge gain_from total_gain standing left_over_of rank share_of share line_of quantity after cascade outcome digits seat_lots reported_seat reported report
twice_allowed = so

abbrev pub wrong : List Tried
wrong =
    reports "of equal remainders the seat that stands first, or the larger seat code" several (report_with "2" "2" "1" "4" "1")
    ∷ reports "a tier's seats by their own nets, or all seats alike" several (report_with "2" "1" "2" "3" "2")
    ∷ reports "a tier's seats by Q" several (report_with "2" "1" "2" "5" "0")
    ∷ reports "P's seats by lots held" several (report_with "1" "3" "1" "4" "1")
    ∷ reports "the first seat has all of it" several (report_with "5" "0" "0" "5" "0")
    ∷ reports "each seat has all of it" several (report_with "5" "5" "5" "5" "5")
    ∷ reports "a seat's spare lots to nobody" several (report_with "1" "1" "1" "3" "1")
    ∷ reports "the seats are left out" several (totals "5" "4" ++ entry_over "P" "P" "5" [] ++ entry_over "N1" "N" "0" [] ++ entry_over "W" "1" "5" [])
    ∷ reports "pending is capped seat by seat" capped (left "2")
    ∷ reports "8 on the sum" overdrawn (neither (nothing "1" ∷ nothing "2" ∷ []))
    ∷ reports "9 seat by seat" uncovered (neither (nothing "1" ∷ nothing "2" ∷ []))
    ∷ reports "a fifth seat is taken" fifth (neither (nothing "1" ∷ nothing "2" ∷ nothing "3" ∷ nothing "4" ∷ nothing "5" ∷ []))
    ∷ reports "a seat code twice is taken" twice (neither (nothing "1" ∷ nothing "1" ∷ []))
    ∷ reports "a seat after a trade is taken" late (neither (nothing "1" ∷ nothing "2" ∷ []))
    ∷ refuses "a seat code twice is told at the customer" twice 13 (length gold)
    ∷ refuses "a seat code of another customer is 13" shared 13 (length (gold ++ over "A" (empty "1" ∷ []) []))
    ∷ []

pub contradicted : Contradicted wrong
unfolding answer written_of figure_of opening_of stamp_of is_code fields_of within step judge gain_from total_gain standing left_over_of rank share_of share line_of quantity after cascade outcome digits seat_lots reported_seat reported report
contradicted = none_given wrong (so & so & so & so & so & so & so & so & so & so & so & so & so & so & so & so & done)
