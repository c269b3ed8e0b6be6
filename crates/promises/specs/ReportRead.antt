-- A report's bytes tell the outcome that they are of: its total and residue, and of each line its code, standing, offset and seats with their lots. And
-- they tell nothing else.
-- Assumes nothing.
use Rattle.std.specs.Prelude.{ℕ, ◌≡◌, refl, List, [], ◌∷◌, ◌++◌, map}
use Prim.Native.Char.{code}
use Rattle.std.proofs.Common.{sym, ap, ap₂, ◌∙◌, append-nil}
use Rattle.rules.specs.Fields.{Field, Whole, fields_of}
use Rattle.rules.specs.Book.{Seat}
use Rattle.rules.specs.Seats.{seat_lots}
use Rattle.rules.specs.Cascade.{Line, Outcome}
use Rattle.rules.specs.Report.{digits, letter, field, joined, reported_seat, reported, report}
use Rattle.laws.specs.Digits.{number_digits}
use Rattle.consequences.specs.Framed.{Framed, framed_append, field_framed}
use Rattle.promises.specs.Statement.{SeatEntry, Entry, Told, behind_in, told, seat_bytes, entry_bytes, told_bytes}

unfoldable pub seat_entry_of : Line → Seat → SeatEntry
seat_entry_of l s = record { code = s.code; lots = seat_lots l s }

unfoldable pub entry_of : Line → Entry
entry_of l = record { code = l.code; letter = letter l.standing; lots = l.offset; seats = map (seat_entry_of l) l.seats }

-- ---- the fields of a seat, and of a line

abbrev seat_fields : Line → List Seat → List Field
seat_fields l [] = []
seat_fields l (s ∷ seats) = Whole (code "I") s.code ∷ Whole (code "J") (digits (seat_lots l s)) ∷ seat_fields l seats

seats_framed : (l : Line) (seats : List Seat) → Framed (joined (reported_seat l) seats) (seat_fields l seats)
unfolding reported_seat
seats_framed l [] = λ rest. refl
seats_framed l (s ∷ seats) =
    let i = Whole (code "I") s.code ∷ [] in
    let j = Whole (code "J") (digits (seat_lots l s)) ∷ [] in
    framed_append (reported_seat l s) (joined (reported_seat l) seats) (i ++ j) (seat_fields l seats)
    (framed_append (field "I" s.code) (field "J" (digits (seat_lots l s))) i j (field_framed "I" s.code) (field_framed "J" (digits (seat_lots l s))))
    (seats_framed l seats)

abbrev line_fields : Line → List Field
line_fields l = Whole (code "C") l.code ∷ Whole (code "E") (letter l.standing ∷ []) ∷ Whole (code "O") (digits l.offset) ∷ seat_fields l l.seats

line_framed : (l : Line) → Framed (reported l) (line_fields l)
unfolding reported
line_framed l =
    let c = Whole (code "C") l.code ∷ [] in
    let e = Whole (code "E") (letter l.standing ∷ []) ∷ [] in
    let o = Whole (code "O") (digits l.offset) ∷ [] in
    let c-bytes = field "C" l.code in
    let e-bytes = field "E" (letter l.standing ∷ []) in
    let o-bytes = field "O" (digits l.offset) in
    framed_append (c-bytes ++ e-bytes ++ o-bytes) (joined (reported_seat l) l.seats) (c ++ e ++ o) (seat_fields l l.seats)
    (framed_append (c-bytes ++ e-bytes) o-bytes (c ++ e) o
    (framed_append c-bytes e-bytes c e (field_framed "C" l.code) (field_framed "E" (letter l.standing ∷ [])))
    (field_framed "O" (digits l.offset)))
    (seats_framed l l.seats)

-- ---- read from the last field on

seats_read : (l : Line) (seats : List Seat) (fs : List Field) → (behind_in (seat_fields l seats ++ fs)).seats ≡ map (seat_entry_of l) seats ++ (behind_in fs).seats
unfolding seat_entry_of
seats_read l [] fs = refl
seats_read l (s ∷ seats) fs =
    ap₂ (λ (n : ℕ) (rest : List SeatEntry). record { code = s.code; lots = n } ∷ rest) (number_digits (seat_lots l s)) (seats_read l seats fs)

seats_passed : (l : Line) (seats : List Seat) (fs : List Field) → (behind_in (seat_fields l seats ++ fs)).entries ≡ (behind_in fs).entries
seats_passed l [] fs = refl
seats_passed l (s ∷ seats) fs = seats_passed l seats fs

record Lines (ls : List Line) : Type 0 where
  seats : (behind_in (fields_of (joined reported ls))).seats ≡ []
  entries : (behind_in (fields_of (joined reported ls))).entries ≡ map entry_of ls

lines_read : (ls : List Line) → Lines ls
unfolding fields_of entry_of
lines_read [] = record { seats = refl; entries = refl }
lines_read (l ∷ ls) =
    let rest = lines_read ls in
    let fs = fields_of (joined reported ls) in
    let all : fields_of (joined reported (l ∷ ls)) ≡ line_fields l ++ fs = line_framed l (joined reported ls) in
    let own : (behind_in (seat_fields l l.seats ++ fs)).seats ≡ map (seat_entry_of l) l.seats = seats_read l l.seats fs ∙ rw rest.seats (append-nil _) in
    record { seats = rw all refl; entries = rw (all, number_digits l.offset, own, seats_passed l l.seats fs, rest.entries) refl }

-- what the report of an outcome tells
unfoldable pub told_of : Outcome → Told
told_of o = record { total = o.total; residue = o.residue; entries = map entry_of o.lines }

head_framed : (v u : List ℕ) → Framed (field "T" v ++ field "R" u) (Whole (code "T") v ∷ Whole (code "R") u ∷ [])
head_framed v u = framed_append (field "T" v) (field "R" u) (Whole (code "T") v ∷ []) (Whole (code "R") u ∷ []) (field_framed "T" v) (field_framed "R" u)

pub report_read : (o : Outcome) → told (report o) ≡ told_of o
unfolding told report told_of
report_read o =
    rw (head_framed (digits o.total) (digits o.residue) (joined reported o.lines), number_digits o.total, number_digits o.residue, (lines_read o.lines).entries) refl

-- ---- and nothing else

seats_bytes : (l : Line) (seats : List Seat) → joined (reported_seat l) seats ≡ joined seat_bytes (map (seat_entry_of l) seats)
unfolding reported_seat seat_entry_of
seats_bytes l [] = refl
seats_bytes l (s ∷ seats) = ap (λ rest. reported_seat l s ++ rest) (seats_bytes l seats)

lines_bytes : (ls : List Line) → joined reported ls ≡ joined entry_bytes (map entry_of ls)
unfolding reported entry_of
lines_bytes [] = refl
lines_bytes (l ∷ ls) =
    ap₂ (λ seats rest. field "C" l.code ++ field "E" (letter l.standing ∷ []) ++ field "O" (digits l.offset) ++ seats ++ rest) (seats_bytes l l.seats) (lines_bytes ls)

pub report_bytes : (o : Outcome) → report o ≡ told_bytes (told (report o))
unfolding report told_of
report_bytes o =
    ap (λ rest. field "T" (digits o.total) ++ field "R" (digits o.residue) ++ rest) (lines_bytes o.lines) ∙ ap told_bytes (sym (report_read o))
