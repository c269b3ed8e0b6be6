-- The columns after tier 3 show the outcome's lines: each customer's code and seats in the book, its standing and its offset. So their report and
-- their listing are document 01's.
-- Assumes nothing.
use Rattle.std.specs.Prelude.{ℕ, ◌+◌, ◌-◌, ◌≤◌, ◌<◌, ◌≡◌, not, take, drop}
use Rattle.std.proofs.Math.Path.{refl, sym, ap, ap₂}
use Rattle.std.proofs.Common.{subst, ◌∙◌}
use mathlib.Core.List.{List, [], ◌∷◌, ◌++◌, map, map-map}
use native.Mathlib.Omega.{arith}
use Rattle.std.proofs.Math.ListN.{length, get_or, length-map, get_or-map}
use Rattle.rules.specs.declared.Terms.{Terms}
use Rattle.rules.specs.declared.Standing.{Standing}
use Rattle.rules.specs.declared.Standing.TheVariants.{Neither}
use Rattle.rules.specs.Limits.{most_seats}
use Rattle.rules.specs.Fields.{fields_of}
use Rattle.rules.specs.Book.{Seat, Customer, added, position, net_long}
use Rattle.rules.specs.Standing.{standing}
use Rattle.rules.specs.Seats.{seat_weight, weight_in}
use Rattle.rules.specs.Division.{sum_of}
use Rattle.rules.specs.Cascade.{Line, Outcome, line_of, code_of, pending_of, after, outcome}
use Rattle.rules.specs.Report.{joined, reported, report, printed, listed}
use Rattle.laws.specs.Sums.{up_to, map_up_to, get_d_up_to}
use Rattle.laws.specs.Indices.{map_below, get_d_in}
use Rattle.laws.specs.Keys.{key_of}
use Rattle.laws.specs.Recode.{recode, recode_all}
use Rattle.laws.specs.Sane.{Customers}
use Rattle.laws.specs.Seats.{SaneSeats}
use Rattle.laws.specs.SeatFields.{seats_in}
use Rattle.laws.specs.SeatWeights.{weights_cover}
use Rattle.seats.specs.Dealt.{seats_at}
use Rattle.cascade.specs.declared.Cascade.{Cascade}
use Rattle.cascade.specs.Columns.{standing_of, Columns, columns, lines_of}
use Rattle.cascade.specs.Columns.{line_at as stateLine}
use Rattle.cascade.specs.State.{after_all}
use Rattle.cascade.specs.After.{outcome_of, run_recoded, steady_all}
use Rattle.cascade.specs.Capped.{final, final_at, final_length, capped}
use Rattle.roll.specs.Roll.{Held, Room}
use Rattle.writing.specs.Shown.{shown}
use Rattle.entries.specs.Entries.{report_head, reported_shown, report_head_lem}
use Rattle.printing.specs.Printed.{listed_head, printed_shown, listed_head_lem}
use Rattle.report.specs.Sheet.{size_at, line_from, Sheet, sheet, line_at, sheet_bytes, report_bytes, listing_bytes, Seated, Placed}
use Rattle.allotment.specs.Worked.{at_first}
use Rattle.allotment.specs.Start.{nobody, at, sane_at, in_order, lines_are, few, standing_at, start_steady, code_in, code_short}
use Rattle.allotment.specs.Sides.{side_is}

-- lines that look the same one by one are the same bytes
joined_map : (f : Line → List ℕ) (l : List Line) → joined f l ≡ joined (λ v. v) (map f l)
joined_map f [] = refl
joined_map f (x ∷ l) = ap (λ (v : List ℕ). f x ++ v) (joined_map f l)

abbrev no_line : Line
no_line = record { code = []; seats = []; standing = Neither; offered = 0; pending = 0; offset = 0 }

module _ {book : List ℕ} (terms : Terms) {cs : List Customer} {keys starts standings stakes : List ℕ} {count : ℕ}
    (k : Customers cs) (h : Held book terms cs keys starts standings stakes count) where
  abbrev c : Columns
  c = columns keys standings stakes count

  abbrev ls : List Line
  ls = map (line_of terms) cs

  abbrev done : Cascade
  done = after_all c at_first

  abbrev owed : ℕ
  owed = sum_of pending_of (lines_of c at_first.offset)

  abbrev pub page : Sheet
  page = sheet book starts standings done.offset count done.total (owed - done.total)

  same : recode_all key_of (outcome terms cs) ≡ outcome_of c at_first
  unfolding outcome
  same = run_recoded c at_first refl key_of ls (in_order terms cs k.all) (lines_are terms k h)

  pub lines_shown : lines_of c done.offset ≡ map (recode key_of) (outcome terms cs).lines
  lines_shown = ap (λ (o : Outcome). o.lines) (sym same)

  abbrev lines : List Line
  lines = (outcome terms cs).lines

  count_is : length lines ≡ count
  unfolding outcome
  count_is = final_length ls ∙ length-map cs (line_of terms) ∙ sym h.counted

  module _ (i : ℕ) (l : i < count) where
    abbrev line : Line
    line = get_or lines i no_line

    -- its standing and its offset are the columns'
    row_is : recode key_of line ≡ stateLine c done.offset i
    unfolding lines_of
    row_is =
        sym (get_or-map (recode key_of) lines i no_line)
        ∙ ap (λ (o : Outcome). get_or o.lines i (recode key_of no_line)) same
        ∙ get_d_up_to (stateLine c done.offset) (recode key_of no_line) count i l

    -- it is its customer's, after the three tiers
    line_is : line ≡ final ls (line_of terms (at cs i))
    unfolding outcome
    line_is =
        let below : i < length cs = omega (arith, h.counted) in
        final_at ls i no_line (omega (arith, length-map cs (line_of terms))) ∙ ap (final ls) (get_d_in (line_of terms) cs i nobody no_line below)

    abbrev start : ℕ
    start = get_or starts i 0

    -- its code stands in the book, and its seats behind it
    book_is : take (size_at book start) (drop start book) ≡ (at cs i).code
    book_is = let z = code_in terms k h i l in ap (λ (m : ℕ). take m (drop start book)) z.size ∙ z.bytes

    seats_is : seats_at book (start + size_at book start) ≡ (at cs i).seats
    unfolding seats_at
    seats_is = let z = code_in terms k h i l in ap (λ (m : ℕ). seats_in most_seats (fields_of (drop (start + m) book))) z.size ∙ z.seats

    shown_is : shown line.code line.seats line.standing line.offset ≡ line_at page i
    unfolding after line_of
    shown_is =
        let c = ap code_of line_is ∙ sym book_is in
        let s = ap (λ (x : Line). x.seats) line_is ∙ sym seats_is in
        λ j. shown (c j) (s j) (row_is j).standing (row_is j).offset

    -- nobody's offset is above what its seats weigh
    abbrev owns : Standing
    owns = standing_of (get_or standings i 0)

    side : weight_in (line_from book start owns (get_or done.offset i 0)) ≡ seat_weight owns (not terms.down)
    side =
        ap₂ (λ (s : Standing) (seats : List Seat). seat_weight s (net_long (added seats))) (standing_at terms k h i l) seats_is
        ∙ side_is terms (at cs i)
        ∙ ap (λ (s : Standing). seat_weight s (not terms.down)) (sym (standing_at terms k h i l))

    most : get_or done.offset i 0 ≤ sum_of (seat_weight owns (not terms.down)) (seats_at book (start + size_at book start))
    unfolding line_of
    most =
        let c = at cs i in
        let s = standing terms c in
        let weights : sum_of (seat_weight owns (not terms.down)) (seats_at book (start + size_at book start)) ≡ sum_of (seat_weight s (net_long (position c))) c.seats =
        ap₂ (λ (t : Standing) (seats : List Seat). sum_of (seat_weight t (not terms.down)) seats) (standing_at terms k h i l) seats_is
        ∙ ap (λ (w : Seat → ℕ). sum_of w c.seats) (sym (side_is terms c)) in
        omega (
          arith,
          weights,
          weights_cover s c.seats,
          capped ls (line_of terms c),
          ap (λ (x : Line). x.offset) line_is,
          ap (λ (x : Line). x.offset) row_is,
        )

    pub seated : Seated book start owns (get_or done.offset i 0) (not terms.down)
    seated =
        let z = code_in terms k h i l in
        record {
          behind = z.behind;
          short = omega (arith, z.size, code_short terms k h i l);
          inside = omega (arith, z.size, z.inside);
          due = record { sane = subst SaneSeats (sym seats_is) (sane_at cs k.all i (omega (arith, h.counted))).seats; most = most };
          side = side;
        }

  joined_shown : (f : Line → List ℕ) → ((l : Line) → f l ≡ f (shown l.code l.seats l.standing l.offset)) →
      joined f lines ≡ joined f (map (line_at page) (up_to count))
  joined_shown f e =
      joined_map f lines
      ∙ ap (joined (λ v. v)) (
      ap (map f) (sym (map_up_to no_line lines) ∙ ap (λ (n : ℕ). map (λ i. get_or lines i no_line) (up_to n)) count_is)
      ∙ map-map f (λ i. get_or lines i no_line) (up_to count)
      ∙ map_below (λ i. f (get_or lines i no_line)) (λ i. f (line_at page i)) count (λ i h. e (get_or lines i no_line) ∙ ap f (shown_is i h))
      ∙ sym (map-map f (line_at page) (up_to count))
      )
      ∙ sym (joined_map f (map (line_at page) (up_to count)))

  total_is : (outcome terms cs).total ≡ done.total
  total_is = ap (λ (o : Outcome). o.total) same

  residue_is : (outcome terms cs).residue ≡ owed - done.total
  residue_is = ap (λ (o : Outcome). o.residue) same

  pub report_is : report_bytes page ≡ report (outcome terms cs)
  unfolding sheet_bytes
  report_is = sym (report_head_lem (outcome terms cs) ∙ ap₂ ◌++◌ (ap₂ report_head total_is residue_is) (joined_shown reported reported_shown))

  pub listing_is : listing_bytes page ≡ listed (outcome terms cs)
  unfolding sheet_bytes
  listing_is = sym (listed_head_lem (outcome terms cs) ∙ ap₂ ◌++◌ (ap₂ listed_head total_is residue_is) (joined_shown printed printed_shown))

  pub placed : Room keys starts standings stakes → Placed book starts standings done.offset count (not terms.down)
  placed r =
      record {
        few = few terms k h;
        started = omega (arith, few terms k h, r.for_starts);
        stood = omega (arith, few terms k h, r.for_standings);
        wide = (steady_all c at_first (start_steady terms k h r)).wide;
        seated = seated;
      }
