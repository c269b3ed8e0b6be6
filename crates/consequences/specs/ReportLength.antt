-- How long the report of an accepted book can be. A field is 3 bytes and its value. A customer's code has at most 12 bytes, its standing one, and its
-- offset, which is within its own position, 7 digits; so have each of at most four seats and its lots, which are within what is held there. The total
-- and the residue are together what is pending, at most 4,000,000 lots for each of at most 256 customers: 10 digits.
-- Assumes nothing.
use Rattle.std.specs.Prelude.{ℕ, ◌+◌, ◌*◌, ◌^◌, ◌≤◌, ◌<◌, ◌≡◌, Bool, true, false, List, [], ◌∷◌, ◌++◌, map, get_or}
use Prim.Native.Char.{Char}
use Rattle.std.proofs.Math.Path.{refl}
use Rattle.std.proofs.Common.{sym, subst}
use native.Mathlib.Omega.{arith}
use Rattle.std.proofs.Math.ListN.{length, length-append}
use Rattle.rules.specs.declared.Terms.{Terms}
use Rattle.rules.specs.declared.Standing.{Standing}
use Rattle.rules.specs.declared.Standing.TheVariants.{Pending, Tier1, Tier2, Tier3, Neither}
use Rattle.rules.specs.Division.{sum_of}
use Rattle.rules.specs.Limits.{longest_code, most_seats}
use Rattle.rules.specs.Book.{Seat, Customer, added, position, net_long, begun, Accepted, judge}
use Rattle.rules.specs.Standing.{standing}
use Rattle.rules.specs.Cascade.{Line, Outcome, offered_by, pending_by, pending_of, line_of, outcome}
use Rattle.rules.specs.Report.{digits, field, joined, reported_seat, reported, report}
use Rattle.rules.specs.Seats.{seat_weight, seat_lots}
use Rattle.laws.specs.Sums.{sum_index}
use Rattle.laws.specs.Indices.{sum_bound}
use Rattle.laws.specs.CodeLength.{code_length_lem}
use Rattle.laws.specs.Digits.{digits_length_7, digits_length_10}
use Rattle.laws.specs.Seats.{SaneSeat, AllSeats, SaneSeats}
use Rattle.laws.specs.Sane.{Sane, AllSane, sane_long, sane_short, accepted_sane}
use Rattle.consequences.specs.Rearranged.{nobody}
use Rattle.consequences.specs.Within.{within_stake}
use Rattle.consequences.specs.Lines.{lines_many, book_balanced, book_within}
use Rattle.consequences.specs.SeatsDivided.{sane_at, Divided, book_divided}
use Rattle.consequences.specs.Rearrange.{length_joined}

-- what a customer has pending or offers is within its position
stake_most : (t : Standing) {c : Customer} → Sane c → pending_by t (position c) + offered_by t (position c) ≤ 4_000_000
stake_most Pending w = omega (arith, sane_long w, sane_short w)
stake_most Tier1 w = omega (arith, sane_long w, sane_short w)
stake_most Tier2 w = omega (arith, sane_long w, sane_short w)
stake_most Tier3 w = omega (arith, sane_long w, sane_short w)
stake_most Neither w = omega arith

-- all that is pending
pending_most : (terms : Terms) (cs : List Customer) → AllSane cs → sum_of pending_of (map (line_of terms) cs) ≤ length cs * 4_000_000
unfolding line_of
pending_most terms [] a = omega arith
pending_most terms (c ∷ cs) a = omega (arith, stake_most (standing terms c) a.0, pending_most terms cs a.1)

-- T or R; I and J; C, E and O
number_most : (tag : Char) (n : ℕ) → n < 10 ^ 10 → length (field tag (digits n)) ≤ 13
number_most tag n h = omega (arith, digits_length_10 n h)

weight_most : (t : Standing) (long : Bool) (s : Seat) → SaneSeat s → seat_weight t long s ≤ 1_000_000
weight_most Pending long s k = k.unfilled
weight_most Tier1 true s k = k.long
weight_most Tier1 false s k = k.short
weight_most Tier2 true s k = k.long
weight_most Tier2 false s k = k.short
weight_most Tier3 true s k = k.long
weight_most Tier3 false s k = k.short
weight_most Neither long s k = omega arith

seat_most : (l : Line) → Divided l → (s : Seat) → SaneSeat s → length (reported_seat l s) ≤ 15 + 10
unfolding reported_seat
seat_most l d s k =
    simp length-append (omega (arith, code_length_lem s.code k.code, digits_length_7 (seat_lots l s) (omega (arith, d.most s, weight_most l.standing (net_long (added l.seats)) s k))))

seats_most : (l : Line) → Divided l → (seats : List Seat) → AllSeats seats → length (joined (reported_seat l) seats) ≤ (15 + 10) * length seats
seats_most l d [] a = omega arith
seats_most l d (s ∷ seats) a = omega (arith, length-append (reported_seat l s) (joined (reported_seat l) seats), seat_most l d s a.0, seats_most l d seats a.1)

-- the most bytes that a customer takes
abbrev pub customer_most : ℕ
customer_most = 15 + 4 + 10 + most_seats * (15 + 10)

reported_most : (l : Line) → Divided l → SaneSeats l.seats → length l.code ≤ longest_code → l.offset ≤ 4_000_000 → length (reported l) ≤ customer_most
unfolding reported
reported_most l d k h m = simp length-append (omega (arith, digits_length_7 l.offset (omega arith), seats_most l d l.seats k.all, k.few))

module _ (s : List ℕ) (terms : Terms) (cs : List Customer) (e : judge s ≡ Accepted terms cs) where
  abbrev o : Outcome
  o = outcome terms cs

  abbrev who : ℕ → Customer
  who i = get_or cs i (begun [])

  line_most : (i : ℕ) → i < length cs → length (reported (get_or o.lines i nobody)) ≤ customer_most
  unfolding line_of
  line_most i h =
      let w = book_within s terms cs e i (begun []) h in
      let k = sane_at cs (accepted_sane s terms cs e).all i (begun []) h in
      let own : (line_of terms (who i)).pending + (line_of terms (who i)).offered ≤ 4_000_000 = stake_most (standing terms (who i)) k in
      reported_most (get_or o.lines i nobody)
      (book_divided s terms cs e i (begun []) h)
      (subst SaneSeats (sym w.seats) k.seats)
      (rw w.code (code_length_lem (who i).code k.code))
      (omega (arith, within_stake (standing terms (who i)) (line_of terms (who i)) (get_or o.lines i nobody) refl w))

  pub report_length : length (report (outcome terms cs)) ≤ 13 + 13 + length cs * customer_most
  unfolding report
  report_length =
      let few = (accepted_sane s terms cs e).few in
      let all = pending_most terms cs (accepted_sane s terms cs e).all in
      let both = (book_balanced s terms cs e).residue in
      let head = field "T" (digits o.total) ++ field "R" (digits o.residue) in
      omega (
        arith,
        length-append head (joined reported o.lines),
        length-append (field "T" (digits o.total)) (field "R" (digits o.residue)),
        number_most "T" o.total (omega arith),
        number_most "R" o.residue (omega arith),
        length_joined reported o.lines,
        sum_index (λ l. length (reported l)) nobody o.lines,
        sum_bound (λ i. length (reported (get_or o.lines i nobody))) customer_most (length o.lines) (λ i h. line_most i (rw (lines_many terms cs) at h)),
        lines_many terms cs,
      )
