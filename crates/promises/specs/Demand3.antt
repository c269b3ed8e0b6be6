-- Demand 3: "Rearrange an accepted book's customers, or take out those who are neither pending nor in a tier, or both: it is accepted too, with
-- the same report buffer, and everybody still in it has the same standing and lots, with the same total and residue." And request [2]: "a
-- customer's own trades be rearranged too, so long as trades of equal day and minute keep their order." And request [5]: "Demand 3 keeps a customer's
-- seats in their order", and each of them has the same lots.
-- Assumes nothing.
use Rattle.std.specs.Prelude.{ℕ, ◌≤◌, ◌<◌, ◌≡◌, refl, length, get_or, drop}
use Prim.Native.Char.{code}
use Rattle.std.proofs.Common.{sym, ap₂, ◌∙◌, length-append, arith}
use Rattle.std.proofs.Math.Path.{ap}
use mathlib.Core.List.{List, [], ◌∷◌, ◌++◌, map}
use Rattle.rules.specs.Fields.{Field, Whole, fields_of}
use Rattle.rules.specs.Book.{Customer}
use Rattle.rules.specs.Cascade.{Line, Outcome, line_of, outcome}
use Rattle.rules.specs.Seats.{seat_lots}
use Rattle.rules.specs.Report.{digits, field, joined, reported, report}
use Rattle.rules.specs.Answer.{answer}
use Rattle.consequences.specs.Rearranged.{parts_of, together, picked, regrouped, nobody, Chosen, Retraded}
use Rattle.laws.specs.All2.{All2}
use Rattle.consequences.specs.Picks.{sum_chosen_le}
use Rattle.consequences.specs.Lines.{lines_many, book_within}
use Rattle.consequences.specs.Chosen.{picked_of, chosen_after, outcome_chosen}
use Rattle.consequences.specs.Framed.{parts_together}
use Rattle.consequences.specs.Accepted.{groups_of_customers, group_begins}
use Rattle.consequences.specs.Rearrange.{length_joined, rearranged_accepted}
use Rattle.promises.specs.Call.{Call, book_of, lent_to, left_by}
use Rattle.promises.specs.Outcomes.{no_customer, outcome_of, Fits, accepted_fits, fits_accepted, fits_report}

-- the lots of each of a customer's seats, in the order of the seats
abbrev pub lots_by_seat : Line → List ℕ
lots_by_seat l = map (seat_lots l) l.seats

-- Book t is accepted with the same room as book s, and says of its customers what s says of those at the indices `is`
pub record Stays (s t is : List ℕ) (room : ℕ) : Type 0 where
  pub accepted : (answer t room).number ≡ 0
  pub total : (outcome_of t).total ≡ (outcome_of s).total
  pub residue : (outcome_of t).residue ≡ (outcome_of s).residue
  -- code, seats, standing and lots of each customer that is still in it
  pub lines : (outcome_of t).lines ≡ picked nobody (outcome_of s).lines is
  -- and the lots of each of its seats
  pub seats : map lots_by_seat (outcome_of t).lines ≡ map lots_by_seat (picked nobody (outcome_of s).lines is)
  -- and this is what stands in the buffer
  pub report : (answer t room).report ≡ report (outcome_of t)

-- The groups are the book's own: put together again they are its bytes, and group i begins with the code of the report's customer i
pub record Parted (s : List ℕ) : Type 0 where
  pub whole : together (parts_of s) ≡ s
  pub as_many : length (parts_of s).groups ≡ length (outcome_of s).lines
  pub named : (i : ℕ) → i < length (outcome_of s).lines →
      (fs : List Field) × (fields_of (get_or (parts_of s).groups i []) ≡ Whole (code "C") (get_or (outcome_of s).lines i nobody).code ∷ fs)

-- with fewer customers a report is no longer
report_shorter : (o : Outcome) (is : List ℕ) → Chosen o.lines is → length (report (picked_of o is)) ≤ length (report o)
unfolding report
report_shorter o is c =
    let head = field "T" (digits o.total) ++ field "R" (digits o.residue) in
    omega (
      arith,
      length-append head (joined reported (picked nobody o.lines is)),
      length-append head (joined reported o.lines),
      length_joined reported (picked nobody o.lines is),
      length_joined reported o.lines,
      sum_chosen_le (λ l. length (reported l)) nobody o.lines is c.below c.once,
    )

module _ (s : List ℕ) (room : ℕ) (f : Fits s room) where
  pub outcome_is : outcome_of s ≡ outcome f.terms f.customers
  unfolding outcome_of
  outcome_is = rw f.judged

  module _ (is : List ℕ) (c : Chosen (outcome f.terms f.customers).lines is) (hs : List (List ℕ)) (r : All2 Retraded (picked [] (parts_of s).groups is) hs) where
    some : List Customer
    some = picked no_customer f.customers is

    outcome_some : outcome f.terms some ≡ picked_of (outcome f.terms f.customers) is
    unfolding outcome some
    outcome_some = outcome_chosen f.terms f.customers no_customer is (chosen_after (map (line_of f.terms) f.customers) is c)

    still_fits : Fits (regrouped s hs) room
    unfolding some
    still_fits =
        record {
          terms = f.terms;
          customers = some;
          judged = rearranged_accepted s f.terms f.customers f.judged is (rw (lines_many f.terms f.customers) at c.below) c.once no_customer hs r;
          room_enough = rw outcome_some (omega (arith, report_shorter (outcome f.terms f.customers) is c, f.room_enough));
        }

    outcome_now : outcome_of (regrouped s hs) ≡ outcome f.terms some
    unfolding outcome_of still_fits
    outcome_now = rw still_fits.judged

    stays : Stays s (regrouped s hs) is room
    unfolding still_fits
    stays =
        let same : outcome_of (regrouped s hs) ≡ picked_of (outcome_of s) is = outcome_now ∙ outcome_some ∙ ap (λ (o : Outcome). picked_of o is) (sym outcome_is) in
        record {
          accepted = fits_accepted (regrouped s hs) room still_fits;
          total = ap (λ (o : Outcome). o.total) same;
          residue = ap (λ (o : Outcome). o.residue) same;
          lines = ap (λ (o : Outcome). o.lines) same;
          seats = ap (λ (o : Outcome). map lots_by_seat o.lines) same;
          report = fits_report (regrouped s hs) room still_fits;
        }

-- the groups of some customers in some order, each with its trades in some order that keeps equal stamps as they are
pub demand_3 : (s : List ℕ) (room : ℕ) → (answer s room).number ≡ 0 → (is : List ℕ) → Chosen (outcome_of s).lines is →
    (hs : List (List ℕ)) → All2 Retraded (picked [] (parts_of s).groups is) hs → Stays s (regrouped s hs) is room
demand_3 s room h is c hs r = let f = accepted_fits s room h in stays s room f is (rw (outcome_is s room f) at c) hs r

-- the book's own groups
pub accepted_parted : (s : List ℕ) (room : ℕ) → (answer s room).number ≡ 0 → Parted s
unfolding line_of
accepted_parted s room h =
    let f = accepted_fits s room h in
    let e = f.judged in
    let many : length (outcome_of s).lines ≡ length f.customers = ap (λ (o : Outcome). length o.lines) (outcome_is s room f) ∙ lines_many f.terms f.customers in
    record {
      whole = parts_together s;
      as_many = groups_of_customers s f.terms f.customers e ∙ sym many;
      named = λ i l. named i (rw many at l);
    }
  where
    named : (i : ℕ) → i < length (accepted_fits s room h).customers →
        (fs : List Field) × (fields_of (get_or (parts_of s).groups i []) ≡ Whole (code "C") (get_or (outcome_of s).lines i nobody).code ∷ fs)
    named i l =
        let f = accepted_fits s room h in
        let w = book_within s f.terms f.customers f.judged i no_customer l in
        let g = group_begins s f.terms f.customers f.judged i no_customer l in
        (g.0, rw (outcome_is s room f, w.code) g.1)

-- The same of two calls with the same buffer, the second of the book rearranged
pub record Rearranged (c d : Call) (is : List ℕ) (hs : List (List ℕ)) : Type 0 where
  pub trades : All2 Retraded (picked [] (parts_of (book_of c)).groups is) hs
  pub book : book_of d ≡ regrouped (book_of c) hs
  pub buffer : lent_to d ≡ lent_to c

abbrev pub still_in : Call → List ℕ → List ℕ
still_in c is = report (picked_of (outcome_of (book_of c)) is)

pub demand_3_call :
    (c d : Call) (is : List ℕ) (hs : List (List ℕ)) → Chosen (outcome_of (book_of c)).lines is → Rearranged c d is hs → c.answer.number ≡ 0 →
    (d.answer.number ≡ 0) × (left_by d ≡ still_in c is ++ drop (length (still_in c is)) (lent_to d))
demand_3_call c d is hs chosen same h =
    let k = demand_3 (book_of c) (length (lent_to c)) (sym c.contract.number ∙ h) is chosen hs same.trades in
    let picked : outcome_of (regrouped (book_of c) hs) ≡ picked_of (outcome_of (book_of c)) is = outcomes _ _ k.total k.residue k.lines in
    let asked : answer (book_of d) (length (lent_to d)) ≡ answer (regrouped (book_of c) hs) (length (lent_to c)) = ap₂ (λ s b. answer s (length b)) same.book same.buffer in
    (d.contract.number ∙ rw asked k.accepted, d.contract.buffer ∙ rw (asked, k.report, picked) refl)
  where
    outcomes : (o p : Outcome) → o.total ≡ p.total → o.residue ≡ p.residue → o.lines ≡ p.lines → o ≡ p
    outcomes o p t r l = λ i. record { total = t i; residue = r i; lines = l i }
