-- The statement of requests [1] and [5] holds of the report of every accepted book.
-- Assumes nothing.
use Rattle.std.specs.Prelude.{ℕ, ◌+◌, ◌≤◌, ◌<◌, ◌≡◌, Bool, false, length}
use Prim.Native.Char.{Char, code}
use Rattle.std.proofs.Math.Path.{refl, sym, ap}
use Rattle.std.proofs.Common.{◌∙◌}
use Rattle.std.proofs.Math.Bool.{true, cond}
use mathlib.Core.List.{List, [], ◌∷◌, map}
use Rattle.std.proofs.Math.ListN.{get_or}
use Rattle.std.proofs.Math.Dec.{eqb}
use borrow.Author.Tests.{eqb-true, eq-eqb}
use native.Mathlib.Omega.{arith}
use Rattle.rules.specs.Text.{is}
use Rattle.rules.specs.declared.Terms.{Terms}
use Rattle.rules.specs.declared.Position.{Position}
use Rattle.rules.specs.declared.Standing.{Standing}
use Rattle.rules.specs.declared.Standing.TheVariants.{Pending, Tier1, Tier2, Tier3, Neither}
use Rattle.rules.specs.Book.{Seat, Customer, Accepted, judge, added, position, net, net_long}
use Rattle.rules.specs.Standing.{counted_pending}
use Rattle.rules.specs.Division.{sum_of}
use Rattle.rules.specs.Cascade.{Line, Outcome, code_of, tier_of, offered_by, pending_by, pending_of, offered_in, line_of, outcome}
use Rattle.rules.specs.Seats.{held_on, seat_weight, weight_in, seat_lots}
use Rattle.rules.specs.Report.{letter, report}
use Rattle.laws.specs.ByTest.{by_test}
use Rattle.laws.specs.Sums.{up_to, sum_index, sum-map, sum_cong, up_to_cong, up_to_tight}
use Rattle.laws.specs.Sane.{code_in}
use Rattle.laws.specs.Indices.{get_d_in}
use Rattle.consequences.specs.Rearranged.{nobody}
use Rattle.consequences.specs.Offsets.{is_pending, closed_by, given_in}
use Rattle.consequences.specs.Balance.{Balanced}
use Rattle.consequences.specs.Within.{Within, within_stake, codes_cascade}
use Rattle.consequences.specs.Lines.{lines_many, book_balanced, book_within}
use Rattle.consequences.specs.SeatsDivided.{Divided, book_divided}
use Rattle.promises.specs.Statement.{
  SeatEntry,
  no_seat,
  Entry,
  no_entry,
  Told,
  stake,
  seat_stake,
  letter_at_of,
  lots_at,
  seats_at,
  book_seats,
  empty_seat,
  position_at,
  lots_of,
  pending_at,
  GaveAll,
  Statement,
  Stated,
}
use Rattle.promises.specs.ReportRead.{seat_entry_of, entry_of, told_of, report_read, report_bytes}
use Rattle.promises.specs.Outcomes.{no_customer}

-- The letter of a standing says what the standing says
stake_is : (s : Standing) (p : Position) → stake (letter s) p ≡ pending_by s p + offered_by s p
stake_is Pending p = omega arith
stake_is Tier1 p = omega arith
stake_is Tier2 p = omega arith
stake_is Tier3 p = omega arith
stake_is Neither p = refl

held_is : (long : Bool) (s : Seat) → cond long s.position.long.0 s.position.short.0 ≡ held_on long s.position
held_is true s = refl
held_is false s = refl

seat_stake_is : (t : Standing) (p : Position) (s : Seat) → seat_stake (letter t) p s ≡ seat_weight t (net_long p) s
seat_stake_is Pending p s = refl
seat_stake_is Tier1 p s = held_is (net_long p) s
seat_stake_is Tier2 p s = held_is (net_long p) s
seat_stake_is Tier3 p s = held_is (net_long p) s
seat_stake_is Neither p s = refl

counted_is : (s : Standing) (p : Position) → cond (is "P" (letter s)) (counted_pending p) 0 ≡ pending_by s p
counted_is Pending p = refl
counted_is Tier1 p = refl
counted_is Tier2 p = refl
counted_is Tier3 p = refl
counted_is Neither p = refl

pending_letter : (s : Standing) → is "P" (letter s) ≡ is_pending s
pending_letter Pending = refl
pending_letter Tier1 = refl
pending_letter Tier2 = refl
pending_letter Tier3 = refl
pending_letter Neither = refl

abbrev Letter : Char → ℕ → Type 0
Letter tier k = (s : Standing) → is tier (letter s) ≡ eqb (tier_of s) k

first : Letter "1" 1
first Pending = refl
first Tier1 = refl
first Tier2 = refl
first Tier3 = refl
first Neither = refl

second : Letter "2" 2
second Pending = refl
second Tier1 = refl
second Tier2 = refl
second Tier3 = refl
second Neither = refl

third : Letter "3" 3
third Pending = refl
third Tier1 = refl
third Tier2 = refl
third Tier3 = refl
third Neither = refl

-- whoever is in a tier is not pending, and offers its whole net position
tier_offers : (s : Standing) (p : Position) → 0 < tier_of s → (is_pending s ≡ false) × (offered_by s p ≡ net p)
tier_offers Pending p h = absurd (omega arith)
tier_offers Tier1 p h = (refl, refl)
tier_offers Tier2 p h = (refl, refl)
tier_offers Tier3 p h = (refl, refl)
tier_offers Neither p h = absurd (omega arith)

module _ (book : List ℕ) (terms : Terms) (cs : List Customer) (e : judge book ≡ Accepted terms cs) where
  abbrev o : Outcome
  o = outcome terms cs

  abbrev b : Balanced (map (line_of terms) cs) o
  b = book_balanced book terms cs e

  abbrev t : Told
  t = told_of o

  -- the customer at index i, its line before the cascade, its line after it
  abbrev who : ℕ → Customer
  who i = get_or cs i no_customer

  abbrev start : ℕ → Line
  start i = line_of terms (who i)

  abbrev end : ℕ → Line
  end i = get_or o.lines i nobody

  within_at : (i : ℕ) → i < length cs → Within (start i) (end i)
  within_at i h = book_within book terms cs e i no_customer h

  entry_at : (i : ℕ) → i < length cs → get_or t.entries i no_entry ≡ entry_of (end i)
  unfolding told_of
  entry_at i h = get_d_in entry_of o.lines i nobody _ (rw (lines_many terms cs) h)

  lots_at_lem : (i : ℕ) → i < length cs → lots_at t i ≡ (end i).offset
  unfolding entry_of
  lots_at_lem i h = ap (λ (x : Entry). x.lots) (entry_at i h)

  letter_at : (i : ℕ) → i < length cs → letter_at_of t i ≡ letter (start i).standing
  unfolding entry_of
  letter_at i h = ap (λ (x : Entry). x.letter) (entry_at i h) ∙ ap letter (within_at i h).standing

  -- sentence 1
  closed_lots : lots_of t "P" ≡ sum_of closed_by o.lines
  unfolding told_of entry_of
  closed_lots = sum-map _ entry_of o.lines ∙ sum_cong _ _ o.lines (λ l m. ap (λ q. cond q l.offset 0) (pending_letter l.standing))

  tier_lots : (tier : Char) (k : ℕ) → Letter tier k → lots_of t tier ≡ sum_of (given_in k) o.lines
  unfolding told_of entry_of
  tier_lots tier k same = sum-map _ entry_of o.lines ∙ sum_cong _ _ o.lines (λ l m. ap (λ q. cond q l.offset 0) (same l.standing))

  pending_lots : sum_of (pending_at cs t) (up_to (length cs)) ≡ sum_of pending_of (map (line_of terms) cs)
  unfolding line_of
  pending_lots =
      up_to_cong (pending_at cs t) (λ i. pending_of (start i)) (length cs)
      (λ i h. ap (λ x. cond (is "P" x) (counted_pending (position (who i))) 0) (letter_at i h) ∙ counted_is (start i).standing (position (who i)))
      ∙ sum_index (λ c. pending_of (line_of terms c)) no_customer cs ∙ sym (sum-map pending_of (line_of terms) cs)

  -- sentence 2
  at_most : (i : ℕ) → i < length cs → lots_at t i ≤ stake (letter_at_of t i) (position_at cs i)
  unfolding line_of
  at_most i h =
      omega (
        arith,
        lots_at_lem i h,
        ap (λ x. stake x (position (who i))) (letter_at i h) ∙ stake_is (start i).standing (position (who i)),
        within_stake (start i).standing (start i) (end i) refl (within_at i h),
      )

  -- sentences 3 and 4
  given_at_most : (k : ℕ) → 0 < k → (i : ℕ) → i < length cs → given_in k (end i) ≤ offered_in k (start i)
  given_at_most k pos i h =
      let w = within_at i h in
      by_test (eqb (tier_of (start i).standing) k)
      (λ q. rw (w.standing, q) (w.offered (tier_offers (start i).standing (position (who i)) (omega (arith, eqb-true (tier_of (start i).standing) k q))).0))
      (λ q. rw (w.standing, q) (omega arith))

  all_given : (k : ℕ) → 0 < k → sum_of (given_in k) o.lines ≡ sum_of (offered_in k) (map (line_of terms) cs) → (i : ℕ) → i < length cs → given_in k (end i) ≡ offered_in k (start i)
  all_given k pos q =
      up_to_tight (λ i. given_in k (end i)) (λ i. offered_in k (start i)) (length cs) (given_at_most k pos)
      (rw (lines_many terms cs) at (sum_index (given_in k) nobody o.lines) ∙ q ∙ sum-map (offered_in k) (line_of terms) cs ∙ sym (sum_index (λ c. offered_in k (line_of terms c)) _ cs))

  gave_all : (tier : Char) (k : ℕ) → Letter tier k → 0 < k → sum_of (given_in k) o.lines ≡ sum_of (offered_in k) (map (line_of terms) cs) → GaveAll cs t tier
  unfolding line_of
  gave_all tier k same pos q i h l =
      let member : eqb (tier_of (start i).standing) k ≡ true = sym (same (start i).standing) ∙ eq-eqb (letter (start i).standing) (code tier) (sym (letter_at i h) ∙ l) in
      let offers : (start i).offered ≡ net (position (who i)) = (tier_offers (start i).standing (position (who i)) (omega (arith, eqb-true (tier_of (start i).standing) k member))).1 in
      lots_at_lem i h ∙ (rw ((within_at i h).standing, member) at (all_given k pos q i h)) ∙ offers

  same_codes : (ls : List Line) → map (λ (x : Entry). x.code) (map entry_of ls) ≡ map code_of ls
  unfolding entry_of
  same_codes [] = refl
  same_codes (l ∷ ls) = ap (λ (vs : List (List ℕ)). l.code ∷ vs) (same_codes ls)

  customer_codes : (ds : List Customer) → map code_of (map (line_of terms) ds) ≡ map code_in ds
  unfolding line_of
  customer_codes [] = refl
  customer_codes (d ∷ ds) = ap (λ (vs : List (List ℕ)). d.code ∷ vs) (customer_codes ds)

  codes_kept : map (λ (x : Entry). x.code) t.entries ≡ map code_in cs
  unfolding told_of outcome
  codes_kept = same_codes o.lines ∙ codes_cascade (map (line_of terms) cs) ∙ customer_codes cs

  -- sentence 5
  abbrev seats : ℕ → List Seat
  seats i = book_seats cs i

  seats_kept : (i : ℕ) → i < length cs → (end i).seats ≡ seats i
  unfolding line_of
  seats_kept i h = (within_at i h).seats

  seats_at_lem : (i : ℕ) → i < length cs → seats_at t i ≡ map (seat_entry_of (end i)) (seats i)
  unfolding entry_of
  seats_at_lem i h = ap (λ (x : Entry). x.seats) (entry_at i h) ∙ ap (map (seat_entry_of (end i))) (seats_kept i h)

  divided_at : (i : ℕ) → i < length cs → Divided (end i)
  divided_at i h = book_divided book terms cs e i no_customer h

  seat_codes : (l : Line) (ss : List Seat) → map (λ (x : SeatEntry). x.code) (map (seat_entry_of l) ss) ≡ map (λ (x : Seat). x.code) ss
  unfolding seat_entry_of
  seat_codes l [] = refl
  seat_codes l (x ∷ ss) = ap (λ (vs : List (List ℕ)). x.code ∷ vs) (seat_codes l ss)

  seat_within : (i : ℕ) → i < length cs → (j : ℕ) → j < length (seats i) →
      (get_or (seats_at t i) j no_seat).lots ≤ seat_stake (letter_at_of t i) (position_at cs i) (get_or (seats i) j empty_seat)
  unfolding line_of seat_entry_of
  seat_within i h j k =
      let x = get_or (seats i) j empty_seat in
      let named : get_or (seats_at t i) j no_seat ≡ seat_entry_of (end i) x = ap (λ (l : List SeatEntry). get_or l j no_seat) (seats_at_lem i h) ∙ get_d_in (seat_entry_of (end i)) (seats i) j empty_seat no_seat k in
      let weight : weight_in (end i) x ≡ seat_weight (start i).standing (net_long (added (seats i))) x = rw ((within_at i h).standing, seats_kept i h) refl in
      omega (
        arith,
        ap (λ (y : SeatEntry). y.lots) named,
        (divided_at i h).most x,
        weight,
        ap (λ y. seat_stake y (position_at cs i) x) (letter_at i h) ∙ seat_stake_is (start i).standing (position_at cs i) x,
      )

  seats_all : (i : ℕ) → i < length cs → sum_of (λ (x : SeatEntry). x.lots) (seats_at t i) ≡ lots_at t i
  unfolding seat_entry_of
  seats_all i h =
      ap (sum_of (λ (x : SeatEntry). x.lots)) (seats_at_lem i h) ∙ sum-map (λ (x : SeatEntry). x.lots) (seat_entry_of (end i)) (seats i)
      ∙ ap (sum_of (seat_lots (end i))) (sym (seats_kept i h)) ∙ (divided_at i h).all ∙ sym (lots_at_lem i h)

  outcome_stated : Statement cs t
  unfolding told_of
  outcome_stated =
      let given₁ = tier_lots "1" 1 first in
      let given₂ = tier_lots "2" 2 second in
      let given₃ = tier_lots "3" 3 third in
      let all₁ = gave_all "1" 1 first (omega arith) in
      let all₂ = gave_all "2" 2 second (omega arith) in
      let all₃ = gave_all "3" 3 third (omega arith) in
      record {
        same_customers = codes_kept;
        both_sides = omega (arith, closed_lots, given₁, given₂, given₃, b.closed, b.given);
        the_total = closed_lots ∙ b.closed;
        the_residue = omega (arith, b.residue, pending_lots);
        none_exceeds = at_most;
        second_after_first = λ h. all₁ (b.first (omega (arith, given₂)));
        third_after_both = λ h. (all₁ (b.first (omega (arith, given₃))), all₂ (b.second (omega (arith, given₃))));
        residue_after_all = λ h. (all₁ (b.first (omega arith)), all₂ (b.second (omega arith)), all₃ (b.third h));
        same_seats = λ i h. ap (map (λ (x : SeatEntry). x.code)) (seats_at_lem i h) ∙ seat_codes (end i) (seats i);
        no_seat_exceeds = seat_within;
        seats_add_up = seats_all;
      }

  pub report_stated : Stated book (report o)
  report_stated =
      record {
        terms = terms;
        customers = cs;
        judged = e;
        nothing_else = report_bytes o;
        statement = rw (report_read o) outcome_stated;
      }
