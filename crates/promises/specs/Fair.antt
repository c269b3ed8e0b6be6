-- The division is fair: what demands 2 and 3 rest on, stated for readers. "Dividing X over weights w with sum W (X is at most W): each gets the whole
-- part of X x w / W. The lots left over go one each to the largest remainders of X x w by W; equal remainders go to the smaller code." And so is that of a
-- customer's offset over its seats, "with document 01's division and ties to the smaller seat code".
-- Assumes nothing.
use Rattle.std.specs.Prelude.{ℕ, ◌+◌, ◌≤◌, ◌<◌, ◌≡◌, Bool, true, false, List, length, ltb}
use Rattle.std.proofs.Math.Path.{refl, ap, subst}
use Rattle.std.proofs.Common.{sym, ◌∙◌, arith}
use Rattle.std.proofs.Math.ListN.{get_or}
use borrow.Author.Tests.{ltb-true, lt-ltb, le-ltb, eq-eqb, ne_eqb}
use Rattle.rules.specs.declared.Terms.{Terms}
use Rattle.rules.specs.Codes.{smaller}
use Rattle.rules.specs.Book.{Seat, Customer, Accepted, judge}
use Rattle.rules.specs.Cascade.{Line, line_of, outcome}
use Rattle.rules.specs.Seats.{seat_code, weight_in, seat_lots}
use Rattle.rules.specs.Division.{sum_of, one_if, whole_part, remainder, left_over_of, goes_before, rank, share_of, share}
use Rattle.consequences.specs.Rearranged.{picked, among, Below, Once, nobody}
use Rattle.consequences.specs.Picks.{sum_chosen}
use Rattle.laws.specs.Sums.{sum_mono}
use Rattle.laws.specs.Ranks.{before_mono}
use Rattle.laws.specs.Division.{share_at_most}
use Rattle.laws.specs.ShareSum.{Distinct, order, share_sum}
use Rattle.laws.specs.Sane.{accepted_sane}
use Rattle.consequences.specs.Alike.{share_alike}
use Rattle.consequences.specs.Lines.{book_within}
use Rattle.consequences.specs.SeatsDivided.{sane_at, book_divided}
use Rattle.promises.specs.Outcomes.{no_customer}

module _ {A : Type 0} (code : A → List ℕ) (weight : A → ℕ) (x : ℕ) (all : List A) where
  abbrev sum : ℕ
  sum = sum_of weight all

  -- a share, less the whole part: 1 where a spare lot came, else 0
  abbrev pub spare : A → ℕ
  spare a = one_if (ltb (rank code weight x sum all a) (left_over_of code weight x sum all))

  pub record Fair : Type 0 where
    -- the shares add up to X, where no two members have the same code
    pub adds_up : Distinct code all → sum_of (share code weight x all) all ≡ x
    -- none exceeds its weight
    pub at_most : (a : A) → share code weight x all a ≤ weight a
    -- the whole part, and at most one lot more
    pub parts : 0 < x → (a : A) → share code weight x all a ≡ whole_part code weight x sum a + spare a
    -- the largest remainders first, of equal ones the smaller code: whoever goes before gets a spare lot where the other does
    pub larger_first : (a b : A) → remainder code weight x sum b < remainder code weight x sum a → spare b ≤ spare a
    pub smaller_code_first : (a b : A) → remainder code weight x sum a ≡ remainder code weight x sum b → smaller (code a) (code b) ≡ true → spare b ≤ spare a
    -- the order of the members does not matter
    pub any_order : (none : A) (is : List ℕ) → Below (length all) is → Once is → ((i : ℕ) → i < length all → among i is ≡ true) → (a : A) →
        share code weight x (picked none all is) a ≡ share code weight x all a

  before_spare : (a b : A) → goes_before code weight x sum a b ≡ true → spare b ≤ spare a
  unfolding rank
  before_spare a b h = go (ltb (rank code weight x sum all b) (left_over_of code weight x sum all)) refl
    where
      sooner : rank code weight x sum all a ≤ rank code weight x sum all b
      sooner = before_mono _ (order code weight x sum) all a b (ap one_if h)

      go : (p : Bool) → ltb (rank code weight x sum all b) (left_over_of code weight x sum all) ≡ p → one_if p ≤ spare a
      go false e = omega arith
      go true e = rw (lt-ltb (rank code weight x sum all a) (left_over_of code weight x sum all) (omega (arith, sooner, ltb-true (rank code weight x sum all b) (left_over_of code weight x sum all) e))) (omega arith)

  pub fair : x ≤ sum → Fair
  unfolding share share_of
  fair most =
      record {
        adds_up = λ d. share_sum code weight x all most d;
        at_most = share_at_most code weight x all most;
        parts = λ some a. rw (ne_eqb x 0 (λ e. omega arith), ne_eqb sum 0 (λ e. omega arith)) refl;
        larger_first = λ a b h. before_spare a b (rw (lt-ltb (remainder code weight x sum b) (remainder code weight x sum a) h) refl);
        smaller_code_first = λ a b e h. before_spare a b (rw (le-ltb (remainder code weight x sum b) (remainder code weight x sum a) (omega arith), eq-eqb (remainder code weight x sum b) (remainder code weight x sum a) (sym e), h) refl);
        any_order = λ none is below once full a. share_alike code weight x (picked none all is) all (λ f z. sum_chosen f none all is below once (λ i l q. absurd (omega (arith, ap one_if (sym (full i l) ∙ q))))) a;
      }

-- A customer's offset over its seats: each seat's lots are its share by its weight, and no two seats have the same code
pub record FairSeats (l : Line) : Type 0 where
  pub shares : (s : Seat) → seat_lots l s ≡ share seat_code (weight_in l) l.offset l.seats s
  pub fairly : Fair seat_code (weight_in l) l.offset l.seats
  pub distinct : Distinct seat_code l.seats

-- so it is of every customer of an accepted book
module _ (s : List ℕ) (terms : Terms) (cs : List Customer) (e : judge s ≡ Accepted terms cs) where
  pub fair_seats : (i : ℕ) → i < length cs → FairSeats (get_or (outcome terms cs).lines i nobody)
  unfolding seat_lots line_of
  fair_seats i h =
      let l = get_or (outcome terms cs).lines i nobody in
      let d = book_divided s terms cs e i no_customer h in
      record {
        shares = λ seat. refl;
        fairly = fair seat_code (weight_in l) l.offset l.seats (omega (arith, d.all, sum_mono (seat_lots l) (weight_in l) l.seats (λ x m. d.most x)));
        distinct = subst (Distinct seat_code) (sym (book_within s terms cs e i no_customer h).seats) (sane_at cs (accepted_sane s terms cs e).all i no_customer h).seats.distinct;
      }
