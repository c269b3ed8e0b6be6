-- The columns that a roll fills show the customers' lines, with keys for codes; nobody holds too much for the cascade.
-- Assumes nothing.
use Rattle.std.specs.Prelude.{ℕ, zero, suc, ◌-◌, ◌≤◌, ◌<◌, ◌≡◌, refl, true, length, get_or, take}
use Rattle.std.proofs.Math.Path.{sym, ap}
use Rattle.std.proofs.Common.{subst, ◌∙◌, arith, get_or-take}
use mathlib.Core.List.Memᴰ
use mathlib.Core.List.{List, [], ◌∷◌, map, map-map, Memᴰ}
use Rattle.std.proofs.Math.Logic.{⊎_elim}
use Rattle.std.proofs.Math.Nat.{sub-zero}
use Rattle.std.proofs.Math.ListN.{length-replicate}
use Rattle.std.proofs.lemmas.List.{get_or-replicate}
use Rattle.rules.specs.declared.Terms.{Terms}
use Rattle.rules.specs.declared.Position.{Position}
use Rattle.rules.specs.declared.Standing.{Standing}
use Rattle.rules.specs.declared.Standing.TheVariants.{Pending, Tier1, Tier2, Tier3, Neither}
use Rattle.rules.specs.Codes.{is_code}
use Rattle.rules.specs.Limits.{most_customers, longest_code}
use Rattle.rules.specs.Book.{Customer, position, begun}
use Rattle.rules.specs.Standing.{standing}
use Rattle.rules.specs.Cascade.{Line, line_of, offered_by, pending_by}
use Rattle.laws.specs.CodeLength.{code_length_lem}
use Rattle.laws.specs.Sums.{up_to, map_up_to}
use Rattle.laws.specs.Indices.{map_below}
use Rattle.laws.specs.Keys.{key_of, key_smaller}
use Rattle.laws.specs.Recode.{recode, InOrder}
use Rattle.laws.specs.Indices.{get_d_in}
use Rattle.laws.specs.Sane.{Sane, AllSane, Customers, sane_long, sane_short}
use Rattle.laws.specs.All2.{all2_at}
use Rattle.cascade.specs.Columns.{standing_of, offered_as, pending_as, Columns, columns, line_at, lines_of}
use Rattle.cascade.specs.State.{Steady}
use Rattle.roll.specs.Roll.{byte_of, stake_as, key_in, standing_in, stake_in, CodeIn, Held, Room}
use Rattle.allotment.specs.Worked.{at_first}

-- nobody at all, for places past the last customer
abbrev pub nobody : Customer
nobody = begun []

abbrev pub at : List Customer → ℕ → Customer
at cs i = get_or cs i nobody

pub sane_at : (cs : List Customer) → AllSane cs → (i : ℕ) → i < length cs → Sane (at cs i)
sane_at [] a i h = absurd (omega arith)
sane_at (c ∷ cs) a zero h = a.0
sane_at (c ∷ cs) a (suc i) h = sane_at cs a.1 i (omega arith)

-- a standing's byte and a stake say what the customer offers and has pending
standing_back : (s : Standing) → standing_of (byte_of s) ≡ s
standing_back Pending = refl
standing_back Tier1 = refl
standing_back Tier2 = refl
standing_back Tier3 = refl
standing_back Neither = refl

offered_back : (s : Standing) (p : Position) → offered_as s (stake_as s (offered_by s p) (pending_by s p)) ≡ offered_by s p
offered_back Pending p = refl
offered_back Tier1 p = refl
offered_back Tier2 p = refl
offered_back Tier3 p = refl
offered_back Neither p = refl

pending_back : (s : Standing) (p : Position) → pending_as s (stake_as s (offered_by s p) (pending_by s p)) ≡ pending_by s p
pending_back Pending p = refl
pending_back Tier1 p = refl
pending_back Tier2 p = refl
pending_back Tier3 p = refl
pending_back Neither p = refl

stake_le : (s : Standing) {c : Customer} → Sane c → stake_as s (offered_by s (position c)) (pending_by s (position c)) ≤ 4_000_000
stake_le Pending w = omega (arith, sane_long w, sane_short w)
stake_le Tier1 w = omega (arith, sane_long w, sane_short w)
stake_le Tier2 w = omega (arith, sane_long w, sane_short w)
stake_le Tier3 w = omega (arith, sane_long w, sane_short w)
stake_le Neither w = omega arith

-- a place of a column
column_at : (f : Customer → ℕ) (cs : List Customer) (a : List ℕ) {count : ℕ} → count ≡ length cs → take count a ≡ map f cs → (i : ℕ) → i < count → get_or a i 0 ≡ f (at cs i)
column_at f cs a {count} n e i h =
    sym (get_or-take count a i 0 h) ∙ ap (λ (l : List ℕ). get_or l i 0) e ∙ get_d_in f cs i nobody 0 (omega arith)

zero_at : (i : ℕ) → i < most_customers → get_or at_first.offset i 0 ≡ 0
zero_at i h = get_or-replicate {A = ℕ} most_customers i 0 0 h

module _ (terms : Terms) where
  line_coded : (cs : List Customer) → AllSane cs → (l : Line) → Memᴰ l (map (line_of terms) cs) → is_code l.code ≡ true
  unfolding line_of
  line_coded [] a l m = absurd (Memᴰ.not-nil m)
  line_coded (c ∷ cs) a l m =
      ⊎_elim (λ (e : l ≡ line_of terms c). ap (λ (x : Line). is_code x.code) e ∙ a.0.code) (λ (n : Memᴰ l (map (line_of terms) cs)). line_coded cs a.1 l n) (Memᴰ.cases_cons m)

  -- keys are in order as the codes are
  pub in_order : (cs : List Customer) → AllSane cs → InOrder key_of (map (line_of terms) cs)
  in_order cs a l m p q = key_smaller l.code m.code (line_coded cs a l p) (line_coded cs a m q)

  module _ {book : List ℕ} {cs : List Customer} {keys starts standings stakes : List ℕ} {count : ℕ}
      (k : Customers cs) (h : Held book terms cs keys starts standings stakes count) where
    abbrev cols : Columns
    cols = columns keys standings stakes count

    pub few : count ≤ most_customers
    few = omega (arith, h.counted, k.few)

    pub standing_at : (i : ℕ) → i < count → standing_of (get_or standings i 0) ≡ standing terms (at cs i)
    unfolding standing_in
    standing_at i l = ap standing_of (column_at (standing_in terms) cs standings h.counted h.stood i l) ∙ standing_back (standing terms (at cs i))

    stake_at : (i : ℕ) → i < count → get_or stakes i 0 ≡ stake_in terms (at cs i)
    stake_at i l = column_at (stake_in terms) cs stakes h.counted h.staked i l

    line_at_lem : (i : ℕ) → i < count → line_at cols at_first.offset i ≡ recode key_of (line_of terms (at cs i))
    unfolding line_of stake_in
    line_at_lem i l =
        let c = at cs i in
        let e = column_at key_in cs keys h.counted h.keyed i l in
        let s = standing_at i l in
        let t = stake_at i l in
        let z = zero_at i (omega (arith, few)) in
        (λ j. record {
          code = e j ∷ [];
          seats = [];
          standing = s j;
          offered = offered_as (s j) (t j);
          pending = pending_as (s j) (t j) - z j;
          offset = z j;
        })
        ∙ (λ j. record {
          code = key_of c.code ∷ [];
          seats = [];
          standing = standing terms c;
          offered = offered_back (standing terms c) (position c) j;
          pending = (sub-zero _ ∙ pending_back (standing terms c) (position c)) j;
          offset = 0;
        })

    pub lines_are : lines_of cols at_first.offset ≡ map (recode key_of) (map (line_of terms) cs)
    unfolding lines_of
    lines_are =
        map_below (line_at cols at_first.offset) (λ i. recode key_of (line_of terms (at cs i))) count line_at_lem
        ∙ ap (λ (n : ℕ). map (λ i. recode key_of (line_of terms (at cs i))) (up_to n)) h.counted
        ∙ sym (map-map (λ c. recode key_of (line_of terms c)) (at cs) (up_to (length cs)))
        ∙ ap (map (λ c. recode key_of (line_of terms c))) (map_up_to nobody cs)
        ∙ sym (map-map (recode key_of) (line_of terms) cs)

    pub start_steady : Room keys starts standings stakes → Steady 0 cols at_first
    unfolding stake_in
    start_steady r =
        record {
          few = few;
          keyed = omega (arith, few, r.for_keys);
          stood = omega (arith, few, r.for_standings);
          staked = omega (arith, few, r.for_stakes);
          wide = omega (arith, few, length-replicate {A = ℕ} most_customers 0);
          each = λ i l. record {
            within = λ e. omega (arith, zero_at i (omega (arith, few)));
            small = omega (arith, stake_at i l, stake_le (standing terms (at cs i)) (sane_at cs k.all i (omega (arith, h.counted))));
          };
          offset = λ i l. omega (arith, zero_at i (omega (arith, few)));
          total = omega arith;
        }

    pub code_in : (i : ℕ) → i < count → CodeIn book (get_or starts i 0) (at cs i)
    code_in i l =
        subst (λ (n : ℕ). CodeIn book n (at cs i)) (get_or-take count starts i 0 l) (all2_at (CodeIn book) 0 nobody (take count starts) cs h.coded i (omega (arith, h.counted)))

    pub code_short : (i : ℕ) → i < count → length (at cs i).code ≤ longest_code
    code_short i l = code_length_lem (at cs i).code (sane_at cs k.all i (omega (arith, h.counted))).code
