-- From the code's array to the rules' division: what each lacks orders the members as the remainders do, so the last decides the shares.
-- Assumes nothing.
use Prim.Native.Nat.{ℕ, ◌+◌, ◌-◌, ◌*◌, ◌/◌, ◌%◌, ◌≤◌, ◌<◌}
use mathlib.Core.Path.{◌≡◌, refl, sym, ap, ◌∙◌}
use mathlib.Core.Bool.{Bool, true, false, ◌&&◌, ◌||◌}
use mathlib.Core.List.{List, ◌++◌}
use native.Mathlib.Nat.{zero-mul, zero-div}
use native.Mathlib.Omega.{arith}
use lib.Dec.{ltb, eqb}
use lib.ListN.{drop}
use borrow.Author.Tests.{lt-ltb, le-ltb, eq-eqb, ne_eqb, ltb-true, eqb-true}
use Rattle.rules.specs.Division.{sum_of, one_if, left_over_of, rank, share_of, share}
use Rattle.laws.specs.Sums.{up_to, length_up_to}
use Rattle.laws.specs.Indices.{below_up_to, sum_below, map_below}
use Rattle.laws.specs.Filled.{filled, front_at, filled_filled, filled_same}
use Rattle.laws.specs.Division.{wholes_le, left_few, share_whole}
use Rattle.division.proofs.Bounds.{rest_lt, whole_le, whole_in, lack_in_lem}
use Rattle.division.proofs.Order.{same, last_serves}
use Rattle.division.specs.Shares.{at, code_at, share_at, divided}
use Rattle.division.specs.Parts.{whole_in_of, lack_in, whole_at, lack_at, part_at, before, before_of, lots_at, Ready, Spread, Parted, IsLast, Settled}

or_false : (b c : Bool) → (b || c && false) ≡ b
or_false true c = refl
or_false false true = refl
or_false false false = refl

-- who has the larger remainder lacks less
by_lack : (s p q k l : ℕ) → p < s → q < s →
    (ltb q p || eqb q p && (ltb k l || eqb k l && false)) ≡ before (s - p) k (s - q) l
by_lack s p q k l hp hq =
    let u : ltb q p ≡ ltb (s - p) (s - q) = same _ _ (λ e. lt-ltb (s - p) (s - q) (omega (arith, ltb-true q p e))) (λ e. lt-ltb q p (omega (arith, ltb-true (s - p) (s - q) e))) in
    let v : eqb q p ≡ eqb (s - p) (s - q) = same _ _ (λ e. eq-eqb (s - p) (s - q) (omega (arith, eqb-true q p e))) (λ e. eq-eqb q p (omega (arith, eqb-true (s - p) (s - q) e))) in
    rw (u, v, or_false (ltb k l) (eqb k l))

-- The weights' total is at hand, and each member's part stands in the array.
module _ {weights parts : List ℕ} {count x sum given : ℕ} (keys : List ℕ) (r : Ready weights count x sum) (s : Spread weights parts count x sum given) where
  abbrev pos : 0 < sum_of (at weights) (up_to count)
  pos = omega (arith, r.total, r.less)

  pub given_le : given ≤ x
  given_le = rw (s.whole, r.total) (wholes_le (code_at keys) (at weights) x (up_to count) pos)

  part_at_lem : (i : ℕ) → i < count → at parts i ≡ part_at weights x sum i
  part_at_lem i h = rw s.parts (front_at (part_at weights x sum) count (drop count weights) i 0 h)

  lack_at_lem : (i : ℕ) → i < count → lack_in (at parts i) ≡ lack_at weights x sum i
  lack_at_lem i h = ap lack_in (part_at_lem i h) ∙ lack_in_lem r i

  pub parted : Parted parts count (x - given) sum
  unfolding left_over_of
  parted =
      record {
        few = r.bounded.few;
        spared = let z = left_few (code_at keys) (at weights) x (up_to count) pos in rw (s.whole, r.total) (omega (arith, z, length_up_to count));
        some = λ i h. rw (lack_at_lem i h) (omega (arith, rest_lt r i));
        most = λ i h. rw (lack_at_lem i h) (omega arith);
      }

  rank_is : (i : ℕ) → i < count → rank (code_at keys) (at weights) x sum (up_to count) i ≡ before_of (λ j. lack_in (at parts j)) (at keys) count (lack_in (at parts i)) (at keys i)
  unfolding rank
  rank_is i h =
      sum_below _ _ count (λ j l.
      rw (lack_at_lem i h, lack_at_lem j l)
      (ap one_if (by_lack sum (x * at weights j % sum) (x * at weights i % sum) (at keys j) (at keys i) (rest_lt r j) (rest_lt r i))))

  pub small : (i : ℕ) → i < count → whole_in_of (at parts i) ≤ 4_000_000
  small i h = rw (part_at_lem i h, whole_in r i) (whole_le r i h)

  module _ {lack key : ℕ} (l : IsLast parts keys count (x - given) lack key) where
    served : (i : ℕ) → i < count → lots_at parts keys lack key i ≡ whole_at weights x sum i + one_if (ltb (rank (code_at keys) (at weights) x sum (up_to count) i) (x - given))
    served i h =
        let whole : whole_in_of (at parts i) ≡ whole_at weights x sum i = ap whole_in_of (part_at_lem i h) ∙ whole_in r i in
        rw (whole, rank_is i h) (ap (λ b. whole_at weights x sum i + one_if b) (sym (last_serves (λ j. lack_in (at parts j)) (at keys) count lack key (x - given) l.edge i h)))

    -- the lots that the code comes to
    abbrev got : ℕ → ℕ
    got i = whole_at weights x sum i + one_if (ltb (rank (code_at keys) (at weights) x sum (up_to count) i) (x - given))

    got_none : (i : ℕ) → x ≡ 0 → got i ≡ 0
    got_none i z =
        let none : whole_at weights x sum i ≡ 0 = ap (λ y. y * at weights i / sum) z ∙ ap (λ y. y / sum) (zero-mul (at weights i)) ∙ zero-div sum in
        rw (none, le-ltb (rank (code_at keys) (at weights) x sum (up_to count) i) (x - given) (omega arith)) (omega arith)

    share_is : (i : ℕ) → i < count → lots_at parts keys lack key i ≡ share_at keys weights count x i
    unfolding share_at share share_of left_over_of
    share_is i h = served i h ∙ go (eqb x 0) refl
      where
        go : (b : Bool) → eqb x 0 ≡ b → got i ≡ share (code_at keys) (at weights) x (up_to count) i
        go true e = got_none i (eqb-true x 0 e) ∙ rw e
        go false e = rw (e, ← r.total, ne_eqb sum 0 (λ z. omega (arith, r.less)), s.whole)

    pub settled : {end : List ℕ} → Settled parts keys end count lack key → end ≡ divided keys count x weights
    unfolding divided
    settled e =
        e.lots ∙ ap (filled (lots_at parts keys lack key) count) s.parts ∙ filled_filled (lots_at parts keys lack key) (part_at weights x sum) count weights
        ∙ ap (λ q. q ++ drop count weights) (map_below (lots_at parts keys lack key) (share_at keys weights count x) count share_is)

-- where all of it is divided, each has its lots already
pub all_divided : (keys weights : List ℕ) (count x sum : ℕ) → count ≤ lib.ListN.length weights → sum ≡ sum_of (at weights) (up_to count) → x ≡ sum → weights ≡ divided keys count x weights
unfolding divided share_at
all_divided keys weights count x sum h total e =
    sym (filled_same (share_at keys weights count x) count weights 0 h (λ i l. share_whole (code_at keys) (at weights) x (up_to count) (e ∙ total) i (below_up_to count l)))
