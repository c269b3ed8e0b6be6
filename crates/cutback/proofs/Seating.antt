-- The cuts by keys are those by codes: the seats at their places, and keys in the order of the codes.
-- Assumes nothing.
use Prim.Native.Nat.{ℕ, zero, suc, ◌-◌, ◌<◌, min}
use mathlib.Core.Path.{◌≡◌, refl, sym, ap, ap₂, ◌∙◌}
use mathlib.Core.List.{List, [], ◌∷◌, map, map-map}
use mathlib.Core.Bool.{Bool, true, cond, ◌&&◌, ◌||◌}
use native.Mathlib.Omega.{arith}
use lib.ListN.{length, get_or}
use lib.Dec.{ltb, eqb}
use Rattle.rules.specs.Codes.{is_code}
use Rattle.rules.specs.Division.{sum_of}
use Rattle.laws.specs.Sums.{up_to, map_up_to, sum_index, up_to_cong}
use Rattle.laws.specs.Indices.{map_below}
use Rattle.laws.specs.Keys.{key_of, key_smaller}
use Rattle.cutback.specs.Seats.{Seat, lots_of, seats_of, goes_before, lots_before, excess, cut_of, cuts_of}
use Rattle.cutback.specs.Keyed.{at, before_by, before_at, lots_before_at, cut_at}

abbrev none : Seat
none = record { code = []; lots = 0 }

abbrev seat_at : List (List ℕ) → List ℕ → ℕ → Seat
seat_at codes lots j = record { code = get_or codes j []; lots = at lots j }

seat_at_lem : (codes : List (List ℕ)) (lots : List ℕ) (j : ℕ) → length codes ≡ length lots → j < length lots → get_or (seats_of codes lots) j none ≡ seat_at codes lots j
seat_at_lem [] [] j e h = absurd (omega arith)
seat_at_lem [] (n ∷ ns) j e h = absurd (omega arith)
seat_at_lem (c ∷ cs) [] j e h = absurd (omega arith)
seat_at_lem (c ∷ cs) (n ∷ ns) zero e h = refl
seat_at_lem (c ∷ cs) (n ∷ ns) (suc j) e h = seat_at_lem cs ns j (omega arith) (omega arith)

seats_length : (codes : List (List ℕ)) (lots : List ℕ) → length codes ≡ length lots → length (seats_of codes lots) ≡ length lots
seats_length [] [] e = refl
seats_length [] (n ∷ ns) e = absurd (omega arith)
seats_length (c ∷ cs) [] e = absurd (omega arith)
seats_length (c ∷ cs) (n ∷ ns) e = ap suc (seats_length cs ns (omega arith))

seats_sum : (codes : List (List ℕ)) (lots : List ℕ) → length codes ≡ length lots → sum_of lots_of (seats_of codes lots) ≡ sum_of (λ n. n) lots
seats_sum [] [] e = refl
seats_sum [] (n ∷ ns) e = absurd (omega arith)
seats_sum (c ∷ cs) [] e = absurd (omega arith)
seats_sum (c ∷ cs) (n ∷ ns) e = omega (arith, seats_sum cs ns (omega arith))

-- what is asked of the keys
pub record InOrder (codes : List (List ℕ)) (lots keys : List ℕ) : Type 0 where
  pub even : length codes ≡ length lots
  pub coded : (j : ℕ) → j < length lots → is_code (get_or codes j []) ≡ true
  pub keyed : (j : ℕ) → j < length lots → at keys j ≡ key_of (get_or codes j [])

module _ (codes : List (List ℕ)) (lots keys : List ℕ) (p : InOrder codes lots keys) where
  abbrev all : List Seat
  all = seats_of codes lots

  -- the same order
  ordered : (i j : ℕ) → i < length lots → j < length lots → goes_before (seat_at codes lots j) (seat_at codes lots i) ≡ before_by (at keys j) (at lots j) (at keys i) (at lots i)
  ordered i j h k =
      ap (λ (b : Bool). ltb (at lots i) (at lots j) || eqb (at lots i) (at lots j) && b)
      (key_smaller (get_or codes j []) (get_or codes i []) (p.coded j k) (p.coded i h) ∙ ap₂ ltb (sym (p.keyed j k)) (sym (p.keyed i h)))

  summand : (i j : ℕ) → i < length lots → j < length lots →
      cond (goes_before (get_or all j none) (seat_at codes lots i)) (get_or all j none).lots 0 ≡ before_at keys lots i j
  summand i j h k =
      ap (λ (t : Seat). cond (goes_before t (seat_at codes lots i)) t.lots 0) (seat_at_lem codes lots j p.even k)
      ∙ ap (λ (b : Bool). cond b (at lots j) 0) (ordered i j h k)

  before : (i : ℕ) → i < length lots → lots_before all (seat_at codes lots i) ≡ lots_before_at keys lots i
  unfolding lots_before lots_before_at
  before i h =
      let g : Seat → ℕ = λ t. cond (goes_before t (seat_at codes lots i)) t.lots 0 in
      sym (sum_index g none all)
      ∙ ap (λ n. sum_of (λ j. g (get_or all j none)) (up_to n)) (seats_length codes lots p.even)
      ∙ up_to_cong (λ j. g (get_or all j none)) (before_at keys lots i) (length lots) (λ j k. summand i j h k)

  pub seated : (most : ℕ) → cuts_of most all ≡ map (cut_at keys lots (sum_of (λ n. n) lots - most)) (up_to (length lots))
  unfolding cuts_of excess cut_at
  seated most =
      let over = sum_of (λ n. n) lots - most in
      ap (λ n. map (cut_of (n - most) all) all) (seats_sum codes lots p.even)
      ∙ ap (map (cut_of over all)) (sym (map_up_to none all))
      ∙ map-map (cut_of over all) (λ i. get_or all i none) (up_to (length all))
      ∙ ap (λ n. map (λ i. cut_of over all (get_or all i none)) (up_to n)) (seats_length codes lots p.even)
      ∙ map_below (λ i. cut_of over all (get_or all i none)) (cut_at keys lots over) (length lots)
      (λ i h. ap (cut_of over all) (seat_at_lem codes lots i p.even h) ∙ ap (λ n. min (at lots i) (over - n)) (before i h))
