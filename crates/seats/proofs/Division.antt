-- A division over the seats' keys is the division over the seats: keys are in order as the codes are.
-- Assumes nothing.
use Prim.Native.Nat.{ℕ, ◌≤◌, ◌<◌}
use mathlib.Core.Path.{◌≡◌, refl, sym, ap, ap₂, ◌∙◌}
use mathlib.Core.Bool.{Bool, true}
use mathlib.Core.List.{List, [], ◌∷◌, ◌++◌, map, map-map, Memᴰ}
use native.Mathlib.Omega.{arith}
use lib.ListN.{length, drop}
use lib.Dec.{ltb}
use Rattle.rules.specs.declared.Standing.{Standing}
use Rattle.rules.specs.Limits.{most_seats}
use Rattle.rules.specs.Codes.{is_code, smaller}
use Rattle.rules.specs.Division.{sum_of, share}
use Rattle.rules.specs.Book.{Seat, seat_at}
use Rattle.rules.specs.Seats.{seat_code, seat_weight}
use Rattle.laws.specs.Keys.{key_of, key_smaller}
use Rattle.laws.specs.Recode.{smaller_one, map_cong}
use Rattle.laws.specs.Sums.{up_to, map_up_to, sum_index}
use Rattle.laws.specs.Indices.{up_to_below, below_up_to, map_below, sum_below}
use Rattle.laws.specs.Filled.{front_at, filled_filled, length_filled}
use Rattle.laws.specs.Division.{share_along, share_of_none}
use Rattle.division.specs.Shares.{share_at, divided, Lent}
use Rattle.division.specs.Shares.{at as member}
use Rattle.division.specs.Shares.{code_at as keyCode}
use Rattle.seats.specs.Dealt.{dealt, no_lots, in_places, Due, seat_of, Weighed}
use Rattle.seats.specs.Walk.{sane_at}
use Rattle.seats.proofs.Weighing.{weight_le}

module _ (seats : List Seat) (f : Seat → ℕ) where
  by_index : map (λ i. f (seat_of seats i)) (up_to (length seats)) ≡ map f seats
  by_index = sym (map-map f (seat_of seats) (up_to (length seats))) ∙ ap (map f) (map_up_to _ seats)

-- "X = 0 or W = 0 gives nothing."
zeros : (seats : List Seat) → length seats ≤ most_seats → map (λ s. 0) seats ++ drop (length seats) no_lots ≡ no_lots
zeros [] h = refl
zeros (a ∷ []) h = refl
zeros (a ∷ b ∷ []) h = refl
zeros (a ∷ b ∷ c ∷ []) h = refl
zeros (a ∷ b ∷ c ∷ d ∷ []) h = refl
zeros (a ∷ b ∷ c ∷ d ∷ e ∷ l) h = absurd (omega arith)

pub nothing_dealt : (seats : List Seat) (standing : Standing) (long : Bool) (x : ℕ) → length seats ≤ most_seats → x ≡ 0 → no_lots ≡ in_places (dealt standing long x seats) seats
nothing_dealt seats standing long x few e =
    let none = map_cong (dealt standing long x seats) (λ s. 0) seats (λ s m. share_of_none seat_code (seat_weight standing long) x seats s e) in
    sym (ap (λ l. l ++ drop (length seats) no_lots) none ∙ zeros seats few)

module _ {seats : List Seat} {standing : Standing} {long : Bool} {x : ℕ} (due : Due seats standing long x) where
  abbrev weight : Seat → ℕ
  weight = seat_weight standing long

  module _ {keys lots : List ℕ} {count sum : ℕ} (w : Weighed seats weight no_lots keys no_lots lots count sum) where
    key_at : (i : ℕ) → i < count → member keys i ≡ key_of (seat_of seats i).code
    key_at i h = ap (λ l. member l i) w.keys ∙ front_at (λ i. key_of (seat_of seats i).code) count (drop count no_lots) i 0 h

    weight_at : (i : ℕ) → i < count → member lots i ≡ weight (seat_of seats i)
    weight_at i h = ap (λ l. member l i) w.lots ∙ front_at (λ i. weight (seat_of seats i)) count (drop count no_lots) i 0 h

    few : count ≤ most_seats
    few = omega (arith, w.all, due.sane.few)

    pub lent : Lent lots keys count x sum
    lent =
        record {
          bounded = record {
            few = omega (arith, few);
            within = rw w.lots (omega (arith, length_filled (λ i. weight (seat_of seats i)) count no_lots few));
            small = λ i h. omega (arith, weight_at i h, weight_le standing long (seat_of seats i) (sane_at seats due.sane.all i _ (omega (arith, w.all))));
          };
          keyed = rw w.keys (omega (arith, length_filled (λ i. key_of (seat_of seats i).code) count no_lots few));
          total = w.sum ∙ sum_below _ _ count (λ i h. sym (weight_at i h));
          most = omega (arith, due.most, w.sum, ap (λ n. sum_of (λ i. weight (seat_of seats i)) (up_to n)) w.all, sum_index weight (seat_at [] 0 0 0) seats);
        }

    share_is : (i : ℕ) → i < count → share_at keys lots count x i ≡ dealt standing long x seats (seat_of seats i)
    unfolding share_at
    share_is i h =
        let code : (j : ℕ) → j < count → is_code (seat_of seats j).code ≡ true = λ j l. (sane_at seats due.sane.all j _ (omega (arith, w.all))).code in
        let order : (b c : ℕ) → Memᴰ b (up_to count) → Memᴰ c (up_to count) → smaller (seat_of seats b).code (seat_of seats c).code ≡ smaller (keyCode keys b) (keyCode keys c) =
        λ b c p q. key_smaller _ _ (code b (up_to_below count p)) (code c (up_to_below count q)) ∙ sym (smaller_one (member keys b) (member keys c) ∙ ap₂ ltb (key_at b (up_to_below count p)) (key_at c (up_to_below count q))) in
        let all : map (seat_of seats) (up_to count) ≡ seats = ap (λ n. map (seat_of seats) (up_to n)) w.all ∙ map_up_to _ seats in
        sym (share_along seat_code weight (keyCode keys) (member lots) (seat_of seats) (up_to count) (λ b m. sym (weight_at b (up_to_below count m))) order x i (below_up_to count h))
        ∙ ap (λ l. share seat_code weight x l (seat_of seats i)) all

    pub divided_is : divided keys count x lots ≡ in_places (dealt standing long x seats) seats
    unfolding divided
    divided_is =
        ap (λ l. map (share_at keys lots count x) (up_to count) ++ drop count l) w.lots
        ∙ filled_filled (share_at keys lots count x) (λ i. weight (seat_of seats i)) count no_lots
        ∙ ap (λ l. l ++ drop count no_lots) (map_below _ _ count share_is)
        ∙ ap (λ n. map (λ i. dealt standing long x seats (seat_of seats i)) (up_to n) ++ drop n no_lots) w.all
        ∙ ap (λ l. l ++ drop (length seats) no_lots) (by_index seats (dealt standing long x seats))
