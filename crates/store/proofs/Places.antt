-- The places of the store, from one on, and the lots at them.
-- Assumes nothing.
use Prim.Native.Nat.{ℕ, zero, suc, ◌+◌, ◌-◌, ◌≤◌, ◌<◌}
use mathlib.Core.Path.{◌≡◌, refl, sym, ap, ap₂, ◌∙◌}
use mathlib.Core.Bool.{cond}
use mathlib.Core.List.{List, [], ◌∷◌, ◌++◌}
use native.Mathlib.Omega.{arith}
use lib.Dec.{leb}
use Rattle.rules.specs.Division.{sum_of}
use Rattle.laws.specs.Sums.{up_to}
use Rattle.order.specs.Order.{lots_from}
use Rattle.store.specs.Held.{at, places, newer_lots}

-- ---- the first of them, the last of them
pub places_next : (i end : ℕ) → i < end → places i (end - i) ≡ i ∷ places (i + 1) (end - (i + 1))
places_next i end h = let n : end - i ≡ suc (end - (i + 1)) = omega arith in ap (places i) n

pub places_none : (i end : ℕ) → end ≤ i → places i (end - i) ≡ []
places_none i end h = let n : end - i ≡ 0 = omega arith in ap (places i) n

places_last : (i n : ℕ) → places i (suc n) ≡ places i n ++ (i + n) ∷ []
places_last i zero = ap (λ (k : ℕ). k ∷ []) (omega arith)
places_last i (suc n) =
    ap (λ (l : List ℕ). i ∷ l) (places_last (i + 1) n ∙ ap (λ (k : ℕ). places (i + 1) n ++ k ∷ []) (omega arith))

pub places_up : (n : ℕ) → places 0 n ≡ up_to n
places_up zero = refl
places_up (suc n) = places_last 0 n ∙ ap₂ (λ (l : List ℕ) (k : ℕ). l ++ k ∷ []) (places_up n) (omega arith)

-- ---- their lots
pub lots_next : (stamps lots : List ℕ) (i end e : ℕ) → i < end →
    newer_lots stamps lots i end e ≡ cond (leb e (at stamps i)) (at lots i) 0 + newer_lots stamps lots (i + 1) end e
unfolding newer_lots
lots_next stamps lots i end e h = ap (lots_from (at stamps) (at lots) e) (places_next i end h)

pub lots_none : (stamps lots : List ℕ) (i end e : ℕ) → end ≤ i → newer_lots stamps lots i end e ≡ 0
unfolding newer_lots
lots_none stamps lots i end e h = ap (lots_from (at stamps) (at lots) e) (places_none i end h)

sum_last : (f : ℕ → ℕ) (i n : ℕ) → sum_of f (places i (suc n)) ≡ f (i + n) + sum_of f (places i n)
sum_last f i zero = ap (λ (k : ℕ). f k + 0) (omega arith)
sum_last f i (suc n) =
    let e : i + 1 + n ≡ i + suc n = omega arith in
    omega (arith, sum_last f (i + 1) n, ap f e)

pub lots_last : (stamps lots : List ℕ) (i e : ℕ) →
    cond (leb e (at stamps i)) (at lots i) 0 + newer_lots stamps lots 0 i e ≡ newer_lots stamps lots 0 (i + 1) e
unfolding newer_lots
lots_last stamps lots i e =
    let part : ℕ → ℕ = λ j. cond (leb e (at stamps j)) (at lots j) 0 in
    let a : 0 + i ≡ i = omega arith in
    let b : i - 0 ≡ i = omega arith in
    let c : i + 1 - 0 ≡ suc i = omega arith in
    rw (b, c) (sym (sum_last part 0 i ∙ ap (λ (k : ℕ). part k + sum_of part (places 0 i)) a))
