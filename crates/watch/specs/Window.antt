-- The last six days as the code keeps them, newest first: the price and the open interest of each, 0 where there is none.
-- Assumes nothing.
use Rattle.std.specs.Prelude.{ℕ, zero, suc, ◌+◌, ◌*◌, ◌≤◌, ◌<◌, ◌≡◌, refl, List, [], ◌∷◌, Bool, true, false, cond, ◌&&◌, leb, ltb, length, get_or, take}
use Rattle.std.proofs.Common.{sym, ap, ◌∙◌, arith, lt-ltb, le-ltb, ltb-true, leb-true}
use Rattle.std.proofs.Math.Bool.{and-eq-true_iff}
use Rattle.std.proofs.Math.Dec.{leb-suc-suc}
use Rattle.days.specs.declared.Metal.{Metal}
use Rattle.rules.specs.Figures.{fen, lots}
use Rattle.days.specs.declared.Day.{Day}
use Rattle.watch.specs.declared.span.Close.{Close}
use Rattle.watch.specs.declared.table.Row.{Row}
use Rattle.watch.specs.Table.{row, table, first_row, row_at}
use Rattle.watch.specs.Watch.{moved, grown, back, price_met, interest_met, spans_on}

abbrev pub close_of : Day → Close
close_of d = record { price = d.price; interest = d.interest }

-- of a day that is not there
abbrev pub no_close : Close
no_close = record { price = fen 0; interest = lots 0 }

abbrev pub window : ℕ → List Day → List Close
window zero ds = []
window (suc n) [] = no_close ∷ window n []
window (suc n) (d ∷ ds) = close_of d ∷ window n ds

-- the price and the open interest of a place
abbrev pub price_at : List Close → ℕ → ℕ
price_at w i = (get_or w i no_close).price.0

abbrev pub interest_at : List Close → ℕ → ℕ
interest_at w i = (get_or w i no_close).interest.0

-- no price and no open interest is larger
abbrev pub most : ℕ
most = 9_999_999_999

abbrev pub Small : List Close → Type 0
Small w = (i : ℕ) → (price_at w i ≤ most) × (interest_at w i ≤ most)

-- the bits of one span, where so many days are there: 1 for the price and 8 for open interest
unfoldable pub bits_in : Row → List Close → ℕ → ℕ
bits_in row w n =
    cond (ltb row.days n)
    (cond (moved row.price (price_at w 0) (price_at w row.days)) 1 0 + 8 * cond (grown row.interest (interest_at w 0) (interest_at w row.days)) 1 0)
    0

unfoldable pub byte_in : Metal → List Close → ℕ → ℕ
byte_in metal w n = bits_in (row_at metal 0) w n + 2 * bits_in (row_at metal 1) w n + 4 * bits_in (row_at metal 2) w n

-- a row's figures are small
pub record Few (row : Row) : Type 0 where
  pub days : row.days < 6
  pub price : row.price ≤ 100
  pub interest : row.interest ≤ 100

-- at every place of a list whose rows' figures are small, and behind it
small_rows : List Row → Bool
small_rows [] = true
small_rows (r ∷ rs) = (ltb r.days 6 && leb r.price 100 && leb r.interest 100) && small_rows rs

few_at : (rs : List Row) (i : ℕ) → small_rows rs ≡ true → Few (get_or rs i (row 0 0 0))
unfolding small_rows
few_at [] i h = record { days = omega arith; price = omega arith; interest = omega arith }
few_at (r ∷ rs) zero h =
    let p = ((and-eq-true_iff (ltb r.days 6 && leb r.price 100 && leb r.interest 100) (small_rows rs)).0 h).0 in
    let q = (and-eq-true_iff (ltb r.days 6 && leb r.price 100) (leb r.interest 100)).0 p in
    let o = (and-eq-true_iff (ltb r.days 6) (leb r.price 100)).0 q.0 in
    record { days = ltb-true r.days 6 o.0; price = leb-true r.price 100 o.1; interest = leb-true r.interest 100 q.1 }
few_at (r ∷ rs) (suc i) h = few_at rs i ((and-eq-true_iff (ltb r.days 6 && leb r.price 100 && leb r.interest 100) (small_rows rs)).0 h).1

pub row_few : (metal : Metal) (span : ℕ) → Few (row_at metal span)
unfolding row_at small_rows
row_few metal span = few_at table (first_row metal + span) refl

-- a test of the day so many days behind reads its place
pub back_window : (k n : ℕ) (f : Close → Bool) (ds : List Day) → n < k →
    back n ds (λ d. f (close_of d)) ≡ (ltb n (length ds) && f (get_or (window k ds) n no_close))
back_window zero n f ds h = absurd (omega arith)
back_window (suc k) n f [] h = simp (le-ltb n 0 (omega arith))
back_window (suc k) zero f (d ∷ ds) h = simp (lt-ltb 0 (suc (length ds)) (omega arith))
back_window (suc k) (suc n) f (d ∷ ds) h = back_window k n f ds (omega arith) ∙ ap (λ (b : Bool). b && f (get_or (window k ds) n no_close)) (sym (leb-suc-suc (suc n) (length ds)))

-- one day more: all move by one place, and the last goes
pub take_window : (m n : ℕ) (ds : List Day) → m ≤ n → take m (window n ds) ≡ window m ds
take_window zero n ds h = refl
take_window (suc m) zero ds h = absurd (omega arith)
take_window (suc m) (suc n) [] h = ap (λ (l : List Close). no_close ∷ l) (take_window m n [] (omega arith))
take_window (suc m) (suc n) (d ∷ ds) h = ap (λ (l : List Close). close_of d ∷ l) (take_window m n ds (omega arith))

small_take : (m : ℕ) (w : List Close) → Small w → Small (take m w)
small_take zero w h i = (omega arith, omega arith)
small_take (suc m) [] h i = (omega arith, omega arith)
small_take (suc m) (x ∷ w) h zero = h 0
small_take (suc m) (x ∷ w) h (suc i) = small_take m w (λ j. h (suc j)) i

pub small_shift : (x : Close) (w : List Close) → x.price.0 ≤ most → x.interest.0 ≤ most → Small w → Small (x ∷ take 5 w)
small_shift x w h k l zero = (h, k)
small_shift x w h k l (suc i) = small_take 5 w l i

pub small_none : Small (window 6 [])
small_none i = go 6 i
  where
    go : (n i : ℕ) → (price_at (window n []) i ≤ most) × (interest_at (window n []) i ≤ most)
    go zero i = (omega arith, omega arith)
    go (suc n) zero = (omega arith, omega arith)
    go (suc n) (suc i) = go n i

-- the bits of a span are those of the definition
both_bits : (b x y : Bool) → cond b (cond x 1 0 + 8 * cond y 1 0) 0 ≡ cond (b && x) 1 0 + 8 * cond (b && y) 1 0
both_bits true x y = refl
both_bits false x y = refl

module _ (d : Day) (ds : List Day) where
  bits_window : (row : Row) → row.days < 6 →
      bits_in row (window 6 (d ∷ ds)) (length (d ∷ ds)) ≡ cond (price_met (d ∷ ds) row) 1 0 + 8 * cond (interest_met (d ∷ ds) row) 1 0
  unfolding bits_in
  bits_window row h =
      rw (
        back_window 6 row.days (λ base. moved row.price d.price.0 base.price.0) (d ∷ ds) h,
        back_window 6 row.days (λ base. grown row.interest d.interest.0 base.interest.0) (d ∷ ds) h,
      )
      (both_bits (ltb row.days (suc (length ds))) _ _)

  pub byte_window : (metal : Metal) → byte_in metal (window 6 (d ∷ ds)) (length (d ∷ ds)) ≡ spans_on metal (d ∷ ds)
  unfolding byte_in spans_on
  byte_window metal =
      omega (arith, bits_window (row_at metal 0) (row_few metal 0).days, bits_window (row_at metal 1) (row_few metal 1).days, bits_window (row_at metal 2) (row_few metal 2).days)
