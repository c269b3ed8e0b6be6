-- Two digits at a place, and the bytes of a day and of a time as such twos.
-- Assumes nothing.
use Rattle.std.proofs.Common.{◌≡◌, ℕ, ◌+◌, ◌*◌, ◌%◌, ◌^◌, ◌<◌, ◌≤◌, true, false, leb, List, [], ◌∷◌, ◌++◌, length, get_or, take, drop, sym, refl, ap, ◌∙◌, arith, drop_of_length-le, le-leb, leb-false, leb-true}
use Prim.Native.Char.{code}
use mathlib.Core.Bool.{and-false, and-eq-true_iff, false≢true}
use Rattle.rules.specs.Figures.{is_digit, all_digits_of, number_after}
use Rattle.figures.specs.Two.{TwoOf, bytes_at, two_at}
use Rattle.figures.proofs.Lists.{drop_step, by_test}

-- Digits on two sides.

pub split : (a b : List ℕ) → all_digits_of (a ++ b) ≡ true → (all_digits_of a ≡ true) × (all_digits_of b ≡ true)
split [] b h = (refl, h)
split (x ∷ a) b h =
    let p = (and-eq-true_iff (is_digit x) (all_digits_of (a ++ b))).0 h in
    let q = split a b p.1 in
    (simp (p.0, q.0), q.1)

pub join : (a b : List ℕ) → all_digits_of a ≡ true → all_digits_of b ≡ true → all_digits_of (a ++ b) ≡ true
join [] b h k = k
join (x ∷ a) b h k = let p = (and-eq-true_iff (is_digit x) (all_digits_of a)).0 h in simp p.0 (join a b p.1 k)

-- Two of them.

pub digit : (x : ℕ) → is_digit x ≡ true → (code "0" ≤ x) × (x ≤ code "9")
digit x h =
    let q = (and-eq-true_iff (leb (code "0") x) (leb x (code "9"))).0 h in
    (leb-true _ _ q.0, leb-true _ _ q.1)

pub record Two (x y : ℕ) : Type 0 where
  pub tens_least : code "0" ≤ x
  pub tens_most : x ≤ code "9"
  pub ones_least : code "0" ≤ y
  pub ones_most : y ≤ code "9"

pub two : (x y : ℕ) → all_digits_of (x ∷ y ∷ []) ≡ true → Two x y
two x y h =
    let p = split (x ∷ []) (y ∷ []) h in
    let a = digit x ((and-eq-true_iff (is_digit x) true).0 p.0).0 in
    let b = digit y ((and-eq-true_iff (is_digit y) true).0 p.1).0 in
    record { tens_least = a.0; tens_most = a.1; ones_least = b.0; ones_most = b.1 }

pub two_most : (v : List ℕ) (i : ℕ) → all_digits_of (bytes_at v i) ≡ true → two_at v i ≤ 99
two_most v i h = let t = two (get_or v i 0) (get_or v (i + 1) 0) h in omega arith

-- and what is read of them
pub no_ones : (x y : ℕ) → is_digit y ≡ false → TwoOf (x ∷ y ∷ []) 100
no_ones x y h = record { digits = λ few. absurd (omega (arith, few)); none = λ many. simp (h, and-false) }

-- the bytes as tens and ones less 528, modulo 2^64
unwrapped : (s r : ℕ) → 528 ≤ s → r < 2 ^ 64 → (r + 528) % 2 ^ 64 ≡ s → r + 528 ≡ s
unwrapped s r h big e = omega arith

pub two_wrapped : (x y r : ℕ) → x < 256 → is_digit y ≡ true → r < 2 ^ 64 → (r + 528) % 2 ^ 64 ≡ x * 10 + y → TwoOf (x ∷ y ∷ []) r
two_wrapped x y r small h big e =
    let q = digit y h in
    record {
      digits = λ few. (simp (le-leb (code "0") x (omega arith), le-leb x (code "9") (omega arith), h), omega arith);
      none = λ many. by_test (all_digits_of (x ∷ y ∷ []))
          (λ t. let w = two x y t in absurd (omega (arith, many, unwrapped (x * 10 + y) r (omega arith) big e)))
          (λ t. t);
    }

pub two_told : {bytes : List ℕ} {r : ℕ} → TwoOf bytes r → all_digits_of bytes ≡ true → r ≡ number_after 0 bytes
two_told {bytes} {r} t h =
    by_test (leb r 99)
    (λ few. (t.digits (leb-true r 99 few)).1)
    (λ many. absurd (false≢true (sym (t.none (leb-false r 99 many)) ∙ h)))

-- The bytes of a day and of a time.

abbrev pub day_bytes : List ℕ → List ℕ
day_bytes v = bytes_at v 1 ++ (bytes_at v 3 ++ (bytes_at v 5 ++ bytes_at v 7))

abbrev pub time_bytes : List ℕ → List ℕ
time_bytes v = bytes_at v 10 ++ bytes_at v 12

pub day_bytes_lem : (v : List ℕ) → length v ≡ 14 → take 8 (drop 1 v) ≡ day_bytes v
day_bytes_lem v e =
    simp (
      drop_step v 1 (omega arith),
      drop_step v 2 (omega arith),
      drop_step v 3 (omega arith),
      drop_step v 4 (omega arith),
      drop_step v 5 (omega arith),
      drop_step v 6 (omega arith),
      drop_step v 7 (omega arith),
      drop_step v 8 (omega arith),
    )

pub time_bytes_lem : (v : List ℕ) → length v ≡ 14 → drop 10 v ≡ time_bytes v
time_bytes_lem v e =
    simp (
      drop_step v 10 (omega arith),
      drop_step v 11 (omega arith),
      drop_step v 12 (omega arith),
      drop_step v 13 (omega arith),
      drop_of_length-le v {i = 14} (omega arith),
    )

-- two digits after a number
pub after : (v : List ℕ) (i n : ℕ) → number_after n (bytes_at v i) ≡ n * 100 + two_at v i
after v i n = omega arith

pub day_number : (v : List ℕ) → number_after 0 (day_bytes v) ≡ ((two_at v 1 * 100 + two_at v 3) * 100 + two_at v 5) * 100 + two_at v 7
day_number v =
    let year = two_at v 1 * 100 + two_at v 3 in
    ap (λ (n : ℕ). number_after n (bytes_at v 5 ++ bytes_at v 7)) (after v 3 (two_at v 1))
    ∙ ap (λ (n : ℕ). number_after n (bytes_at v 7)) (after v 5 year)
    ∙ after v 7 (year * 100 + two_at v 5)
