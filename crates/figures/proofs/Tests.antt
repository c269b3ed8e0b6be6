-- The tests of the reader of a stamp: nothing is read where one of them fails, and all that hold say what is read.
-- Assumes nothing.
use Rattle.std.proofs.Common.{◌≡◌, ℕ, ◌+◌, ◌*◌, ◌<◌, ◌≤◌, Bool, true, false, cond, List, [], ◌∷◌, ◌++◌, length, get_or, sym, refl, ap, ◌∙◌, ap₂, arith, le-leb}
use Prim.Native.Char.{code}
use mathlib.Core.Bool.{false≢true}
use Rattle.rules.specs.Figures.{all_digits_of, number_after}
use Rattle.rules.specs.Stamp.{is_date, is_day, is_time, stamp_number}
use Rattle.figures.specs.declared.number.Digits.{Digits}
use Rattle.figures.specs.declared.number.Digits.TheVariants.{Number, Other}
use Rattle.figures.specs.Numbers.{digits_after}
use Rattle.figures.specs.Two.{TwoOf, bytes_at, two_at}
use Rattle.figures.specs.Stamps.{day_by, stamp_in}
use Rattle.figures.proofs.Stamps.{stamp_from, by_blanks}
use Rattle.figures.proofs.Twos.{two, join, two_told, day_bytes, time_bytes, day_bytes_lem, time_bytes_lem, after, day_number}
use Rattle.figures.proofs.Dates.{dated, date_range, timed}
use Rattle.figures.proofs.Places.{Twos, stamp_twos}

-- One fails.

missing : (d : Digits) → ((s : ℕ) → d ≡ Number s → ⊥) → d ≡ Other
missing (Number s) h = absurd (h s refl)
missing Other h = refl

no_twos : (v : List ℕ) → length v ≡ 14 → ((s : ℕ) → Twos v s → ⊥) → stamp_in v ≡ Other
no_twos v e h = missing (stamp_in v) (λ s k. h s (stamp_twos v s e k))

-- the year begins with 20
century_bytes : (x y : ℕ) → all_digits_of (x ∷ y ∷ []) ≡ true → number_after 0 (x ∷ y ∷ []) ≡ 20 → (x ≡ code "2") × (y ≡ code "0")
century_bytes x y h e = let t = two x y h in (omega arith, omega arith)

pub no_century_tens : (v : List ℕ) → length v ≡ 14 → (get_or v 1 0 ≡ code "2" → ⊥) → stamp_in v ≡ Other
no_century_tens v e h = no_twos v e (λ s t. h (century_bytes _ _ t.century_digits t.century).0)

pub no_century_ones : (v : List ℕ) → length v ≡ 14 → (get_or v 2 0 ≡ code "0" → ⊥) → stamp_in v ≡ Other
no_century_ones v e h = no_twos v e (λ s t. h (century_bytes _ _ t.century_digits t.century).1)

pub no_date :
    (v : List ℕ) (y m d : ℕ) → length v ≡ 14 → TwoOf (bytes_at v 3) y → TwoOf (bytes_at v 5) m → TwoOf (bytes_at v 7) d →
    is_date (2_000 + y) m d ≡ false → stamp_in v ≡ Other
no_date v y m d e a b c h =
    no_twos v e (λ s t.
    false≢true
    (sym h
    ∙ ap (λ (x : ℕ). is_date (2_000 + x) m d) (two_told a t.year_digits)
    ∙ ap₂ (is_date (2_000 + two_at v 3)) (two_told b t.month_digits) (two_told c t.day_digits)
    ∙ t.date))

pub no_hour : (v : List ℕ) (r : ℕ) → length v ≡ 14 → TwoOf (bytes_at v 10) r → 23 < r → stamp_in v ≡ Other
no_hour v r e a h = no_twos v e (λ s t. omega (arith, two_told a t.hour_digits, t.hour, h))

pub no_minute : (v : List ℕ) (r : ℕ) → length v ≡ 14 → TwoOf (bytes_at v 12) r → 59 < r → stamp_in v ≡ Other
no_minute v r e a h = no_twos v e (λ s t. omega (arith, two_told a t.minute_digits, t.minute, h))

-- All hold.

tell :
    (day time : Bool) (d t : ℕ) → day ≡ true → time ≡ true → is_day d ≡ true → is_time t ≡ true →
    stamp_from (cond day (Number d) Other) (cond time (Number t) Other) ≡ Number (stamp_number d t)
tell day time d t a b x y = simp (a, b, x, y)

century_told : (v : List ℕ) → get_or v 1 0 ≡ code "2" → get_or v 2 0 ≡ code "0" → (all_digits_of (bytes_at v 1) ≡ true) × (two_at v 1 ≡ 20)
century_told v h k = (ap₂ (λ (x y : ℕ). all_digits_of (x ∷ y ∷ [])) h k, ap₂ (λ (x y : ℕ). number_after 0 (x ∷ y ∷ [])) h k)

-- the twos of a day and a time
pub record Tested (v : List ℕ) (y m d h n : ℕ) : Type 0 where
  pub century_tens : get_or v 1 0 ≡ code "2"
  pub century_ones : get_or v 2 0 ≡ code "0"
  pub year : TwoOf (bytes_at v 3) y
  pub month : TwoOf (bytes_at v 5) m
  pub day : TwoOf (bytes_at v 7) d
  pub hour : TwoOf (bytes_at v 10) h
  pub minute : TwoOf (bytes_at v 12) n
  pub date : is_date (2_000 + y) m d ≡ true
  pub hour_most : h ≤ 23
  pub minute_most : n ≤ 59

pub twos_stamp :
    (v : List ℕ) (y m d h n : ℕ) → length v ≡ 14 → get_or v 0 0 ≡ code " " → get_or v 9 0 ≡ code " " → Tested v y m d h n →
    stamp_in v ≡ Number (stamp_number (day_by y m d) (h * 100 + n))
twos_stamp v y m d h n e first second t =
    let range = date_range (2_000 + y) m d t.date in
    let year = t.year.digits (omega (arith, range.year_most)) in
    let month = t.month.digits (omega (arith, range.month_most)) in
    let day = t.day.digits (omega (arith, range.day_most)) in
    let hour = t.hour.digits (omega (arith, t.hour_most)) in
    let minute = t.minute.digits (omega (arith, t.minute_most)) in
    let century = century_told v t.century_tens t.century_ones in
    let number = number_after 0 (day_bytes v) in
    let all : number ≡ day_by y m d = omega (arith, day_number v, century.1, year.1, month.1, day.1) in
    let time : number_after 0 (time_bytes v) ≡ h * 100 + n = omega (arith, after v 12 (two_at v 10), hour.1, minute.1) in
    let parts = dated (2_000 + y) m d (omega (arith, range.month_most)) (omega (arith, range.day_most)) in
    by_blanks v first second
    ∙ ap₂ (λ (x z : List ℕ). stamp_from (digits_after 0 x) (digits_after 0 z)) (day_bytes_lem v e) (time_bytes_lem v e)
    ∙ tell (all_digits_of (day_bytes v)) (all_digits_of (time_bytes v)) number (number_after 0 (time_bytes v))
    (join (bytes_at v 1) (bytes_at v 3 ++ (bytes_at v 5 ++ bytes_at v 7)) century.0
    (join (bytes_at v 3) (bytes_at v 5 ++ bytes_at v 7) year.0 (join (bytes_at v 5) (bytes_at v 7) month.0 day.0)))
    (join (bytes_at v 10) (bytes_at v 12) hour.0 minute.0)
    (ap is_day all ∙ parts ∙ t.date)
    (ap is_time time ∙ timed h n (omega (arith, t.minute_most)) ∙ simp (le-leb h 23 t.hour_most, le-leb n 59 t.minute_most))
    ∙ ap Number (ap₂ stamp_number all time)

pub told_so : (d : Digits) (r s : ℕ) → d ≡ Number s → r ≡ s → Number r ≡ d
told_so d r s h e = cc
