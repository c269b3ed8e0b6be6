-- A stamp that is read, by the twos of digits at its places.
-- Assumes nothing.
use Rattle.std.proofs.Common.{◌≡◌, ℕ, ◌+◌, ◌*◌, ◌≤◌, Bool, true, false, cond, ◌&&◌, leb, List, ◌++◌, length, get_or, take, drop, sym, refl, ap, ◌∙◌, ap₂, arith, leb-true}
use mathlib.Core.Bool.{and-eq-true_iff}
use Rattle.rules.specs.Text.{is}
use Rattle.rules.specs.Figures.{all_digits_of, number_after}
use Rattle.rules.specs.Stamp.{is_date, is_day, is_time, stamp_number}
use Rattle.figures.specs.declared.number.Digits.TheVariants.{Number, Other}
use Rattle.figures.specs.Numbers.{digits_after}
use Rattle.figures.specs.Two.{bytes_at, two_at}
use Rattle.figures.specs.Stamps.{day_by, stamp_in}
use Rattle.figures.proofs.Stamps.{counted, chosen, stamp_from}
use Rattle.figures.proofs.Twos.{split, two_most, day_bytes, time_bytes, day_bytes_lem, time_bytes_lem, after, day_number}
use Rattle.figures.proofs.Dates.{dated, date_range, timed}

pub record Twos (v : List ℕ) (s : ℕ) : Type 0 where
  pub century_digits : all_digits_of (bytes_at v 1) ≡ true
  pub year_digits : all_digits_of (bytes_at v 3) ≡ true
  pub month_digits : all_digits_of (bytes_at v 5) ≡ true
  pub day_digits : all_digits_of (bytes_at v 7) ≡ true
  pub hour_digits : all_digits_of (bytes_at v 10) ≡ true
  pub minute_digits : all_digits_of (bytes_at v 12) ≡ true
  pub century : two_at v 1 ≡ 20
  pub date : is_date (2_000 + two_at v 3) (two_at v 5) (two_at v 7) ≡ true
  pub hour : two_at v 10 ≤ 23
  pub minute : two_at v 12 ≤ 59
  pub number : stamp_number (day_by (two_at v 3) (two_at v 5) (two_at v 7)) (two_at v 10 * 100 + two_at v 12) ≡ s

told :
    (day time : Bool) (d t s : ℕ) → stamp_from (cond day (Number d) Other) (cond time (Number t) Other) ≡ Number s →
    ((day ≡ true) × (time ≡ true)) × (((is_day d && is_time t) ≡ true) × (stamp_number d t ≡ s))
told true true d t s h = ((refl, refl), counted (is_day d && is_time t) (stamp_number d t) s h)
told true false d t s h = let z : ◌≡◌ {A = ℕ} 0 1 = cc in absurd (omega arith)
told false time d t s h = let z : ◌≡◌ {A = ℕ} 0 1 = cc in absurd (omega arith)

pub stamp_twos : (v : List ℕ) (s : ℕ) → length v ≡ 14 → stamp_in v ≡ Number s → Twos v s
stamp_twos v s e h =
    let blanks = is " " (get_or v 0 0) && is " " (get_or v 9 0) in
    let c = (chosen blanks (stamp_from (digits_after 0 (take 8 (drop 1 v))) (digits_after 0 (drop 10 v))) s h).1 in
    let k = ap₂ (λ (x y : List ℕ). stamp_from (digits_after 0 x) (digits_after 0 y)) (sym (day_bytes_lem v e)) (sym (time_bytes_lem v e)) ∙ c in
    let day = number_after 0 (day_bytes v) in
    let time = number_after 0 (time_bytes v) in
    let t = told (all_digits_of (day_bytes v)) (all_digits_of (time_bytes v)) day time s k in
    let a = split (bytes_at v 1) (bytes_at v 3 ++ (bytes_at v 5 ++ bytes_at v 7)) t.0.0 in
    let b = split (bytes_at v 3) (bytes_at v 5 ++ bytes_at v 7) a.1 in
    let d = split (bytes_at v 5) (bytes_at v 7) b.1 in
    let f = split (bytes_at v 10) (bytes_at v 12) t.0.1 in
    let good = (and-eq-true_iff (is_day day) (is_time time)).0 t.1.0 in
    let y = two_most v 3 b.0 in
    let parts = dated (two_at v 1 * 100 + two_at v 3) (two_at v 5) (two_at v 7) (two_most v 5 d.0) (two_most v 7 d.1) in
    let date = sym parts ∙ sym (ap is_day (day_number v)) ∙ good.0 in
    let range = date_range (two_at v 1 * 100 + two_at v 3) (two_at v 5) (two_at v 7) date in
    let century : two_at v 1 ≡ 20 = omega (arith, range.year_least, range.year_most, y) in
    let year : two_at v 1 * 100 + two_at v 3 ≡ 2_000 + two_at v 3 = omega (arith, century) in
    let clock = sym (timed (two_at v 10) (two_at v 12) (two_most v 12 f.1)) ∙ sym (ap is_time (after v 12 (two_at v 10))) ∙ good.1 in
    let u = (and-eq-true_iff (leb (two_at v 10) 23) (leb (two_at v 12) 59)).0 clock in
    let all : day ≡ day_by (two_at v 3) (two_at v 5) (two_at v 7) = omega (arith, day_number v, century) in
    record {
      century_digits = a.0;
      year_digits = b.0;
      month_digits = d.0;
      day_digits = d.1;
      hour_digits = f.0;
      minute_digits = f.1;
      century = century;
      date = ap (λ (x : ℕ). is_date x (two_at v 5) (two_at v 7)) (sym year) ∙ date;
      hour = leb-true _ _ u.0;
      minute = leb-true _ _ u.1;
      number = sym (ap₂ stamp_number all (after v 12 (two_at v 10))) ∙ t.1.1;
    }

-- the same twos make the same stamp
pub same_stamp :
    (s y m d h n u v w i j : ℕ) → s ≡ stamp_number (day_by y m d) (h * 100 + n) →
    y ≡ u → m ≡ v → d ≡ w → h ≡ i → n ≡ j → s ≡ stamp_number (day_by u v w) (i * 100 + j)
same_stamp s y m d h n u v w i j e a b c f g =
    let day : day_by y m d ≡ day_by u v w = omega arith in
    let time : h * 100 + n ≡ i * 100 + j = omega arith in
    e ∙ ap₂ stamp_number day time
