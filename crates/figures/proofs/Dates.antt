-- A day and a time by their twos of digits: the definitions take apart a number of eight digits, and one of four.
-- Assumes nothing.
use Rattle.std.proofs.Common.{◌≡◌, ℕ, ◌+◌, ◌*◌, ◌/◌, ◌%◌, ◌≤◌, true, ◌&&◌, ◌||◌, eqb, leb, ap, ◌∙◌, ap₂, arith, eq-eqb, eqb-true, leb-true}
use mathlib.Core.Bool.{and-eq-true_iff}
use Rattle.rules.specs.Stamp.{leap, days_in, is_date, is_day, is_time, minutes}
use Rattle.figures.proofs.Lists.{by_test}

-- Of a date.

date_parts :
    (year m d : ℕ) → m ≤ 99 → d ≤ 99 →
    let n = (year * 100 + m) * 100 + d in
    (n / 10_000 ≡ year) × (n / 100 % 100 ≡ m) × (n % 100 ≡ d)
date_parts year m d h k = (omega arith, omega arith, omega arith)

pub dated : (year m d : ℕ) → m ≤ 99 → d ≤ 99 → is_day ((year * 100 + m) * 100 + d) ≡ is_date year m d
dated year m d h k =
    let n = (year * 100 + m) * 100 + d in
    let p = date_parts year m d h k in
    ap (λ (x : ℕ). is_date x (n / 100 % 100) (n % 100)) p.0
    ∙ ap (λ (x : ℕ). is_date year x (n % 100)) p.1
    ∙ ap (is_date year m) p.2

days : (year month : ℕ) → (28 ≤ days_in year month) × (days_in year month ≤ 31)
days year month =
    by_test (eqb month 2)
    (λ t. by_test (leap year) (λ u. simp (t, u) (omega arith, omega arith)) (λ u. simp (t, u) (omega arith, omega arith)))
    (λ t.
    by_test (eqb month 4 || eqb month 6 || eqb month 9 || eqb month 11)
    (λ u. simp (t, u) (omega arith, omega arith))
    (λ u. simp (t, u) (omega arith, omega arith)))

pub days_least : (year month : ℕ) → 28 ≤ days_in year month
days_least year month = (days year month).0

pub record Dated (year month day : ℕ) : Type 0 where
  pub year_least : 2_000 ≤ year
  pub year_most : year ≤ 2_099
  pub month_most : month ≤ 12
  pub day_most : day ≤ 31

pub date_range : (year m d : ℕ) → is_date year m d ≡ true → Dated year m d
date_range year m d h =
    let years = leb 2_000 year && leb year 2_099 in
    let a = (and-eq-true_iff (years && leb 1 m && leb m 12 && leb 1 d) (leb d (days_in year m))).0 h in
    let b = (and-eq-true_iff (years && leb 1 m && leb m 12) (leb 1 d)).0 a.0 in
    let e = (and-eq-true_iff (years && leb 1 m) (leb m 12)).0 b.0 in
    let f = (and-eq-true_iff years (leb 1 m)).0 e.0 in
    let g = (and-eq-true_iff (leb 2_000 year) (leb year 2_099)).0 f.0 in
    record {
      year_least = leb-true _ _ g.0;
      year_most = leb-true _ _ g.1;
      month_most = leb-true _ _ e.1;
      day_most = omega (arith, leb-true d (days_in year m) a.1, (days year m).1);
    }

-- 2000 is a leap year, and from there to 2099 every fourth
pub leap_by : (y : ℕ) → y ≤ 99 → leap (2_000 + y) ≡ eqb (y % 4) 0
leap_by y h =
    let four : (2_000 + y) % 4 ≡ y % 4 = omega arith in
    by_test (eqb (y % 4) 0)
    (λ t.
    by_test (eqb ((2_000 + y) % 100) 0)
    (λ u.
    let z = eqb-true ((2_000 + y) % 100) 0 u in
    let w : (2_000 + y) % 400 ≡ 0 = omega arith in
    simp (four, t, u, eq-eqb ((2_000 + y) % 400) 0 w))
    (λ u. simp (four, t, u)))
    (λ t. simp (four, t))

-- Of a time.

time_parts : (hour minute : ℕ) → minute ≤ 99 → let t = hour * 100 + minute in (t / 100 ≡ hour) × (t % 100 ≡ minute)
time_parts hour minute h = (omega arith, omega arith)

pub timed : (hour minute : ℕ) → minute ≤ 99 → is_time (hour * 100 + minute) ≡ (leb hour 23 && leb minute 59)
timed hour minute h =
    let p = time_parts hour minute h in
    ap₂ (λ (x y : ℕ). leb x 23 && leb y 59) p.0 p.1

pub clock : (hour minute : ℕ) → minute ≤ 99 → minutes (hour * 100 + minute) ≡ (hour * 60 + minute + 250) % 1_440
clock hour minute h =
    let p = time_parts hour minute h in
    ap₂ (λ (x y : ℕ). (x * 60 + y + 250) % 1_440) p.0 p.1
