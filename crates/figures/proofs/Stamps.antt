-- A stamp by the place of its two blanks, and by its day and its time: what the reader of the last 14 bytes answers.
-- Assumes nothing.
use Rattle.std.proofs.Common.{◌≡◌, ℕ, ◌+◌, Bool, true, false, cond, ◌&&◌, eqb, List, ◌∷◌, ◌++◌, length, get_or, take, drop, refl, ap, ◌∙◌, arith, take_at, eq-eqb, ne_eqb, eqb-true}
use Prim.Native.Char.{code}
use mathlib.Core.Bool.{and-false, and-eq-true_iff}
use lib.Seq.{get_or_at, drop-append-add}
use Rattle.rules.specs.declared.Figure.{Figure}
use Rattle.rules.specs.declared.Figure.TheVariants.{Value, Malformed}
use Rattle.rules.specs.Text.{is}
use Rattle.rules.specs.Figures.{all_digits_of, number_after}
use Rattle.rules.specs.Stamp.{is_day, is_time, stamp_number, digits_of, stamp_of}
use Rattle.figures.specs.declared.number.Digits.{Digits}
use Rattle.figures.specs.declared.number.Digits.TheVariants.{Number, Other}
use Rattle.figures.specs.Numbers.{digits_after}
use Rattle.figures.specs.Stamps.{then, stamp_by, stamp_in}

-- the figure of a number
abbrev pub figured : Digits → Figure
figured (Number n) = Value n
figured Other = Malformed

pub valued : (d : Digits) (n : ℕ) → figured d ≡ Value n → d ≡ Number n
valued (Number m) n h = cc
valued Other n h = let z : ◌≡◌ {A = ℕ} 0 1 = cc in absurd (omega arith)

-- where there is a number, the tests held
pub counted : (good : Bool) (m n : ℕ) → cond good (Number m) Other ≡ Number n → (good ≡ true) × (m ≡ n)
counted true m n h = (refl, cc)
counted false m n h = let z : ◌≡◌ {A = ℕ} 0 1 = cc in absurd (omega arith)

pub chosen : (good : Bool) (s : Digits) (n : ℕ) → cond good s Other ≡ Number n → (good ≡ true) × (s ≡ Number n)
chosen true s n h = (refl, h)
chosen false s n h = let z : ◌≡◌ {A = ℕ} 0 1 = cc in absurd (omega arith)

-- the stamp of two numbers, where they are such
abbrev pub stamp_from : Digits → Digits → Digits
stamp_from day time = then day λ d. then time λ t. stamp_by d t

pub no_first : (v : List ℕ) → (get_or v 0 0 ≡ code " " → ⊥) → stamp_in v ≡ Other
no_first v h = simp (ne_eqb (get_or v 0 0) (code " ") h)

pub no_second : (v : List ℕ) → (get_or v 9 0 ≡ code " " → ⊥) → stamp_in v ≡ Other
no_second v h = simp (ne_eqb (get_or v 9 0) (code " ") h, and-false)

pub first_blank : (v : List ℕ) (n : ℕ) → stamp_in v ≡ Number n → get_or v 0 0 ≡ code " "
first_blank v n h =
    let s = stamp_from (digits_after 0 (take 8 (drop 1 v))) (digits_after 0 (drop 10 v)) in
    let t = chosen (is " " (get_or v 0 0) && is " " (get_or v 9 0)) s n h in
    eqb-true (get_or v 0 0) (code " ") ((and-eq-true_iff (is " " (get_or v 0 0)) (is " " (get_or v 9 0))).0 t.0).0

pub by_blanks :
    (v : List ℕ) → get_or v 0 0 ≡ code " " → get_or v 9 0 ≡ code " " →
    stamp_in v ≡ stamp_from (digits_after 0 (take 8 (drop 1 v))) (digits_after 0 (drop 10 v))
by_blanks v h k =
    let s = stamp_from (digits_after 0 (take 8 (drop 1 v))) (digits_after 0 (drop 10 v)) in
    ap (λ (b : Bool). cond (b && is " " (get_or v 9 0)) s Other) (eq-eqb _ _ h) ∙ ap (λ (b : Bool). cond b s Other) (eq-eqb _ _ k)

-- as it is written
pub stamp_written :
    (day time : List ℕ) → length day ≡ 8 →
    stamp_in (code " " ∷ (day ++ (code " " ∷ time))) ≡ stamp_from (digits_after 0 day) (digits_after 0 time)
stamp_written day time e =
    let rest = day ++ (code " " ∷ time) in
    let nine : ◌≡◌ {A = ℕ} 9 (length day + 1) = omega arith in
    by_blanks (code " " ∷ rest) refl (get_or_at day (code " ") time 0 8 e)
    ∙ ap (λ (l : List ℕ). stamp_from (digits_after 0 l) (digits_after 0 (drop 9 rest))) (take_at day _ 8 e)
    ∙ ap (λ (l : List ℕ). stamp_from (digits_after 0 day) (digits_after 0 l))
    (ap (λ (n : ℕ). drop n rest) nine ∙ drop-append-add day (code " " ∷ time) 1)

-- What the definition says of it.

tested : (good : Bool) (n : ℕ) → cond good (Value n) Malformed ≡ figured (cond good (Number n) Other)
tested true n = refl
tested false n = refl

by_digits :
    (day time : Bool) (d t : ℕ) →
    cond (day && time && is_day d && is_time t) (Value (stamp_number d t)) Malformed
    ≡ figured (stamp_from (cond day (Number d) Other) (cond time (Number t) Other))
by_digits true true d t = tested (is_day d && is_time t) (stamp_number d t)
by_digits true false d t = refl
by_digits false time d t = refl

pub stamp_of_lem :
    (day time : List ℕ) → length day ≡ 8 → length time ≡ 4 →
    stamp_of day time ≡ figured (stamp_from (digits_after 0 day) (digits_after 0 time))
unfolding stamp_of
stamp_of_lem day time e f =
    let d = number_after 0 day in
    let t = number_after 0 time in
    let good : Bool → Bool → Bool = λ x y. (x && all_digits_of day) && (y && all_digits_of time) && is_day d && is_time t in
    let answer : Bool → Bool → Figure = λ x y. cond (good x y) (Value (stamp_number d t)) Malformed in
    ap (λ (x : Bool). answer x (eqb (length time) 4)) (eq-eqb (length day) 8 e)
    ∙ ap (answer true) (eq-eqb (length time) 4 f)
    ∙ by_digits (all_digits_of day) (all_digits_of time) d t

pub record Stamped (day time : List ℕ) : Type 0 where
  pub day_size : length day ≡ 8
  pub time_size : length time ≡ 4
  pub day_digits : all_digits_of day ≡ true
  pub time_digits : all_digits_of time ≡ true

good_stamp : (good : Bool) (m n : ℕ) → cond good (Value m) Malformed ≡ Value n → good ≡ true
good_stamp true m n h = refl
good_stamp false m n h = let z : ◌≡◌ {A = ℕ} 0 1 = cc in absurd (omega arith)

pub stamp_parts : (day time : List ℕ) (n : ℕ) → stamp_of day time ≡ Value n → Stamped day time
unfolding stamp_of
stamp_parts day time n h =
    let d = number_after 0 day in
    let t = number_after 0 time in
    let g = good_stamp (digits_of 8 day && digits_of 4 time && is_day d && is_time t) (stamp_number d t) n h in
    let p = (and-eq-true_iff (digits_of 8 day && digits_of 4 time && is_day d) (is_time t)).0 g in
    let q = (and-eq-true_iff (digits_of 8 day && digits_of 4 time) (is_day d)).0 p.0 in
    let r = (and-eq-true_iff (digits_of 8 day) (digits_of 4 time)).0 q.0 in
    let x = (and-eq-true_iff (eqb (length day) 8) (all_digits_of day)).0 r.0 in
    let y = (and-eq-true_iff (eqb (length time) 4) (all_digits_of time)).0 r.1 in
    record { day_size = eqb-true _ _ x.0; time_size = eqb-true _ _ y.0; day_digits = x.1; time_digits = y.1 }
