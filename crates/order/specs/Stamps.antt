-- The stamps of trades that were read: a hundred years of eight digits, in minutes.
-- Assumes nothing.
use Rattle.std.specs.Prelude.{ℕ, ◌/◌, ◌%◌, ◌≤◌, ◌<◌, ◌≡◌, refl, List, Bool, true, false, cond, ◌&&◌, leb}
use Rattle.std.proofs.Math.Bool.{and-eq-true_iff}
use Rattle.std.proofs.Common.{arith, leb-true}
use Rattle.rules.specs.declared.Trade.{Trade}
use Rattle.rules.specs.declared.Figure.TheVariants.{Value, Malformed}
use Rattle.rules.specs.declared.Opening.TheVariants.{Made}
use Rattle.rules.specs.Figures.{number_after}
use Rattle.rules.specs.Stamp.{days_in, is_day, is_time, stamp_number, digits_of, stamp_of}
use Rattle.rules.specs.Opening.{up_to_blank, after_blank, opening_of}
use Rattle.laws.specs.Figures.{opening_read, behind_lots}

tested : (b : Bool) (m n : ℕ) → cond b (Value m) Malformed ≡ Value n → (b ≡ true) × (m ≡ n)
tested true m n h = (refl, cc)
tested false m n h = absurd (let z : ◌≡◌ {A = ℕ} 0 1 = cc in omega arith)

both : (a b : Bool) → (a && b) ≡ true → (a ≡ true) × (b ≡ true)
both a b h = (and-eq-true_iff a b).0 h

-- days from 20,000,000 on and below 21,000,000
stamp_range : (day time : List ℕ) (n : ℕ) → stamp_of day time ≡ Value n → (28_800_000_000 ≤ n) × (n < 30_240_000_000)
unfolding stamp_of
stamp_range day time n h =
    let d = number_after 0 day in
    let t = number_after 0 time in
    let year = d / 10_000 in
    let month = d / 100 % 100 in
    let digits = digits_of 8 day && digits_of 4 time in
    let century = leb 2000 year && leb year 2099 in
    let s = tested (digits && is_day d && is_time t) (stamp_number d t) n h in
    let days = (both digits (is_day d) (both (digits && is_day d) (is_time t) s.0).0).1 in
    let one = (both (century && leb 1 month && leb month 12 && leb 1 (d % 100)) (leb (d % 100) (days_in year month)) days).0 in
    let two = (both (century && leb 1 month) (leb month 12) (both (century && leb 1 month && leb month 12) (leb 1 (d % 100)) one).0).0 in
    let (since, until) = both (leb 2000 year) (leb year 2099) (both century (leb 1 month) two).0 in
    let a = leb-true 2000 year since in
    let b = leb-true year 2099 until in
    (omega (arith, s.1), omega (arith, s.1))

pub stamp_within : (bought : Bool) (v : List ℕ) (t : Trade) (x : ℕ) → opening_of bought v ≡ Made t x → (28_800_000_000 ≤ t.stamp.0) × (t.stamp.0 < 30_240_000_000)
stamp_within bought v t x h = stamp_range (up_to_blank (behind_lots v)) (after_blank (behind_lots v)) t.stamp.0 (opening_read bought v t x h).stamp
