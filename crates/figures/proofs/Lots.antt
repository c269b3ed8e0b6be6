-- The lots of a trade, as their reader tests them: digits alone, the first of them not 0, and the largest number.
-- Assumes nothing.
use Rattle.std.proofs.Common.{◌≡◌, ℕ, zero, suc, ◌+◌, ◌-◌, ◌*◌, ◌^◌, ◌≤◌, true, not, ◌||◌, eqb, leb, List, [], ◌∷◌, ◌++◌, length, get_or, sym, refl, ap, ◌∙◌, add-zero, pow-suc, arith, eq-eqb, ne_eqb, eqb-true, le-leb, leb-false, leb-true}
use Prim.Native.Char.{code}
use mathlib.Core.Bool.{and-eq-true_iff}
use borrow.Author.Tests.{eqb-false}
use Rattle.figures.proofs.Lists.{by_test}
use Rattle.rules.specs.declared.Figure.{Figure}
use Rattle.rules.specs.declared.Figure.TheVariants.{Value, Comma, Malformed}
use Rattle.rules.specs.declared.Written.TheVariants.{Number}
use Rattle.rules.specs.Text.{is}
use Rattle.rules.specs.Figures.{is_digit, all_digits_of, number_after, plain, traded_form, written_of, asked, figure_of}
use Rattle.laws.specs.Figures.{figure_read}
use Rattle.figures.specs.declared.number.Digits.TheVariants.{Other}
use Rattle.figures.specs.declared.number.Digits.TheVariants.{Number as Lots}
use Rattle.figures.specs.Numbers.{run, run_number, may_be_whole}
use Rattle.figures.specs.Pairs.{lots_of}
use Rattle.figures.proofs.Runs.{run_append, run_number_append}
use Rattle.figures.proofs.Wholes.{all_run, all_number, all_digits, written_whole, whole_digits, tested_whole}
use Rattle.figures.proofs.Sizes.{at_most}
use Rattle.figures.proofs.Twos.{digit}

pub record LotsRead (u : List ℕ) (n : ℕ) : Type 0 where
  pub some : 1 ≤ length u
  pub first : get_or u 0 0 ≡ code "0" → ⊥
  pub digits : run u ≡ length u
  pub number : run_number 0 u ≡ n
  pub most : n ≤ 1_000_000

-- a number above 0 does not begin with 0
first_told : (ds : List ℕ) → plain ds ≡ true → 1 ≤ length ds → 1 ≤ number_after 0 ds → get_or ds 0 0 ≡ code "0" → ⊥
first_told [] p h k e = absurd (omega (arith, h))
first_told (x ∷ []) p h k e = absurd (omega (arith, k, e))
first_told (x ∷ y ∷ ds) p h k e =
    let q = ((and-eq-true_iff (all_digits_of (x ∷ y ∷ ds)) (not (is "0" x) || eqb (length (x ∷ y ∷ ds)) 1)).0 p).1 in
    let one = eqb-true (length (x ∷ y ∷ ds)) 1 (simp (eq-eqb x (code "0") e) at q) in
    absurd (omega (arith, one))

-- lots that were read are digits
pub lots_read : (u : List ℕ) (n : ℕ) → figure_of traded_form u ≡ Value n → LotsRead u n
lots_read u n h =
    let f = figure_read traded_form u n h in
    let w = written_whole u n f.written in
    let digits = whole_digits w in
    record {
      some = w.least;
      first = first_told u w.plain w.least (omega (arith, w.number, f.least));
      digits = all_run u digits;
      number = all_number 0 u digits ∙ w.number;
      most = f.most;
    }

-- and such digits are read

-- so many digits, of which the first is not 0, write no less
one_more : (n d k p m : ℕ) → p ≡ k * 10 → (n * 10 + d) * k ≤ m → n * p ≤ m
one_more n d k p m e h = omega (arith, ap (λ (q : ℕ). n * q) e, h)

more : (n : ℕ) (ds : List ℕ) → n * 10 ^ length ds ≤ number_after n ds
more n [] = omega arith
more n (x ∷ ds) = one_more n (x - code "0") (10 ^ length ds) _ _ (pow-suc 10 (length ds)) (more (n * 10 + (x - code "0")) ds)

times : (a k : ℕ) → 1 ≤ a → k ≤ a * k
times zero k h = absurd (omega arith)
times (suc a) k h = omega arith

bounds :
    (u : List ℕ) → all_digits_of u ≡ true → 1 ≤ length u → (get_or u 0 0 ≡ code "0" → ⊥) → number_after 0 u ≤ 1_000_000 →
    (1 ≤ number_after 0 u) × (length u ≤ 7)
bounds [] h one first most = absurd (omega (arith, one))
bounds (x ∷ ds) h one first most =
    let d = digit x ((and-eq-true_iff (is_digit x) (all_digits_of ds)).0 h).0 in
    let tens : 1 ≤ 0 * 10 + (x - code "0") = by_test (eqb x (code "0")) (λ t. absurd (first (eqb-true _ _ t))) (λ t. omega (arith, d.0, eqb-false x (code "0") t)) in
    let least = times (0 * 10 + (x - code "0")) (10 ^ length ds) tens in
    let all : (0 * 10 + (x - code "0")) * 10 ^ length ds ≤ number_after 0 (x ∷ ds) = more (0 * 10 + (x - code "0")) ds in
    let size : 1 ≤ 10 ^ length ds = at_most (length ds) 0 (omega arith) in (
      omega (arith, size, least, all),
      by_test (leb (length ds) 6)
          (λ t. omega (arith, leb-true (length ds) 6 t))
          (λ t. absurd (omega (arith, at_most (length ds) 7 (omega (arith, leb-false (length ds) 6 t)), least, all, most))),
    )

in_form : (u : List ℕ) (n : ℕ) → written_of u ≡ Number n 0 → 1 ≤ n → n ≤ 1_000_000 → figure_of traded_form u ≡ Value n
unfolding figure_of
in_form u n w h k = ap (asked traded_form) w ∙ simp (le-leb 1 n h, le-leb n 1_000_000 k)

pub read_lots : (u : List ℕ) (n : ℕ) → LotsRead u n → figure_of traded_form u ≡ Value n
read_lots u n r =
    let digits = all_digits u r.digits in
    let number = sym r.number ∙ all_number 0 u digits in
    let b = bounds u digits r.some r.first (omega (arith, number, r.most)) in
    let may : may_be_whole u ≡ true = simp (le-leb 1 (length u) r.some, le-leb (length u) 7 b.1, ne_eqb (get_or u 0 0) (code "0") r.first) in
    in_form u n
    (tested_whole u may r.digits ∙ ap (λ (m : ℕ). Number m 0) r.number)
    (omega (arith, number, b.0))
    r.most

-- before a blank they are the digits at the start
pub lots_inside : (u w : List ℕ) (n : ℕ) → LotsRead u n → let l = u ++ (code " " ∷ w) in (run l ≡ length u) × (run_number 0 l ≡ n)
lots_inside u w n r =
    let ds = all_digits u r.digits in
    (run_append u (code " " ∷ w) ds ∙ add-zero (length u), run_number_append 0 u (code " " ∷ w) ds ∙ sym (all_number 0 u ds) ∙ r.number)

-- What the reader answers.

pub no_lots : (f : Figure) → ((n : ℕ) → f ≡ Value n → ⊥) → lots_of f ≡ Other
no_lots (Value n) h = absurd (h n refl)
no_lots Comma h = refl
no_lots Malformed h = refl

pub lots_told : (f : Figure) (n : ℕ) → lots_of f ≡ Lots n → f ≡ Value n
lots_told (Value m) n h = cc
lots_told Comma n h = let z : ◌≡◌ {A = ℕ} 0 1 = cc in absurd (omega arith)
lots_told Malformed n h = let z : ◌≡◌ {A = ℕ} 0 1 = cc in absurd (omega arith)
