-- A figure without a point, as its readers test it: digits alone, as many as there may be, without a leading zero.
-- Assumes nothing.
use Rattle.std.proofs.Common.{◌≡◌, ℕ, ◌≤◌, Bool, true, false, cond, not, ◌&&◌, ◌||◌, eqb, leb, List, [], ◌∷◌, ◌++◌, length, get_or, sym, refl, ap, ◌∙◌, append-nil, add-zero, arith, le-leb, leb-true}
use mathlib.Core.Bool.{and-eq-true_iff}
use Rattle.rules.specs.declared.Form.{Form}
use Rattle.rules.specs.declared.Figure.TheVariants.{Value}
use Rattle.rules.specs.declared.Figure.TheVariants.{Malformed as NoValue}
use Rattle.rules.specs.declared.Written.TheVariants.{Number, Comma, Malformed}
use Rattle.rules.specs.Text.{is}
use Rattle.rules.specs.Figures.{is_digit, all_digits_of, number_after, has, plain, number, behind_point, is_written, in_range, written_of, asked, figure_of}
use Rattle.figures.specs.Numbers.{run, run_number, may_be_whole, no_figure, refused_as_of}
use Rattle.figures.proofs.Lists.{by_test}
use Rattle.figures.proofs.Runs.{run_append, run_number_append}
use Rattle.figures.proofs.Shapes.{Decimals, none, some, written_shape, shape_written}

-- digits alone are all at the start, and the other way round

pub all_run : (ds : List ℕ) → all_digits_of ds ≡ true → run ds ≡ length ds
all_run ds h = ap run (sym (append-nil ds)) ∙ run_append ds [] h ∙ add-zero (length ds)

pub all_number : (n : ℕ) (ds : List ℕ) → all_digits_of ds ≡ true → run_number n ds ≡ number_after n ds
all_number n ds h = ap (run_number n) (sym (append-nil ds)) ∙ run_number_append n ds [] h

pub all_digits : (u : List ℕ) → run u ≡ length u → all_digits_of u ≡ true
all_digits [] h = refl
all_digits (x ∷ u) h =
    by_test (is_digit x)
    (λ e. simp e (all_digits u (omega (arith, simp e at h))))
    (λ e. absurd (omega (arith, simp e at h)))

-- What is written so is digits alone.

pub record Whole (u : List ℕ) (n : ℕ) : Type 0 where
  pub least : 1 ≤ length u
  pub most : length u ≤ 7
  pub plain : plain u ≡ true
  pub number : number_after 0 u ≡ n

no_tail : {es t : List ℕ} → Decimals es t → length es ≡ 0 → (t ≡ []) × (es ≡ [])
no_tail none e = (refl, refl)
no_tail (some es k) e = absurd (omega (arith, k, e))

pub written_whole : (u : List ℕ) (n : ℕ) → written_of u ≡ Number n 0 → Whole u n
written_whole u n h =
    let s = written_shape u n 0 h in
    let t = no_tail s.tailed (sym s.decimals) in
    let all = s.all ∙ ap (λ (l : List ℕ). s.digits ++ l) t.0 ∙ append-nil s.digits in
    record {
      least = omega (arith, ap length all, s.least);
      most = omega (arith, ap length all, s.most);
      plain = ap plain all ∙ s.plain;
      number = ap (number_after 0) (all ∙ sym (append-nil s.digits)) ∙ ap (λ (l : List ℕ). number_after 0 (s.digits ++ l)) (sym t.1) ∙ sym s.number;
    }

pub whole_digits : {u : List ℕ} {n : ℕ} → Whole u n → all_digits_of u ≡ true
whole_digits {u} w = ((and-eq-true_iff (all_digits_of u) _).0 w.plain).0

pub whole_tested : (u : List ℕ) (n : ℕ) → Whole u n → (may_be_whole u ≡ true) × (run u ≡ length u)
whole_tested u n w =
    let first = ((and-eq-true_iff (all_digits_of u) (not (is "0" (get_or u 0 0)) || eqb (length u) 1)).0 w.plain).1 in
    (simp (le-leb 1 (length u) w.least, le-leb (length u) 7 w.most, first), all_run u (whole_digits w))

-- And such digits are written so.

pub tested_most : (u : List ℕ) → may_be_whole u ≡ true → length u ≤ 7
tested_most u may =
    let t = (and-eq-true_iff (leb 1 (length u) && leb (length u) 7) _).0 may in
    leb-true (length u) 7 ((and-eq-true_iff (leb 1 (length u)) (leb (length u) 7)).0 t.0).1

pub tested_whole : (u : List ℕ) → may_be_whole u ≡ true → run u ≡ length u → written_of u ≡ Number (run_number 0 u) 0
tested_whole u may e =
    let t = (and-eq-true_iff (leb 1 (length u) && leb (length u) 7) (not (is "0" (get_or u 0 0)) || eqb (length u) 1)).0 may in
    let r = (and-eq-true_iff (leb 1 (length u)) (leb (length u) 7)).0 t.0 in
    let digits = all_digits u e in
    let nil = append-nil u in
    shape_written u (run_number 0 u) 0
    (record {
      digits = u;
      places = [];
      tail = [];
      all = sym nil;
      tailed = none;
      least = leb-true 1 (length u) r.0;
      most = omega (arith, tested_most u may);
      plain = simp (digits, t.1);
      decimal = refl;
      number = all_number 0 u digits ∙ ap (number_after 0) (sym nil);
      decimals = refl;
    })

-- A value that is not allowed is no figure, or one without a comma.

sifted :
    (form : Form) (comma good : Bool) (m d : ℕ) → let w = cond comma Comma (cond good (Number m d) Malformed) in
    ((n : ℕ) → asked form w ≡ Value n → ⊥) → asked form w ≡ refused_as_of (cond comma Comma Malformed)
sifted form true good m d h = refl
sifted form false false m d h = refl
sifted form false true m d h = go (eqb d form.decimals && in_range form m) h
  where
    go : (b : Bool) → ((n : ℕ) → cond b (Value m) NoValue ≡ Value n → ⊥) → cond b (Value m) NoValue ≡ NoValue
    go true k = absurd (k m refl)
    go false k = refl

pub not_allowed : (form : Form) (v : List ℕ) → ((n : ℕ) → figure_of form v ≡ Value n → ⊥) → figure_of form v ≡ refused_as_of (no_figure v)
unfolding figure_of written_of
not_allowed form v h = sifted form (has "," v) (is_written v) (number v) (length (behind_point v)) h
