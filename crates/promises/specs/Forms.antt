-- Document 01's forms count the digits before a point, and the definitions count none: "price: 1 to 5 digits, a point, exactly 2 digits", and so for the
-- others. Since a figure of more than one digit does not begin with 0, its range says how many it has: both are the same.
-- Assumes nothing.
use Rattle.std.specs.Prelude.{ℕ, zero, suc, ◌+◌, ◌*◌, ◌-◌, ◌≤◌, ◌<◌, ◌≡◌, refl, Bool, true, false, not, ◌&&◌, ◌||◌, List, [], ◌∷◌, ◌++◌, length, leb, eqb}
use Prim.Native.Char.{code}
use Rattle.std.proofs.Common.{sym, ap, arith, mul-le-mul_right, length-append, leb-true, leb-false, le-leb, eqb-true}
use Rattle.std.proofs.Math.Bool.{and-eq-true_iff}
use Rattle.std.proofs.lemmas.Bool.{eqb-false}
use Rattle.rules.specs.declared.Form.{Form}
use Rattle.rules.specs.Text.{is}
use Rattle.rules.specs.Figures.{price_form, rate_form, held_form, traded_form, is_digit, all_digits_of, number_after, has, plain, whole, behind_point, number, is_written, in_range}
use Rattle.laws.specs.ByTest.{by_test}
use Rattle.promises.specs.Reasons.{is_figure}

-- "1 to 5 digits, a point, exactly 2 digits": at most so many, with no leading zero, and so many behind a point, which stands only before digits
abbrev pub formed : ℕ → ℕ → List ℕ → Bool
formed most decimals v =
    leb 1 (length (whole v)) && leb (length (whole v)) most && plain (whole v) && (not (has "." v) || leb 1 (length (behind_point v))) && all_digits_of (behind_point v)
    && eqb (length (behind_point v)) decimals

abbrev tens : ℕ → ℕ
tens zero = 1
tens (suc n) = 10 * tens n

tens_some : (n : ℕ) → 1 ≤ tens n
tens_some zero = omega arith
tens_some (suc n) = omega (arith, tens_some n)

tens_grow : (m n : ℕ) → m ≤ n → tens m ≤ tens n
tens_grow zero n h = tens_some n
tens_grow (suc m) zero h = absurd (omega arith)
tens_grow (suc m) (suc n) h = omega (arith, tens_grow m n (omega arith))

-- each digit more is at least ten times as much
at_least : (ds : List ℕ) (n : ℕ) → n * tens (length ds) ≤ number_after n ds
at_least [] n = omega arith
at_least (x ∷ ds) n = omega (arith, at_least ds (n * 10 + (x - code "0")))

both : (a b : Bool) → (a && b) ≡ true → (a ≡ true) × (b ≡ true)
both a b h = (and-eq-true_iff a b).0 h

-- digits of which the first is no 0
large : (ws bs : List ℕ) (k : ℕ) → plain ws ≡ true → 1 ≤ k → k < length ws → tens (k + length bs) ≤ number_after 0 (ws ++ bs)
large [] bs k p a h = absurd (omega arith)
large (x ∷ ws) bs k p a h =
    let parts = both (all_digits_of (x ∷ ws)) (not (is "0" x) || eqb (length (x ∷ ws)) 1) p in
    let digit = (both (leb (code "0") x) (leb x (code "9")) (both (is_digit x) (all_digits_of ws) parts.0).0).0 in
    let above : 1 ≤ x - code "0" =
    by_test (is "0" x)
    (λ e. absurd (let one : eqb (length (x ∷ ws)) 1 ≡ true = (rw e at parts).1 in omega (arith, eqb-true (length (x ∷ ws)) 1 one)))
    (λ e. omega (arith, leb-true (code "0") x digit, eqb-false)) in
    let number : (0 * 10 + (x - code "0")) * tens (length (ws ++ bs)) ≤ number_after 0 (x ∷ ws ++ bs) = at_least (ws ++ bs) (0 * 10 + (x - code "0")) in
    omega (
      arith,
      tens_grow (k + length bs) (length (ws ++ bs)) (omega (arith, length-append ws bs)),
      mul-le-mul_right (tens (length (ws ++ bs))) above,
      number,
    )

module _ (k : ℕ) (form : Form) (some : 1 ≤ k) (few : k + form.decimals ≤ 7) (most : form.most < tens (k + form.decimals)) (v : List ℕ) where
  abbrev whole_digits : ℕ
  whole_digits = length (whole v)

  abbrev dotted : Bool
  dotted = not (has "." v) || leb 1 (length (behind_point v))

  abbrev decimals : Bool
  decimals = eqb (length (behind_point v)) form.decimals

  -- the digits before a point are no more than the range allows
  at_most : plain (whole v) ≡ true → length (behind_point v) ≡ form.decimals → number v ≤ form.most → whole_digits ≤ k
  at_most p d n =
      by_test (leb whole_digits k)
      (λ e. leb-true whole_digits k e)
      (λ e. absurd (let l = large (whole v) (behind_point v) k p some (leb-false whole_digits k e) in let same = ap (λ (x : ℕ). tens (k + x)) d in omega arith))

  there : is_figure form v ≡ true → (formed k form.decimals v && in_range form (number v)) ≡ true
  there h =
      let seven = leb (whole_digits + length (behind_point v)) 7 in
      let first = leb 1 whole_digits && plain (whole v) in
      let (others, range) = both (is_written v && decimals) (in_range form (number v)) h in
      let (written, exactly) = both (is_written v) decimals others in
      let (short, l) = both (first && dotted && all_digits_of (behind_point v)) seven written in
      let (point, digits) = both (first && dotted) (all_digits_of (behind_point v)) short in
      let (front, dot) = both first dotted point in
      let (one, no_zero) = both (leb 1 whole_digits) (plain (whole v)) front in
      let (least, largest) = both (leb form.least (number v)) (leb (number v) form.most) range in
      let n : whole_digits ≤ k = at_most no_zero (eqb-true _ form.decimals exactly) (leb-true (number v) form.most largest) in
      rw (one, le-leb whole_digits k n, no_zero, dot, digits, exactly, least, largest) refl

  back : (formed k form.decimals v && in_range form (number v)) ≡ true → is_figure form v ≡ true
  back h =
      let first = leb 1 whole_digits && leb whole_digits k in
      let (formed, range) = both (formed k form.decimals v) (in_range form (number v)) h in
      let (short, exactly) = both (first && plain (whole v) && dotted && all_digits_of (behind_point v)) decimals formed in
      let (point, digits) = both (first && plain (whole v) && dotted) (all_digits_of (behind_point v)) short in
      let (front, dot) = both (first && plain (whole v)) dotted point in
      let (count, no_zero) = both first (plain (whole v)) front in
      let (one, n) = both (leb 1 whole_digits) (leb whole_digits k) count in
      let seven : whole_digits + length (behind_point v) ≤ 7 = omega (arith, leb-true whole_digits k n, eqb-true (length (behind_point v)) form.decimals exactly) in
      rw (one, no_zero, dot, digits, le-leb _ 7 seven, exactly, range) refl

  same_tests : (a b : Bool) → (a ≡ true → b ≡ true) → (b ≡ true → a ≡ true) → a ≡ b
  same_tests true b f g = sym (f refl)
  same_tests false true f g = g refl
  same_tests false false f g = refl

  pub as_written : is_figure form v ≡ (formed k form.decimals v && in_range form (number v))
  as_written = same_tests _ _ there back

-- the table of document 01, and request [3]'s price in yuan: "a whole figure from 1 to 9,999,999 without a leading zero"
pub record Forms (v : List ℕ) : Type 0 where
  pub price : is_figure (price_form 2) v ≡ (formed 5 2 v && in_range (price_form 2) (number v))
  pub yuan : is_figure (price_form 0) v ≡ (formed 7 0 v && in_range (price_form 0) (number v))
  pub rate : is_figure rate_form v ≡ (formed 2 3 v && in_range rate_form (number v))
  pub held : is_figure held_form v ≡ (formed 7 0 v && in_range held_form (number v))
  pub traded : is_figure traded_form v ≡ (formed 7 0 v && in_range traded_form (number v))

pub forms : (v : List ℕ) → Forms v
forms v =
    record {
      price = as_written 5 (price_form 2) (omega arith) (omega arith) (omega arith) v;
      yuan = as_written 7 (price_form 0) (omega arith) (omega arith) (omega arith) v;
      rate = as_written 2 rate_form (omega arith) (omega arith) (omega arith) v;
      held = as_written 7 held_form (omega arith) (omega arith) (omega arith) v;
      traded = as_written 7 traded_form (omega arith) (omega arith) (omega arith) v;
    }
