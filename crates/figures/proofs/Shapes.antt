-- The shape of a figure: digits, and a point and digits or nothing. Definition `written_of` reads what has this shape, and nothing else.
-- Assumes nothing.
use Rattle.std.proofs.Common.{◌≡◌, ℕ, ◌+◌, ◌<◌, ◌≤◌, Bool, true, false, cond, not, ◌&&◌, ◌||◌, leb, List, [], ◌∷◌, ◌++◌, length, sym, refl, ap, ◌∙◌, ap₂, append-nil, arith, lit<, ne_eqb, eqb-true, le-leb, leb-true}
use Prim.Native.Char.{Char, code}
use mathlib.Core.Bool.{false≢true, and-eq-true_iff, or_assoc}
use Rattle.rules.specs.declared.Written.TheVariants.{Number, Comma, Malformed}
use Rattle.rules.specs.Text.{is}
use Rattle.rules.specs.Figures.{is_digit, all_digits_of, number_after, has, plain, up_to, after, whole, behind_point, number, is_written, written_of}
use Rattle.figures.proofs.Lists.{by_test}

-- the decimals, and the bytes that write them
pub data Decimals : List ℕ → List ℕ → Type 0 where
  none : Decimals [] []
  some : (es : List ℕ) → 1 ≤ length es → Decimals es (code "." ∷ es)

pub record Shape (u : List ℕ) (n d : ℕ) : Type 0 where
  pub digits : List ℕ
  pub places : List ℕ
  pub tail : List ℕ
  pub all : u ≡ digits ++ tail
  pub tailed : Decimals places tail
  pub least : 1 ≤ length digits
  pub most : length digits + length places ≤ 7
  pub plain : plain digits ≡ true
  pub decimal : all_digits_of places ≡ true
  pub number : n ≡ number_after 0 (digits ++ places)
  pub decimals : d ≡ length places

-- What digits have not.

pub has_append : (c : Char) (a b : List ℕ) → has c (a ++ b) ≡ (has c a || has c b)
has_append c [] b = refl
has_append c (x ∷ a) b = simp (has_append c a b, or_assoc)

-- c stands before the digits in the code
pub digits_have_none : (c : Char) (ds : List ℕ) → code c < code "0" → all_digits_of ds ≡ true → has c ds ≡ false
digits_have_none c [] l h = refl
digits_have_none c (x ∷ ds) l h =
    let p = (and-eq-true_iff (is_digit x) (all_digits_of ds)).0 h in
    let q = (and-eq-true_iff (leb (code "0") x) (leb x (code "9"))).0 p.0 in
    simp (ne_eqb x (code c) (λ e. omega (arith, leb-true)), digits_have_none c ds l p.1)

plain_digits : (ds : List ℕ) → plain ds ≡ true → all_digits_of ds ≡ true
plain_digits ds h = ((and-eq-true_iff (all_digits_of ds) _).0 h).0

tail_has_none : (c : Char) {es t : List ℕ} → Decimals es t → code c < code "." → all_digits_of es ≡ true → has c t ≡ false
tail_has_none c none l h = refl
tail_has_none c (some es k) l h = simp (ne_eqb (code ".") (code c) (λ e. omega arith), digits_have_none c es (omega arith) h)

-- no comma, and no blank
pub shape_has_none : (c : Char) (u : List ℕ) (n d : ℕ) → code c < code "." → Shape u n d → has c u ≡ false
shape_has_none c u n d l s =
    ap (has c) s.all
    ∙ simp (has_append, digits_have_none c s.digits (omega arith) (plain_digits s.digits s.plain), tail_has_none c s.tailed l s.decimal)

-- What has the shape is read.

-- the two sides of a point, in bytes that are parted so
parts_read :
    (u ds es : List ℕ) (point : Bool) → up_to "." u ≡ ds → after "." u ≡ es → has "." u ≡ point → has "," u ≡ false →
    1 ≤ length ds → length ds + length es ≤ 7 → plain ds ≡ true → all_digits_of es ≡ true → (not point || leb 1 (length es)) ≡ true →
    written_of u ≡ Number (number_after 0 (ds ++ es)) (length es)
unfolding written_of
parts_read u ds es point a b p c least most k l m =
    simp (c, a, b, p, le-leb 1 (length ds) least, le-leb (length ds + length es) 7 most, k, l, m)

up_to_end : (ds : List ℕ) → has "." ds ≡ false → (up_to "." ds ≡ ds) × (after "." ds ≡ [])
up_to_end [] h = (refl, refl)
up_to_end (x ∷ ds) h =
    by_test (is "." x)
    (λ e. absurd (false≢true (sym (simp e at h))))
    (λ e. let r = up_to_end ds (simp e at h) in (simp e (ap (λ (l : List ℕ). x ∷ l) r.0), simp e r.1))

up_to_point : (ds es : List ℕ) → has "." ds ≡ false → (up_to "." (ds ++ (code "." ∷ es)) ≡ ds) × (after "." (ds ++ (code "." ∷ es)) ≡ es)
up_to_point [] es h = (refl, refl)
up_to_point (x ∷ ds) es h =
    by_test (is "." x)
    (λ e. absurd (false≢true (sym (simp e at h))))
    (λ e. let r = up_to_point ds es (simp e at h) in (simp e (ap (λ (l : List ℕ). x ∷ l) r.0), simp e r.1))

pub shape_written : (u : List ℕ) (n d : ℕ) → Shape u n d → written_of u ≡ Number n d
shape_written u n d s = ap written_of s.all ∙ go s.tailed s.most s.decimal (ap (has ",") (sym s.all) ∙ shape_has_none "," u n d (lit< tt) s) ∙ ap₂ Number (sym s.number) (sym s.decimals)
  where
    no_point : has "." s.digits ≡ false
    no_point = digits_have_none "." s.digits (lit< tt) (plain_digits s.digits s.plain)

    go : {es t : List ℕ} → Decimals es t → length s.digits + length es ≤ 7 → all_digits_of es ≡ true → has "," (s.digits ++ t) ≡ false →
        written_of (s.digits ++ t) ≡ Number (number_after 0 (s.digits ++ es)) (length es)
    go none few h c =
        let r = up_to_end s.digits no_point in
        let e = append-nil s.digits in
        ap written_of e ∙ parts_read s.digits s.digits [] false r.0 r.1 no_point (ap (has ",") (sym e) ∙ c) s.least few s.plain h refl
    go (some es k) few h c =
        let r = up_to_point s.digits es no_point in
        parts_read (s.digits ++ (code "." ∷ es)) s.digits es true r.0 r.1 (has_append "." s.digits (code "." ∷ es) ∙ simp no_point) c s.least few s.plain h (le-leb 1 (length es) k)

-- And what is read has the shape.

point_inside : (u : List ℕ) → has "." u ≡ true → u ≡ up_to "." u ++ (code "." ∷ after "." u)
point_inside [] h = absurd (false≢true h)
point_inside (x ∷ u) h =
    by_test (is "." x)
    (λ e. simp e (ap (λ (y : ℕ). y ∷ u) (eqb-true x (code ".") e)))
    (λ e. simp e (ap (λ (l : List ℕ). x ∷ l) (point_inside u (simp e at h))))

told :
    (comma good : Bool) (m k n d : ℕ) → cond comma Comma (cond good (Number m k) Malformed) ≡ Number n d →
    (good ≡ true) × (m ≡ n) × (k ≡ d)
told false true m k n d h = (refl, cc, cc)
told false false m k n d h = let z : ◌≡◌ {A = ℕ} 0 1 = cc in absurd (omega arith)
told true good m k n d h = let z : ◌≡◌ {A = ℕ} 0 1 = cc in absurd (omega arith)

record Tested (u : List ℕ) (n d : ℕ) : Type 0 where
  least : 1 ≤ length (whole u)
  most : length (whole u) + length (behind_point u) ≤ 7
  plain : plain (whole u) ≡ true
  pointed : (not (has "." u) || leb 1 (length (behind_point u))) ≡ true
  decimal : all_digits_of (behind_point u) ≡ true
  number : number u ≡ n
  decimals : length (behind_point u) ≡ d

tested : (u : List ℕ) (n d : ℕ) → written_of u ≡ Number n d → Tested u n d
unfolding written_of
tested u n d h =
    let w = whole u in
    let b = behind_point u in
    let t = told (has "," u) (is_written u) (number u) (length b) n d h in
    let some = not (has "." u) || leb 1 (length b) in
    let p = (and-eq-true_iff (leb 1 (length w) && plain w && some && all_digits_of b) (leb (length w + length b) 7)).0 t.0 in
    let q = (and-eq-true_iff (leb 1 (length w) && plain w && some) (all_digits_of b)).0 p.0 in
    let r = (and-eq-true_iff (leb 1 (length w) && plain w) some).0 q.0 in
    let s = (and-eq-true_iff (leb 1 (length w)) (plain w)).0 r.0 in
    record {
      least = leb-true 1 (length w) s.0;
      most = leb-true (length w + length b) 7 p.1;
      plain = s.1;
      pointed = r.1;
      decimal = q.1;
      number = t.1;
      decimals = t.2;
    }

pub written_shape : (u : List ℕ) (n d : ℕ) → written_of u ≡ Number n d → Shape u n d
written_shape u n d h =
    by_test (has "." u)
    (λ e. made (some (after "." u) (leb-true 1 _ (ap (λ (b : Bool). not b || leb 1 (length (after "." u))) (sym e) ∙ t.pointed))) refl (point_inside u e))
    (λ e. let r = up_to_end u e in made none r.1 (sym (append-nil (up_to "." u) ∙ r.0)))
  where
    t : Tested u n d
    t = tested u n d h

    made : {es tail : List ℕ} → Decimals es tail → after "." u ≡ es → u ≡ up_to "." u ++ tail → Shape u n d
    made {es} {tail} k e all =
        record {
          digits = up_to "." u;
          places = es;
          tail = tail;
          all = all;
          tailed = k;
          least = t.least;
          most = omega (arith, t.most, ap length e);
          plain = t.plain;
          decimal = ap all_digits_of (sym e) ∙ t.decimal;
          number = sym t.number ∙ ap (λ (l : List ℕ). number_after 0 (up_to "." u ++ l)) e;
          decimals = sym t.decimals ∙ ap length e;
        }

pub written_has_none : (c : Char) (u : List ℕ) (n d : ℕ) → code c < code "." → written_of u ≡ Number n d → has c u ≡ false
written_has_none c u n d l h = shape_has_none c u n d l (written_shape u n d h)
