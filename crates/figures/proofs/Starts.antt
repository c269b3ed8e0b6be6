-- The figure at the start of bytes, by their runs of digits: what is read there has the shape of a figure, and what has it is read, where the
-- bytes end after it or go on with a blank.
-- Assumes nothing.
use Rattle.std.proofs.Common.{◌≡◌, ℕ, ◌+◌, ◌≤◌, Bool, true, false, cond, not, ◌&&◌, ◌||◌, eqb, leb, List, [], ◌∷◌, ◌++◌, length, get_or, take, drop, sym, refl, ap, ◌∙◌, subst, ap₂, append_assoc, append-nil, add-zero, arith, length-append, take_at, drop_at, eqb-true, le-leb, leb-true}
use Prim.Native.Char.{code}
use mathlib.Core.Bool.{and-eq-true_iff}
use Rattle.rules.specs.Text.{is}
use Rattle.rules.specs.Figures.{all_digits_of, number_after, plain}
use Rattle.figures.specs.declared.start.Start.{Start}
use Rattle.figures.specs.declared.start.Start.TheVariants.{Ends}
use Rattle.figures.specs.declared.start.Start.TheVariants.{Other as NoStart}
use Rattle.figures.specs.Numbers.{run, run_number, may_be_whole}
use Rattle.figures.specs.Starts.{pointed, behind, start_of}
use Rattle.figures.proofs.Lists.{by_test}
use Rattle.figures.proofs.Runs.{run_append, run_number_append, run_none, split}
use Rattle.figures.proofs.Shapes.{Decimals, none, some, Shape}

-- what stands after a figure: nothing, or a blank
pub data Closed : List ℕ → Type 0 where
  end : Closed []
  blank : (a : List ℕ) → Closed (code " " ∷ a)

closed_run : {w : List ℕ} → Closed w → run w ≡ 0
closed_run end = refl
closed_run (blank a) = refl

closed_behind : (i n : ℕ) {w : List ℕ} → Closed w → behind i n w ≡ Ends n 0 i
closed_behind i n end = refl
closed_behind i n (blank a) = refl

-- digits, and after them no digit
run_here : (ds w : List ℕ) → all_digits_of ds ≡ true → run w ≡ 0 → run (ds ++ w) ≡ length ds
run_here ds w h e = run_append ds w h ∙ ap (λ (k : ℕ). length ds + k) e ∙ add-zero (length ds)

number_here : (n : ℕ) (ds w : List ℕ) → all_digits_of ds ≡ true → run w ≡ 0 → run_number n (ds ++ w) ≡ number_after n ds
number_here n ds w h e = run_number_append n ds w h ∙ run_none (number_after n ds) w e

start_here :
    (ds w : List ℕ) → all_digits_of ds ≡ true → run w ≡ 0 →
    start_of (ds ++ w) ≡ cond (may_be_whole ds) (behind (length ds) (number_after 0 ds) w) NoStart
start_here ds w h e =
    let v = ds ++ w in
    let answer : ℕ → ℕ → Start = λ i n. cond (may_be_whole (take i v)) (behind i n (drop i v)) NoStart in
    ap₂ answer (run_here ds w h e) (number_here 0 ds w h e)
    ∙ ap₂ (λ (a b : List ℕ). cond (may_be_whole a) (behind (length ds) (number_after 0 ds) b) NoStart) (take_at ds w (length ds) refl) (drop_at ds w (length ds) refl)

pub behind_here :
    (i n : ℕ) (es w : List ℕ) → all_digits_of es ≡ true → run w ≡ 0 → behind i n (code "." ∷ (es ++ w)) ≡ pointed i (length es) (number_after n es)
behind_here i n es w h e = ap₂ (pointed i) (run_here es w h e) (number_here n es w h e)

-- the tests before the point
sorted : (a b d z : Bool) → a ≡ true → b ≡ true → (d && z) ≡ true → (a && b && z) ≡ true
sorted a b d z h k l = simp (h, k, ((and-eq-true_iff d z).0 l).1)

plain_whole : (ds : List ℕ) → 1 ≤ length ds → length ds ≤ 7 → plain ds ≡ true → may_be_whole ds ≡ true
plain_whole ds h k p = sorted (leb 1 (length ds)) (leb (length ds) 7) (all_digits_of ds) _ (le-leb 1 (length ds) h) (le-leb (length ds) 7 k) p

whole_plain : (ds : List ℕ) → all_digits_of ds ≡ true → may_be_whole ds ≡ true → (1 ≤ length ds) × (length ds ≤ 7) × (plain ds ≡ true)
whole_plain ds h m =
    let zero = not (is "0" (get_or ds 0 0)) || eqb (length ds) 1 in
    let p = (and-eq-true_iff (leb 1 (length ds) && leb (length ds) 7) zero).0 m in
    let q = (and-eq-true_iff (leb 1 (length ds)) (leb (length ds) 7)).0 p.0 in
    (leb-true 1 (length ds) q.0, leb-true (length ds) 7 q.1, simp (h, p.1))

-- What has the shape is read.

number_append : (n : ℕ) (a b : List ℕ) → number_after n (a ++ b) ≡ number_after (number_after n a) b
number_append n [] b = refl
number_append n (x ∷ a) b = number_append (number_after n (x ∷ [])) a b

parts_start :
    (ds w : List ℕ) {es t : List ℕ} → Decimals es t → Closed w → 1 ≤ length ds → plain ds ≡ true → all_digits_of es ≡ true → length ds + length es ≤ 7 →
    start_of (ds ++ (t ++ w)) ≡ Ends (number_after 0 (ds ++ es)) (length es) (length (ds ++ t))
parts_start ds w none c least p h few =
    start_here ds w ((and-eq-true_iff (all_digits_of ds) _).0 p).0 (closed_run c)
    ∙ simp (plain_whole ds least (omega (arith, few)) p, append-nil ds) (closed_behind (length ds) (number_after 0 ds) c)
parts_start ds w (some es k) c least p h few =
    let i = length ds in
    start_here ds (code "." ∷ (es ++ w)) ((and-eq-true_iff (all_digits_of ds) _).0 p).0 refl
    ∙ ap (λ (b : Bool). cond b (behind i (number_after 0 ds) (code "." ∷ (es ++ w))) NoStart) (plain_whole ds least (omega (arith, few)) p)
    ∙ behind_here i (number_after 0 ds) es w h (closed_run c)
    ∙ simp (le-leb 1 (length es) k, le-leb (i + length es) 7 few, number_append 0 ds es)
    (ap (λ (e : ℕ). Ends (number_after (number_after 0 ds) es) (length es) e) (omega (arith, length-append ds (code "." ∷ es))))

pub shape_start : (u w : List ℕ) (n d : ℕ) → Shape u n d → Closed w → start_of (u ++ w) ≡ Ends n d (length u)
shape_start u w n d s c =
    ap (λ (l : List ℕ). start_of (l ++ w)) s.all
    ∙ ap start_of (append_assoc s.digits s.tail w)
    ∙ parts_start s.digits w s.tailed c s.least s.plain s.decimal s.most
    ∙ ap₂ (λ (x y : ℕ). Ends x y (length (s.digits ++ s.tail))) (sym s.number) (sym s.decimals)
    ∙ ap (λ (l : List ℕ). Ends n d (length l)) (sym s.all)

-- And what is read has the shape.

pub record Started (v : List ℕ) (n d e : ℕ) : Type 0 where
  pub figure : List ℕ
  pub rest : List ℕ
  pub all : v ≡ figure ++ rest
  pub size : length figure ≡ e
  pub shape : Shape figure n d

pub chosen : (good : Bool) (s : Start) (n d e : ℕ) → cond good s NoStart ≡ Ends n d e → (good ≡ true) × (s ≡ Ends n d e)
chosen true s n d e h = (refl, h)
chosen false s n d e h = let z : ◌≡◌ {A = ℕ} 0 1 = cc in absurd (omega arith)

same : (a b c n d e : ℕ) → Ends a b c ≡ Ends n d e → (a ≡ n) × (b ≡ d) × (c ≡ e)
same a b c n d e h = (cc, cc, cc)

whole_read : (ds w : List ℕ) (n d e : ℕ) → all_digits_of ds ≡ true → may_be_whole ds ≡ true → Ends (number_after 0 ds) 0 (length ds) ≡ Ends n d e → Started (ds ++ w) n d e
whole_read ds w n d e h m k =
    let p = whole_plain ds h m in
    let q = same _ _ _ n d e k in
    let nil = append-nil ds in
    record {
      figure = ds;
      rest = w;
      all = refl;
      size = q.2;
      shape = record {
        digits = ds;
        places = [];
        tail = [];
        all = sym nil;
        tailed = none;
        least = p.0;
        most = omega (arith, p.1);
        plain = p.2;
        decimal = refl;
        number = sym q.0 ∙ ap (number_after 0) (sym nil);
        decimals = sym q.1;
      };
    }

pointed_read :
    (ds es w : List ℕ) (n d e : ℕ) → all_digits_of ds ≡ true → may_be_whole ds ≡ true → all_digits_of es ≡ true →
    pointed (length ds) (length es) (number_after (number_after 0 ds) es) ≡ Ends n d e → Started (ds ++ (code "." ∷ (es ++ w))) n d e
pointed_read ds es w n d e h m k l =
    let p = whole_plain ds h m in
    let c = chosen (leb 1 (length es) && leb (length ds + length es) 7) _ n d e l in
    let t = (and-eq-true_iff (leb 1 (length es)) (leb (length ds + length es) 7)).0 c.0 in
    let q = same _ _ _ n d e c.1 in
    record {
      figure = ds ++ (code "." ∷ es);
      rest = w;
      all = sym (append_assoc ds (code "." ∷ es) w);
      size = length-append ds (code "." ∷ es) ∙ omega (arith, q.2);
      shape = record {
        digits = ds;
        places = es;
        tail = code "." ∷ es;
        all = refl;
        tailed = some es (leb-true 1 (length es) t.0);
        least = p.0;
        most = leb-true (length ds + length es) 7 t.1;
        plain = p.2;
        decimal = k;
        number = sym q.0 ∙ sym (number_append 0 ds es);
        decimals = sym q.1;
      };
    }

-- what follows the digits ds
after_digits :
    (ds w : List ℕ) (n d e : ℕ) → all_digits_of ds ≡ true → may_be_whole ds ≡ true → behind (length ds) (number_after 0 ds) w ≡ Ends n d e → Started (ds ++ w) n d e
after_digits ds [] n d e h m k = whole_read ds [] n d e h m k
after_digits ds (x ∷ w) n d e h m k =
    by_test (is "." x)
    (λ t.
    let s = split w in
    let i = length ds in
    let all : x ∷ w ≡ code "." ∷ (s.digits ++ s.rest) = ap₂ (λ (y : ℕ) (l : List ℕ). y ∷ l) (eqb-true x (code ".") t) s.all in
    let read = sym (behind_here i (number_after 0 ds) s.digits s.rest s.digit s.ends) ∙ ap (behind i (number_after 0 ds)) (sym all) ∙ k in
    subst (λ (l : List ℕ). Started (ds ++ l) n d e) (sym all) (pointed_read ds s.digits s.rest n d e h m s.digit read))
    (λ t. whole_read ds (x ∷ w) n d e h m (simp t at k))

pub start_read : (v : List ℕ) (n d e : ℕ) → start_of v ≡ Ends n d e → Started v n d e
start_read v n d e h =
    let s = split v in
    let read = sym (start_here s.digits s.rest s.digit s.ends) ∙ ap start_of (sym s.all) ∙ h in
    let c = chosen (may_be_whole s.digits) _ n d e read in
    subst (λ (l : List ℕ). Started l n d e) (sym s.all) (after_digits s.digits s.rest n d e s.digit c.0 c.1)
