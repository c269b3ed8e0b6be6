-- A line is 33, or of its form: then its numbers are those of its figures, none is larger than its digits write, and it has few bytes.
-- Assumes nothing.
use Rattle.std.specs.Prelude.{ℕ, suc, ◌+◌, ◌≤◌, ◌<◌, ◌^◌, ◌≡◌, refl, Bool, true, false, cond, not, ◌&&◌, ◌||◌, List, [], ◌∷◌, leb, eqb, length, get_or, drop, Option, Some, None, Result, Ok, Err}
use Rattle.std.proofs.Common.{sym, ap, ◌∙◌, arith, zero-add, leb-true, eqb-true, lit<}
use Rattle.std.proofs.lemmas.Bool.{false≢true}
use Rattle.std.proofs.Math.Bool.{and-eq-true_iff}
use Rattle.std.proofs.Math.Nat.{pow-le-pow_right}
use Rattle.rules.specs.declared.Rate.{Rate}
use Rattle.rules.specs.declared.Form.{Form}
use Rattle.rules.specs.declared.Figure.{Figure}
use Rattle.rules.specs.declared.Figure.TheVariants.{Value, Comma, Malformed}
use Rattle.rules.specs.Text.{is, bytes}
use Rattle.rules.specs.Codes.{same}
use Rattle.rules.specs.Figures.{rate, rate_form, plain, all_digits_of, number_after, up_to, after, figure_of}
use Rattle.laws.specs.ByTest.{by_test}
use Rattle.laws.specs.Figures.{figure_read}
use Rattle.figures.proofs.Figures.{written_size}
use Rattle.figures.proofs.Sizes.{below}
use Rattle.days.specs.declared.Day.{Day}
use Rattle.days.specs.declared.NextDay.{NextDay}
use Rattle.days.specs.declared.refusal.ListRule.{ListRule}
use Rattle.days.specs.declared.refusal.ListRule.TheVariants.{NoDay}
use Rattle.days.specs.Lines.{Line, Whole, Cut, lines_of}
use Rattle.days.specs.Day.{settlement_form, is_interest, interest_of, marks, is_mark, judged_day, limit_of, tail_of, long_of, short_of, behind_price, day_of}
use Rattle.days.specs.Places.{found_at, next_in, next_of, then_of, days_in, days_at}

-- a line of its form has no more bytes, its line feed aside
abbrev pub widest : Bool → ℕ
widest long = cond long 30 19

pub data Formed (long : Bool) (v : List ℕ) : Type 0 where
  bad : day_of long v ≡ Err NoDay → Formed long v
  formed : (p q x : ℕ) (limit : Option Rate) → day_of long v ≡ judged_day p q x limit → p ≤ 9_999_999 → q ≤ 9_999_999_999 → length v ≤ widest long → Formed long v

-- up to a byte, and after it
halves : (v : List ℕ) → length v ≤ length (up_to " " v) + 1 + length (after " " v)
halves [] = omega arith
halves (x ∷ v) = by_test (is " " x) (λ e. simp e (omega arith)) (λ e. simp e (omega (arith, halves v)))

figure_size : (form : Form) (v : List ℕ) (n : ℕ) → figure_of form v ≡ Value n → (length v ≤ 8) × (n ≤ form.most)
figure_size form v n e = let f = figure_read form v n e in ((written_size v n form.decimals f.written).0, f.most)

interest_size : (v : List ℕ) (n : ℕ) → interest_of v ≡ Value n → (length v ≤ 10) × (n ≤ 9_999_999_999)
unfolding interest_of
interest_size v n = by_test (is_interest v)
    (λ b e.
    let p = (and-eq-true_iff (leb 1 (length v) && leb (length v) 10) (plain v)).0 b in
    let short = leb-true (length v) 10 ((and-eq-true_iff (leb 1 (length v)) (leb (length v) 10)).0 p.0).1 in
    let digits = ((and-eq-true_iff (all_digits_of v) (not (is "0" (get_or v 0 0)) || eqb (length v) 1)).0 p.1).0 in
    let same : number_after 0 v ≡ n = value (simp b at e) in
    let few : 10 ^ length v ≤ 10 ^ 10 = pow-le-pow_right (lit< tt) short in
    let low : number_after 0 v < 10 ^ length v = rw zero-add at (below 0 0 v digits (lit< tt)) in
    (short, omega arith))
    (λ b e. absurd (let q = simp b at e in let z : ◌≡◌ {A = ℕ} 0 1 = cc in omega arith))
  where
    value : {m : ℕ} → Value m ≡ Value n → m ≡ n
    value h = cc

mark_size : (v : List ℕ) → is_mark v ≡ true → length v ≡ 1
mark_size v e = eqb-true (length v) 1 ((and-eq-true_iff (eqb (length v) 1) _).0 e).0

same_size : (v w : List ℕ) → same v w ≡ true → length v ≡ length w
same_size [] [] e = refl
same_size [] (y ∷ w) e = absurd (false≢true e)
same_size (x ∷ v) [] e = absurd (false≢true e)
same_size (x ∷ v) (y ∷ w) e = ap suc (same_size v w ((and-eq-true_iff (eqb x y) (same v w)).0 e).1)

-- a limit, what follows open interest, what follows the price: 33, or of its form
data Limited (p q x : ℕ) (v : List ℕ) : Type 0 where
  no : limit_of p q x v ≡ Err NoDay → Limited p q x v
  yes : (limit : Option Rate) → limit_of p q x v ≡ judged_day p q x limit → length v ≤ 8 → Limited p q x v

data Tailed (p q : ℕ) (v : List ℕ) : Type 0 where
  no : tail_of p q v ≡ Err NoDay → Tailed p q v
  yes : (x : ℕ) (limit : Option Rate) → tail_of p q v ≡ judged_day p q x limit → length v ≤ 10 → Tailed p q v

data Behind (long : Bool) (p : ℕ) (v : List ℕ) : Type 0 where
  no : behind_price long p v ≡ Err NoDay → Behind long p v
  yes : (q x : ℕ) (limit : Option Rate) → behind_price long p v ≡ judged_day p q x limit → q ≤ 9_999_999_999 → length v + 9 ≤ widest long → Behind long p v

limited : (p q x : ℕ) (v : List ℕ) → Limited p q x v
unfolding limit_of
limited p q x v = by_test (same v (bytes "-")) (λ b. yes None (simp b) (omega (arith, same_size v (bytes "-") b))) (λ b. go b (figure_of rate_form v) refl)
  where
    go : same v (bytes "-") ≡ false → (f : Figure) → figure_of rate_form v ≡ f → Limited p q x v
    go b (Value n) e = yes (Some (rate n)) (simp (b, e)) (figure_size rate_form v n e).0
    go b Comma e = no (simp (b, e))
    go b Malformed e = no (simp (b, e))

tailed : (p q : ℕ) (v : List ℕ) → Tailed p q v
unfolding tail_of
tailed p q v = by_test (is_mark (up_to " " v)) (λ b. go b (limited p q (get_or v 0 0) (after " " v))) (λ b. no (simp b))
  where
    go : is_mark (up_to " " v) ≡ true → Limited p q (get_or v 0 0) (after " " v) → Tailed p q v
    go b (no e) = no (simp (b, e))
    go b (yes limit e h) = yes (get_or v 0 0) limit (simp (b, e)) (omega (arith, halves v, mark_size (up_to " " v) b))

behind : (long : Bool) (p : ℕ) (v : List ℕ) → Behind long p v
unfolding long_of short_of
behind true p v = go (interest_of (up_to " " v)) refl
  where
    tail : (q : ℕ) → interest_of (up_to " " v) ≡ Value q → Tailed p q (after " " v) → Behind true p v
    tail q e (no h) = no (simp (e, h))
    tail q e (yes x limit h small) =
        let i = interest_size (up_to " " v) q e in
        yes q x limit (simp (e, h)) i.1 (omega (arith, halves v))

    go : (f : Figure) → interest_of (up_to " " v) ≡ f → Behind true p v
    go (Value q) e = tail q e (tailed p q (after " " v))
    go Comma e = no (simp e)
    go Malformed e = no (simp e)
behind false p v = go (interest_of v) refl
  where
    go : (f : Figure) → interest_of v ≡ f → Behind false p v
    go (Value q) e = let i = interest_size v q e in yes q 45 None (simp e) i.1 (omega arith)
    go Comma e = no (simp e)
    go Malformed e = no (simp e)

pub form : (long : Bool) (v : List ℕ) → Formed long v
unfolding day_of
form long v = go (figure_of settlement_form (up_to " " v)) refl
  where
    rest : (p : ℕ) → figure_of settlement_form (up_to " " v) ≡ Value p → Behind long p (after " " v) → Formed long v
    rest p e (no h) = bad (simp (e, h))
    rest p e (yes q x limit h small few) =
        let f = figure_size settlement_form (up_to " " v) p e in
        formed p q x limit (simp (e, h)) f.1 small (omega (arith, halves v))

    go : (f : Figure) → figure_of settlement_form (up_to " " v) ≡ f → Formed long v
    go (Value p) e = rest p e (behind long p (after " " v))
    go Comma e = bad (simp e)
    go Malformed e = bad (simp e)

-- a day's numbers
judged_good : (p q x : ℕ) (limit : Option Rate) (d : Day) → judged_day p q x limit ≡ Ok d → (d.price.0 ≡ p) × (d.interest.0 ≡ q)
unfolding judged_day
judged_good p q x limit d = by_test (eqb p 0 || eqb q 0)
    (λ a e. absurd (let w = simp a at e in let z : ◌≡◌ {A = ℕ} 0 1 = cc in omega arith))
    (λ a. by_test (marks x)
    (λ b e. let w = good (simp (a, b) at e) in (ap (λ y. y.price.0) (sym w), ap (λ y. y.interest.0) (sym w)))
    (λ b e. absurd (let w = simp (a, b) at e in let z : ◌≡◌ {A = ℕ} 0 1 = cc in omega arith)))
  where
    good : {y : Day} → ◌≡◌ {A = Result Day ListRule} (Ok y) (Ok d) → y ≡ d
    good h = cc

pub day_small : (long : Bool) (v : List ℕ) (d : Day) → day_of long v ≡ Ok d → (d.price.0 ≤ 9_999_999) × (d.interest.0 ≤ 9_999_999_999)
day_small long v d e = go (form long v)
  where
    go : Formed long v → (d.price.0 ≤ 9_999_999) × (d.interest.0 ≤ 9_999_999_999)
    go (bad h) = absurd (let w = sym h ∙ e in let z : ◌≡◌ {A = ℕ} 0 1 = cc in omega arith)
    go (formed p q x limit h s t few) = let j = judged_good p q x limit d (sym h ∙ e) in (omega arith, omega arith)

-- and those of the day that begins at a place
pub next_small : (long : Bool) (s : List ℕ) (at : ℕ) (f : NextDay) → next_of long s at ≡ Some (Ok f) → (f.day.price.0 ≤ 9_999_999) × (f.day.interest.0 ≤ 9_999_999_999)
unfolding next_of
next_small long s at f = go (lines_of (drop at s))
  where
    read : (v : List ℕ) (n : ℕ) (r : Result Day ListRule) → day_of long v ≡ r → found_at n r ≡ Some (Ok f) → (f.day.price.0 ≤ 9_999_999) × (f.day.interest.0 ≤ 9_999_999_999)
    read v n (Ok e) h k = let q : record { day = e; next = n } ≡ f = cc in day_small long v f.day (h ∙ ap (λ (y : NextDay). Ok y.day) q)
    read v n (Err m) h k = absurd (let z : ◌≡◌ {A = ℕ} 0 1 = cc in omega arith)

    go : (ls : List Line) → next_in long at ls ≡ Some (Ok f) → (f.day.price.0 ≤ 9_999_999) × (f.day.interest.0 ≤ 9_999_999_999)
    go [] h = absurd (let z : ◌≡◌ {A = ℕ} 0 1 = cc in omega arith)
    go (Cut v ∷ ls) h = absurd (let z : ◌≡◌ {A = ℕ} 0 1 = cc in omega arith)
    go (Whole v ∷ ls) h = read v (at + length v + 1) (day_of long v) refl h

-- and those of the day that is read first
pub left_small : (long : Bool) (s : List ℕ) (at : ℕ) (d : Day) (rest : List (Result Day ListRule)) → days_at long s at ≡ Ok d ∷ rest → (d.price.0 ≤ 9_999_999) × (d.interest.0 ≤ 9_999_999_999)
unfolding days_at
left_small long s at d rest = go (lines_of (drop at s))
  where
    read : (v : List ℕ) (r : Result Day ListRule) (more : List (Result Day ListRule)) → day_of long v ≡ r → then_of r more ≡ Ok d ∷ rest → (d.price.0 ≤ 9_999_999) × (d.interest.0 ≤ 9_999_999_999)
    read v (Ok e) more h k = let q : e ≡ d = cc in day_small long v d (h ∙ ap Ok q)
    read v (Err m) more h k = absurd (let z : ◌≡◌ {A = ℕ} 0 1 = cc in omega arith)

    go : (ls : List Line) → days_in long ls ≡ Ok d ∷ rest → (d.price.0 ≤ 9_999_999) × (d.interest.0 ≤ 9_999_999_999)
    go [] h = absurd (let z : ◌≡◌ {A = ℕ} 0 1 = cc in omega arith)
    go (Cut v ∷ ls) h = absurd (let z : ◌≡◌ {A = ℕ} 0 1 = cc in omega arith)
    go (Whole v ∷ ls) h = read v (day_of long v) (days_in long ls) refl h
