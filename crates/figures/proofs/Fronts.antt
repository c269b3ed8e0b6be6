-- A point, two digits and a blank behind digits, which the reader of a price takes at once; and a figure before a blank.
-- Assumes nothing.
use Rattle.std.proofs.Common.{◌≡◌, ℕ, ◌+◌, ◌*◌, ◌<◌, ◌≤◌, Bool, true, cond, ◌&&◌, ltb, leb, List, ◌∷◌, ◌++◌, length, get_or, take, drop, sym, ap, ◌∙◌, ap₂, arith, take-append-drop, ltb-false, ltb-true, eq-eqb, ne_eqb, eqb-true, le-leb, leb-true}
use Prim.Native.Char.{code}
use mathlib.Core.Bool.{and-eq-true_iff}
use lib.ListN.{get_or-eq_default}
use lib.Seq.{drop-append-le}
use Rattle.rules.specs.Text.{is}
use Rattle.rules.specs.Figures.{all_digits_of}
use Rattle.figures.specs.declared.start.Start.{Start}
use Rattle.figures.specs.declared.start.Start.TheVariants.{Ends}
use Rattle.figures.specs.declared.start.Start.TheVariants.{Other as NoStart}
use Rattle.figures.specs.declared.number.Digits.TheVariants.{Number, Other}
use Rattle.figures.specs.Two.{bytes_at, two_at}
use Rattle.figures.specs.Starts.{two_alone, behind, start_of, before_blank, front_of}
use Rattle.figures.proofs.Lists.{by_test, drop_step}
use Rattle.figures.proofs.Stamps.{counted, chosen}
use Rattle.figures.proofs.Twos.{two_most, after}
use Rattle.figures.proofs.Starts.{behind_here}
use Rattle.figures.proofs.Starts.{chosen as chose}

four : (w : List ℕ) → 4 ≤ length w → w ≡ get_or w 0 0 ∷ (bytes_at w 1 ++ (get_or w 3 0 ∷ drop 4 w))
four w h =
    drop_step w 0 (omega arith)
    ∙ ap (λ (l : List ℕ). get_or w 0 0 ∷ l)
    (drop_step w 1 (omega arith)
    ∙ ap (λ (l : List ℕ). get_or w 1 0 ∷ l) (drop_step w 2 (omega arith) ∙ ap (λ (l : List ℕ). get_or w 2 0 ∷ l) (drop_step w 3 (omega arith))))

pub record Alone (two : ℕ) (w : List ℕ) : Type 0 where
  pub long : 4 ≤ length w
  pub point : get_or w 0 0 ≡ code "."
  pub blank : get_or w 3 0 ≡ code " "
  pub digits : all_digits_of (bytes_at w 1) ≡ true
  pub number : two_at w 1 ≡ two

pub alone : (two : ℕ) (w : List ℕ) → two_alone w ≡ Number two → Alone two w
alone two w h =
    let good = leb 4 (length w) && is " " (get_or w 3 0) && is "." (get_or w 0 0) in
    let t = chosen good (cond (all_digits_of (bytes_at w 1)) (Number (two_at w 1)) Other) two h in
    let p = (and-eq-true_iff (leb 4 (length w) && is " " (get_or w 3 0)) (is "." (get_or w 0 0))).0 t.0 in
    let q = (and-eq-true_iff (leb 4 (length w)) (is " " (get_or w 3 0))).0 p.0 in
    let k = counted (all_digits_of (bytes_at w 1)) (two_at w 1) two t.1 in
    record { long = leb-true 4 (length w) q.0; point = eqb-true _ _ p.1; blank = eqb-true _ _ q.1; digits = k.0; number = k.1 }

pub alone_most : (two : ℕ) (w : List ℕ) → Alone two w → two ≤ 99
alone_most two w a = omega (arith, two_most w 1 a.digits, a.number)

pub two_there : (i n two : ℕ) (w : List ℕ) → Alone two w → i + 2 ≤ 7 → behind i n w ≡ Ends (n * 100 + two) 2 (i + 3)
two_there i n two w a few =
    let bytes = four w a.long ∙ ap₂ (λ (x y : ℕ). x ∷ (bytes_at w 1 ++ (y ∷ drop 4 w))) a.point a.blank in
    let number = after w 1 n ∙ ap (λ (m : ℕ). n * 100 + m) a.number in
    let end : i + 1 + 2 ≡ i + 3 = omega arith in
    ap (behind i n) bytes
    ∙ behind_here i n (bytes_at w 1) (code " " ∷ drop 4 w) a.digits (λ j. 0)
    ∙ simp (le-leb (i + 2) 7 few)
    (ap₂ (λ (x e : ℕ). Ends x 2 e) number end)

-- A figure before a blank.

pub blank_inside : (v : List ℕ) (e : ℕ) → get_or v e 0 ≡ code " " → e < length v
blank_inside v e h =
    by_test (ltb e (length v))
    (λ t. ltb-true e (length v) t)
    (λ t. absurd (omega (arith, h, get_or-eq_default v 0 {n = e} (ltb-false e (length v) t))))

pub before_blank_lem : (v : List ℕ) (s : Start) (n d e : ℕ) → s ≡ Ends n d e → get_or v e 0 ≡ code " " → before_blank v s ≡ Ends n d e
before_blank_lem v s n d e h b = ap (before_blank v) h ∙ ap (λ (x : Bool). cond x (Ends n d e) NoStart) (eq-eqb _ _ b)

pub no_blank : (v : List ℕ) (s : Start) (n d e : ℕ) → s ≡ Ends n d e → (get_or v e 0 ≡ code " " → ⊥) → before_blank v s ≡ NoStart
no_blank v s n d e h b = ap (before_blank v) h ∙ ap (λ (x : Bool). cond x (Ends n d e) NoStart) (ne_eqb _ _ b)

told : (v : List ℕ) (s : Start) (n d e : ℕ) → before_blank v s ≡ Ends n d e → (s ≡ Ends n d e) × (get_or v e 0 ≡ code " ")
told v (Ends a b c) n d e h =
    let p = chose (is " " (get_or v c 0)) (Ends a b c) n d e h in
    let q = p.1 in
    let z : e ≡ c = cc in
    (q, ap (λ (i : ℕ). get_or v i 0) z ∙ eqb-true (get_or v c 0) (code " ") p.0)
told v NoStart n d e h = let z : ◌≡◌ {A = ℕ} 0 1 = cc in absurd (omega arith)

pub front_told : (v : List ℕ) (n d e : ℕ) → front_of v ≡ Ends n d e → (start_of v ≡ Ends n d e) × (get_or v e 0 ≡ code " ")
front_told v n d e h = told v (start_of v) n d e h

-- what follows the place p of bytes that end before a blank
pub to_blank :
    (v : List ℕ) (cut p : ℕ) → get_or v cut 0 ≡ code " " → p ≤ length (take cut v) →
    drop p v ≡ drop p (take cut v) ++ (code " " ∷ drop (cut + 1) v)
to_blank v cut p b h =
    let rest = drop_step v cut (blank_inside v cut b) ∙ ap (λ (x : ℕ). x ∷ drop (cut + 1) v) b in
    ap (drop p) (sym (take-append-drop cut v) ∙ ap (λ (l : List ℕ). take cut v ++ l) rest) ∙ drop-append-le p (take cut v) _ h
