-- What a line is judged to be, by the tests that the code makes; bytes side by side that are looked at in one go.
-- Assumes nothing.
use Prim.Native.Nat.{ℕ, zero, suc, ◌+◌, ◌-◌, ◌≤◌, ◌<◌}
use mathlib.Core.Path.{◌≡◌, refl, sym, ap, subst, ◌∙◌}
use mathlib.Core.Bool.{Bool, true, false, ◌||◌, or_assoc}
use mathlib.Core.List.{List, [], ◌∷◌, ◌++◌}
use native.Mathlib.Nat.{zero-add, suc-add}
use native.Mathlib.Omega.{arith}
use lib.Dec.{eqb}
use lib.ListN.{length, get_or, take, drop, length-drop}
use lib.Seq.{get_or-drop, drop-drop}
use Rattle.rules.specs.Text.{is}
use Rattle.rules.specs.Book.{Step}
use Rattle.laws.specs.ByTest.{by_test}
use Rattle.sheets.specs.Mark.{other, stands_in}
use Rattle.sheets.specs.Line.{carried, figured, traded, strays, one_of, four_of}
use Rattle.sheets.specs.Places.{between, HasParts}
use Rattle.sheets.specs.Sizes.{Unstrayed, Judges}
use Rattle.sheets.specs.declared.line.Parts.{Parts}
use Rattle.sheets.specs.declared.refusal.SheetRule.{SheetRule}
use Rattle.sheets.specs.declared.refusal.SheetRule.TheVariants.{NoLine}
use Rattle.std.specs.Prelude.{Result, Ok, Err}

module _ (mark t : ℕ) (v : List ℕ) where
  pub one_carried : carried t ≡ true → Judges (one_of mark t v) (Ok tt)
  one_carried e = rw e refl

  pub one_other : carried t ≡ false → figured t ≡ false → Judges (one_of mark t v) (Err NoLine)
  one_other e f = rw (e, f) refl

  pub one_figured : carried t ≡ false → figured t ≡ true → (r : Result (Unit {0}) SheetRule) → Unstrayed (strays mark v) r → Judges (one_of mark t v) r
  one_figured e f (Ok u) h = rw (e, f, h) refl
  one_figured e f (Err rule) h = rw (e, f, h.0, h.1) refl

module _ (mark t : ℕ) (a b c d : List ℕ) where
  four_seat : is "I" t ≡ true → (r : Result (Unit {0}) SheetRule) → Unstrayed (strays mark b || strays mark c || strays mark d) r → Judges (four_of mark t a b c d) r
  four_seat e (Ok u) h = rw (e, h) refl
  four_seat e (Err rule) h = rw (e, h.0, h.1) refl

  four_other : is "I" t ≡ false → traded t ≡ false → Judges (four_of mark t a b c d) (Err NoLine)
  four_other e f = rw (e, f) refl

  four_trade : is "I" t ≡ false → traded t ≡ true → (r : Result (Unit {0}) SheetRule) → Unstrayed (strays mark a || strays mark b) r → Judges (four_of mark t a b c d) r
  four_trade e f (Ok u) h = rw (e, f, h) refl
  four_trade e f (Err rule) h = rw (e, f, h.0, h.1) refl

-- one more byte than m and n others
take_parted : (u : List ℕ) (m n : ℕ) → m < length u → take (suc (m + n)) u ≡ take m u ++ get_or u m 0 ∷ take n (drop (suc m) u)
take_parted [] m n h = absurd (omega arith)
take_parted (x ∷ u) zero n h = ap (λ (k : ℕ). x ∷ take k u) (zero-add n)
take_parted (x ∷ u) (suc m) n h = ap (λ (k : ℕ). x ∷ take k u) (suc-add m n) ∙ ap (λ (l : List ℕ). x ∷ l) (take_parted u m n (omega arith))

-- bytes up to a place inside, the byte there, and those behind it
pub between_parted : (s : List ℕ) (a c e : ℕ) → a ≤ c → c < e → e ≤ length s → between a e s ≡ between a c s ++ get_or s c 0 ∷ between (c + 1) e s
between_parted s a c e h k l =
    let m = c - a in
    let n = e - (c + 1) in
    let size : e - a ≡ suc (m + n) = omega arith in
    let place : a + m ≡ c = omega arith in
    let behind : a + suc m ≡ c + 1 = omega arith in
    ap (λ (i : ℕ). take i (drop a s)) size ∙ take_parted (drop a s) m n (omega (arith, length-drop a s))
    ∙ ap (λ (x : ℕ). between a c s ++ x ∷ take n (drop (suc m) (drop a s))) (get_or-drop a s m 0 ∙ ap (λ (i : ℕ). get_or s i 0) place)
    ∙ ap (λ (q : List ℕ). between a c s ++ get_or s c 0 ∷ take n q) (drop-drop (suc m) a s ∙ ap (λ (i : ℕ). drop i s) behind)

stands_append : (o : ℕ) (p q : List ℕ) → stands_in o (p ++ q) ≡ (stands_in o p || stands_in o q)
stands_append o [] q = refl
stands_append o (x ∷ p) q = ap (λ (b : Bool). eqb x o || b) (stands_append o p q) ∙ sym (or_assoc (eqb x o) (stands_in o p) (stands_in o q))

-- a semicolon is no mark
semicolon : (mark : ℕ) → eqb 59 (other mark) ≡ false
semicolon mark = by_test (is "," mark) (λ e. simp e) (λ e. simp e)

module _ (mark : ℕ) (s : List ℕ) (a c e : ℕ) where
  pub stray_parts : get_or s c 0 ≡ 59 → a ≤ c → c < e → e ≤ length s →
      strays mark (between a e s) ≡ (strays mark (between a c s) || strays mark (between (c + 1) e s))
  stray_parts x h k l =
      ap (strays mark) (between_parted s a c e h k l ∙ ap (λ (i : ℕ). between a c s ++ i ∷ between (c + 1) e s) x)
      ∙ stands_append (other mark) (between a c s) (59 ∷ between (c + 1) e s)
      ∙ ap (λ (b : Bool). strays mark (between a c s) || (b || strays mark (between (c + 1) e s))) (semicolon mark)

-- a line of four parts
module _ (mark : ℕ) (s : List ℕ) (at t : ℕ) (p : Parts) (has : HasParts s at t p) where
  abbrev of_four : Step (List ℕ)
  of_four = four_of mark t (between (at + 2) p.first s) (between (p.first + 1) p.second s) (between (p.second + 1) p.third s) (between (p.third + 1) p.end s)

  pub seat_judged : is "I" t ≡ true → (r : Result (Unit {0}) SheetRule) → Unstrayed (strays mark (between (p.first + 1) p.end s)) r → Judges of_four r
  seat_judged i r h =
      let end = has.ends in
      let split = stray_parts mark s (p.first + 1) p.second p.end has.parted.1 (omega arith) (omega arith) (omega arith) in
      let rest = stray_parts mark s (p.second + 1) p.third p.end has.parted.2 (omega arith) (omega arith) (omega arith) in
      four_seat mark t (between (at + 2) p.first s) (between (p.first + 1) p.second s) (between (p.second + 1) p.third s) (between (p.third + 1) p.end s) i r
      (subst (λ (x : Bool). Unstrayed x r)
      (split ∙ ap (λ (x : Bool). strays mark (between (p.first + 1) p.second s) || x) rest
      ∙ sym (or_assoc (strays mark (between (p.first + 1) p.second s)) (strays mark (between (p.second + 1) p.third s)) (strays mark (between (p.third + 1) p.end s))))
      h)

  pub trade_judged : is "I" t ≡ false → traded t ≡ true → (r : Result (Unit {0}) SheetRule) → Unstrayed (strays mark (between (at + 2) p.second s)) r → Judges of_four r
  trade_judged i j r h =
      let end = has.ends in
      four_trade mark t (between (at + 2) p.first s) (between (p.first + 1) p.second s) (between (p.second + 1) p.third s) (between (p.third + 1) p.end s) i j r
      (subst (λ (x : Bool). Unstrayed x r) (stray_parts mark s (at + 2) p.first p.second has.parted.0 (omega arith) (omega arith) (omega arith)) h)

  pub other_judged : is "I" t ≡ false → traded t ≡ false → Judges of_four (Err NoLine)
  other_judged i j =
      four_other mark t (between (at + 2) p.first s) (between (p.first + 1) p.second s) (between (p.second + 1) p.third s) (between (p.third + 1) p.end s) i j
