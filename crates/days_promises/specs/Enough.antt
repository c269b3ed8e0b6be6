-- docs/MOVES.md. "There is no limit in bytes": the verdict on a list is a function of its first 60,000 bytes, or 64,000 in the longer form, and of the
-- number of its line feeds in all. A line of its form has at most 19 bytes, and 30 in the longer form, before its line feed; so where the first bytes
-- are not the whole list, they end behind all good lines, or in a line that is 33 in the list too.
-- Assumes nothing.
use Prim.Native.Nat.{ℕ, zero, suc, ◌+◌, ◌-◌, ◌*◌, ◌≤◌, ◌<◌}
use Rattle.std.specs.Prelude.{◌≡◌, refl, Bool, true, false, cond, ltb, eqb, take, Err}
use Rattle.std.proofs.Math.Path.{sym, ap}
use Rattle.std.proofs.Common.{◌∙◌, arith, ltb-true, ltb-false, lt-ltb}
use Rattle.std.proofs.Math.Bool.{and-eq-true_iff}
use mathlib.Core.List.{List, [], ◌∷◌}
use Rattle.std.proofs.Math.ListN.{length, length-take}
use Rattle.std.proofs.Math.Seq.{take-nil}
use Rattle.rules.specs.Text.{is, bytes}
use Rattle.rules.specs.Codes.{same}
use Rattle.rules.specs.Figures.{up_to, after}
use Rattle.laws.specs.ByTest.{by_test}
use Rattle.days.specs.declared.Metal.{Metal}
use Rattle.days.specs.declared.Metal.TheVariants.{Gold, Silver}
use Rattle.days.specs.declared.refusal.ListRule.TheVariants.{NoDay}
use Rattle.days.specs.Lines.{Whole, Cut, lines_of, feeds}
use Rattle.days.specs.Day.{day_of}
use Rattle.days.specs.Listed.{Days, Verdict, days_from, first_of, of_metal, no_list, list_of, verdict_of, judge}
use Rattle.days.specs.Steps.{lines_cut, lines_whole, Shape, none, cut, whole, shape}
use Rattle.days.specs.Formed.{widest, Formed, bad, formed, form}

-- the first bytes of a list, up to the first line feed and behind it
inside : (s : List ℕ) (m : ℕ) → length (up_to "\n" s) < m → (up_to "\n" (take m s) ≡ up_to "\n" s) × (after "\n" (take m s) ≡ take (m - suc (length (up_to "\n" s))) (after "\n" s))
inside [] zero h = absurd (omega arith)
inside [] (suc m) h = (refl, sym (take-nil (suc m - 1)))
inside (x ∷ s) zero h = absurd (omega arith)
inside (x ∷ s) (suc m) h =
    by_test (is "\n" x)
    (λ e. (simp e, simp e (ap (λ (n : ℕ). take n s) (fewer m))))
    (λ e. let p = inside s m (omega (arith, simp e at h)) in (simp (e, p.0), simp e (p.1 ∙ ap (λ (n : ℕ). take n (after "\n" s)) (less m (length (up_to "\n" s))))))
  where
    fewer : (n : ℕ) → n ≡ suc n - 1
    fewer n = omega arith

    less : (n k : ℕ) → n - suc k ≡ suc n - suc (suc k)
    less n k = omega arith

-- no line feed among them
before_feed : (s : List ℕ) (m : ℕ) → m ≤ length (up_to "\n" s) → length (up_to "\n" (take m s)) ≡ length (take m s)
before_feed s zero h = refl
before_feed [] (suc m) h = refl
before_feed (x ∷ s) (suc m) h =
    by_test (is "\n" x)
    (λ e. absurd (omega (arith, simp e at h)))
    (λ e. simp e (ap suc (before_feed s m (omega (arith, simp e at h)))))

unended : (s : List ℕ) (m : ℕ) → length (up_to "\n" s) ≡ length s → length (up_to "\n" (take m s)) ≡ length (take m s)
unended s zero h = refl
unended [] (suc m) h = refl
unended (x ∷ s) (suc m) h =
    by_test (is "\n" x)
    (λ e. absurd (omega (arith, simp e at h)))
    (λ e. simp e (ap suc (unended s m (omega (arith, simp e at h)))))

feeds_whole : (s : List ℕ) → length (up_to "\n" s) < length s → feeds s ≡ suc (feeds (after "\n" s))
feeds_whole [] h = absurd (omega arith)
feeds_whole (x ∷ s) h = by_test (is "\n" x) (λ e. simp e) (λ e. simp e (feeds_whole s (omega (arith, simp e at h))))

-- a line of so many bytes is 33
long_bad : (long : Bool) (v : List ℕ) → widest long < length v → day_of long v ≡ Err NoDay
long_bad long v h = go (form long v)
  where
    go : Formed long v → day_of long v ≡ Err NoDay
    go (bad e) = e
    go (formed p q x limit e s t few) = absurd (omega arith)

-- what the first bytes hold of a line: all of it, or a part that no line feed ends
data Kept (s : List ℕ) (m : ℕ) : Type 0 where
  whole_line : length (up_to "\n" s) < m → lines_of (take m s) ≡ Whole (up_to "\n" s) ∷ lines_of (take (m - suc (length (up_to "\n" s))) (after "\n" s)) → Kept s m
  part_line : m ≤ length (up_to "\n" s) → lines_of (take m s) ≡ Cut (take m s) ∷ [] → Kept s m

kept : (s : List ℕ) (m : ℕ) → 0 < m → length (up_to "\n" s) < length s → Kept s m
kept s m h w = by_test (ltb (length (up_to "\n" s)) m)
    (λ b.
    let l = ltb-true (length (up_to "\n" s)) m b in
    let p = inside s m l in
    let inner : length (up_to "\n" (take m s)) < length (take m s) = omega (arith, ap length p.0, length-take m s) in
    whole_line l (lines_whole (take m s) inner ∙ rw (p.0, p.1)))
    (λ b.
    let l = ltb-false (length (up_to "\n" s)) m b in
    part_line l (lines_cut (take m s) (omega (arith, length-take m s)) (before_feed s m l)))

-- the day of a line that was kept whole, then the rest
first_rest : (long : Bool) (k : ℕ) (u : List ℕ) (x y : Days) → (length u ≤ widest long → x ≡ y) → first_of (day_of long u) k x ≡ first_of (day_of long u) k y
first_rest long k u x y same = go (form long u)
  where
    go : Formed long u → first_of (day_of long u) k x ≡ first_of (day_of long u) k y
    go (bad e) = rw e
    go (formed p q z limit e s t few) = ap (first_of (day_of long u) k) (same few)

no_lines : (m : ℕ) → lines_of (take m []) ≡ []
unfolding lines_of
no_lines zero = refl
no_lines (suc m) = refl

module _ (long : Bool) where
  by_shape : (k : ℕ) (s : List ℕ) (m : ℕ) → widest long < m → Shape s →
      (length (up_to "\n" s) < length s → length (up_to "\n" s) < m → length (up_to "\n" s) ≤ widest long →
      days_from long (suc k) (lines_of (take (m - suc (length (up_to "\n" s))) (after "\n" s))) ≡ days_from long (suc k) (lines_of (after "\n" s))) →
      days_from long k (lines_of (take m s)) ≡ days_from long k (lines_of s)
  unfolding days_from
  by_shape k s m room (none e) rest = ap (days_from long k) (ap (λ (l : List ℕ). lines_of (take m l)) e ∙ no_lines m ∙ sym (ap lines_of e ∙ no_lines 0))
  by_shape k s m room (cut h e l) rest =
      let c = lines_cut (take m s) (omega (arith, length-take m s)) (unended s m e) in
      ap (days_from long k) c ∙ sym (ap (days_from long k) l)
  by_shape k s m room (whole h l) rest = go (kept s m (omega arith) h)
    where
      go : Kept s m → days_from long k (lines_of (take m s)) ≡ days_from long k (lines_of s)
      go (whole_line i c) =
          ap (days_from long k) c ∙ first_rest long k (up_to "\n" s) _ _ (λ few. rest h i few) ∙ sym (ap (days_from long k) l)
      go (part_line o c) =
          ap (days_from long k) c ∙ sym (ap (days_from long k) l ∙ rw (long_bad long (up_to "\n" s) (omega arith)))

  enough_days : (f k : ℕ) (s : List ℕ) (m : ℕ) → feeds s ≤ f → suc (widest long) * suc f ≤ m → days_from long k (lines_of (take m s)) ≡ days_from long k (lines_of s)
  enough_days zero k s m h room = by_shape k s m (omega arith) (shape s) (λ w i few. absurd (omega (arith, feeds_whole s w)))
  enough_days (suc f) k s m h room =
      by_shape k s m (omega arith) (shape s)
      (λ w i few. enough_days f (suc k) (after "\n" s) (m - suc (length (up_to "\n" s))) (omega (arith, feeds_whole s w)) (omega arith))

  -- the first line
  same_size : (v w : List ℕ) → same v w ≡ true → length v ≡ length w
  same_size [] [] e = refl
  same_size [] (y ∷ w) e = absurd (let z : ◌≡◌ {A = ℕ} 0 1 = cc in omega arith)
  same_size (x ∷ v) [] e = absurd (let z : ◌≡◌ {A = ℕ} 0 1 = cc in omega arith)
  same_size (x ∷ v) (y ∷ w) e = ap suc (same_size v w ((and-eq-true_iff (eqb x y) (same v w)).0 e).1)

  named_rest : (u : List ℕ) (x y : Metal → Verdict) → (length u ≤ 6 → (m : Metal) → x m ≡ y m) →
      cond (same u (bytes "gold")) (x Gold) (cond (same u (bytes "silver")) (x Silver) no_list) ≡ cond (same u (bytes "gold")) (y Gold) (cond (same u (bytes "silver")) (y Silver) no_list)
  named_rest u x y rest =
      by_test (same u (bytes "gold"))
      (λ a. simp a (rest (omega (arith, same_size u (bytes "gold") a)) Gold))
      (λ a. by_test (same u (bytes "silver"))
      (λ b. simp (a, b) (rest (omega (arith, same_size u (bytes "silver") b)) Silver))
      (λ b. simp (a, b)))

  unnamed : (u : List ℕ) (x : Metal → Verdict) → 6 < length u → cond (same u (bytes "gold")) (x Gold) (cond (same u (bytes "silver")) (x Silver) no_list) ≡ no_list
  unnamed u x h =
      by_test (same u (bytes "gold"))
      (λ a. absurd (omega (arith, same_size u (bytes "gold") a)))
      (λ a. by_test (same u (bytes "silver"))
      (λ b. absurd (omega (arith, same_size u (bytes "silver") b)))
      (λ b. simp (a, b)))

  enough_list : (s : List ℕ) (m : ℕ) → feeds s ≤ 2_001 → suc (widest long) * 2_001 + 7 ≤ m → list_of long (lines_of (take m s)) ≡ list_of long (lines_of s)
  unfolding list_of
  enough_list s m h room = go (shape s)
    where
      line : length (up_to "\n" s) < length s → lines_of s ≡ Whole (up_to "\n" s) ∷ lines_of (after "\n" s) → Kept s m → list_of long (lines_of (take m s)) ≡ list_of long (lines_of s)
      line w l (whole_line i c) =
          ap (list_of long) c
          ∙ named_rest (up_to "\n" s) (λ metal. of_metal metal (days_from long 1 (lines_of (take (m - suc (length (up_to "\n" s))) (after "\n" s))))) (λ metal. of_metal metal (days_from long 1 (lines_of (after "\n" s))))
          (λ few metal. ap (of_metal metal) (enough_days 2_000 1 (after "\n" s) (m - suc (length (up_to "\n" s))) (omega (arith, feeds_whole s w)) (omega arith)))
          ∙ sym (ap (list_of long) l)
      line w l (part_line o c) = ap (list_of long) c ∙ sym (ap (list_of long) l ∙ unnamed (up_to "\n" s) (λ metal. of_metal metal (days_from long 1 (lines_of (after "\n" s)))) (omega arith))

      go : Shape s → list_of long (lines_of (take m s)) ≡ list_of long (lines_of s)
      go (none e) = ap (list_of long) (ap (λ (l : List ℕ). lines_of (take m l)) e ∙ no_lines m ∙ sym (ap lines_of e ∙ no_lines 0))
      go (cut p e l) = ap (list_of long) (lines_cut (take m s) (omega (arith, length-take m s)) (unended s m e)) ∙ sym (ap (list_of long) l)
      go (whole w l) = line w l (kept s m (omega arith) w)

-- the verdict by the first so many bytes and the line feeds in all
pub enough : (long : Bool) (s : List ℕ) (m : ℕ) → suc (widest long) * 2_001 + 7 ≤ m → verdict_of long (feeds s) (take m s) ≡ judge long s
unfolding judge verdict_of
enough long s m room =
    by_test (ltb 2_001 (feeds s))
    (λ b. simp b)
    (λ b. simp b (enough_list long s m (ltb-false 2_001 (feeds s) b) room))

-- "the first 60,000", for the short form; the longer form takes at most 62,038
pub first_60000 : (s : List ℕ) → verdict_of false (feeds s) (take 60_000 s) ≡ judge false s
first_60000 s = enough false s 60_000 (omega arith)

pub first_64000 : (s : List ℕ) → verdict_of true (feeds s) (take 64_000 s) ≡ judge true s
first_64000 s = enough true s 64_000 (omega arith)

-- where a list has more than any may have, every other such number serves as well: the programs stop counting there
pub counted_enough : (long : Bool) (m : ℕ) (s : List ℕ) (total : ℕ) → 2_001 < feeds s → 2_001 < total → verdict_of long total (take m s) ≡ judge long s
unfolding judge verdict_of
counted_enough long m s total many more = simp (lt-ltb 2_001 total more, lt-ltb 2_001 (feeds s) many)
