-- The line at the front of some bytes, by its first part; and the lines of a sheet by the line at its front.
-- Assumes nothing.
use Rattle.std.specs.Prelude.{ℕ, suc, ◌+◌, ◌<◌, ◌≡◌, false, cond, List, [], ◌∷◌, length, take, drop}
use Rattle.std.proofs.Math.Path.{refl}
use Rattle.std.proofs.Common.{ap, zero-add, arith}
use Rattle.rules.specs.Text.{is}
use Rattle.laws.specs.ByTest.{by_test}
use Rattle.days.specs.Lines.{Line, Whole, Cut, longer, lines_of}
use Rattle.sheets.specs.Line.{onto, parts_of, line_of}
use Rattle.sheets.specs.Read.{first_of, lines_from}
use Rattle.sheets.specs.Places.{stops, stopless, Front, Unended, Parts, with_part, with_byte, front_of, of_front, size_of}

pub take_stopless : (t : List ℕ) → take (length (stopless t)) t ≡ stopless t
take_stopless [] = refl
take_stopless (x ∷ t) = by_test (stops x) (λ e. simp e) (λ e. simp e (ap (λ (l : List ℕ). x ∷ l) (take_stopless t)))

-- the line by its first part, and by what stands behind that
abbrev pub front_by_of : List ℕ → List ℕ → Front
front_by_of p [] = Unended
front_by_of p (x ∷ v) = cond (is "\n" x) (Parts (p ∷ []) (suc (length p))) (cond (is ";" x) (with_part p (front_of v)) Unended)

with_byte_part : (x : ℕ) (p : List ℕ) (f : Front) → with_byte x (with_part p f) ≡ with_part (x ∷ p) f
with_byte_part x p Unended = refl
with_byte_part x p (Parts ps n) = let e : suc (suc (length p + n)) ≡ suc (suc (length p) + n) = omega arith in ap (Parts ((x ∷ p) ∷ ps)) e

with_byte_by : (x : ℕ) (p v : List ℕ) → with_byte x (front_by_of p v) ≡ front_by_of (x ∷ p) v
with_byte_by x p [] = refl
with_byte_by x p (y ∷ v) =
    by_test (is "\n" y)
    (λ e. simp e)
    (λ e. by_test (is ";" y) (λ f. simp (e, f) (with_byte_part x p (front_of v))) (λ f. simp (e, f)))

pub front_by : (t : List ℕ) → front_of t ≡ front_by_of (stopless t) (drop (length (stopless t)) t)
unfolding front_of
front_by [] = refl
front_by (x ∷ t) =
    by_test (is "\n" x)
    (λ e. simp e)
    (λ e. by_test (is ";" x) (λ f. simp (e, f)) (λ f. simp (e, f, front_by t) (with_byte_by x (stopless t) (drop (length (stopless t)) t))))

-- the lines of a sheet and the line at its front are alike
data Alike (t : List ℕ) : List Line → Front → Type 0 where
  cut : {v : List ℕ} → Alike t (Cut v ∷ []) Unended
  whole : {v : List ℕ} {ls : List Line} {ps : List (List ℕ)} {n : ℕ} → parts_of v ≡ ps → ls ≡ lines_of (drop n t) → Alike t (Whole v ∷ ls) (Parts ps n)

alike_on : (x : ℕ) {t : List ℕ} {ls : List Line} {f : Front} → is "\n" x ≡ false → Alike t ls f →
    Alike (x ∷ t) (longer x ls) (cond (is ";" x) (with_part [] f) (with_byte x f))
unfolding parts_of
alike_on x h cut = by_test (is ";" x) (λ e. simp e cut) (λ e. simp e cut)
alike_on x h (whole {v} {ls} {ps} {n} p l) =
    by_test (is ";" x)
    (λ e. simp (e, zero-add) (whole {v = x ∷ v} {ps = [] ∷ ps} (simp (e, p)) l))
    (λ e. simp e (whole {v = x ∷ v} {ps = onto x ps} (simp (e, p)) l))

alike : (x : ℕ) (t : List ℕ) → Alike (x ∷ t) (lines_of (x ∷ t)) (front_of (x ∷ t))
unfolding lines_of front_of parts_of
alike x [] = by_test (is "\n" x) (λ e. simp e (whole refl refl)) (λ e. by_test (is ";" x) (λ f. simp (e, f) cut) (λ f. simp (e, f) cut))
alike x (y ∷ t) = by_test (is "\n" x) (λ e. simp e (whole refl refl)) (λ e. simp e (alike_on x e (alike y t)))

-- the lines from a place on, by the line that begins there
module _ (mark k : ℕ) where
  read_alike : {t : List ℕ} {ls : List Line} {f : Front} → Alike t ls f →
      lines_from mark k ls ≡ first_of (of_front mark f) k (lines_from mark (suc k) (lines_of (drop (size_of f) t)))
  unfolding lines_from line_of
  read_alike cut = refl
  read_alike (whole p l) = simp (p, l)

  pub read_front : (t : List ℕ) → 0 < length t →
      lines_from mark k (lines_of t) ≡ first_of (of_front mark (front_of t)) k (lines_from mark (suc k) (lines_of (drop (size_of (front_of t)) t)))
  read_front [] h = absurd (omega arith)
  read_front (x ∷ t) h = read_alike (alike x t)
