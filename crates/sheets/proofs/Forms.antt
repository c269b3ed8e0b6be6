-- A part that ends at a place, and the line's front by it; and the fronts that are no line.
-- Assumes nothing.
use Prim.Native.Nat.{ℕ, suc, ◌+◌, ◌-◌, ◌≤◌, ◌<◌}
use mathlib.Core.Path.{◌≡◌, refl, sym, ap, ◌∙◌}
use mathlib.Core.Bool.{true, false}
use mathlib.Core.List.{List, [], ◌∷◌}
use native.Mathlib.Omega.{arith}
use borrow.Author.Tests.{eqb-true, ltb-true, ltb-false}
use lib.Dec.{ltb}
use lib.ListN.{length, get_or, take, drop, length-take, length-drop, drop_of_length-le}
use lib.Seq.{drop-drop}
use Rattle.rules.specs.Text.{is}
use Rattle.rules.specs.Book.{Stop}
use Rattle.laws.specs.ByTest.{by_test}
use Rattle.sheets.specs.Mark.{stands_in}
use Rattle.sheets.specs.Places.{stopless, leads, between, Plain, Front, Unended, Parts, with_part, front_of, of_front}
use Rattle.sheets.specs.Fronts.{take_stopless, front_by_of, front_by}
use Rattle.sheets.proofs.Bytes.{drop_step}

pub between_size : (from to : ℕ) (s : List ℕ) → to ≤ length s → length (between from to s) ≡ to - from
between_size from to s h = simp (length-take, length-drop) (omega arith)

pub between_one : (at : ℕ) (s : List ℕ) → at < length s → between at (at + 1) s ≡ get_or s at 0 ∷ []
between_one at s h = let e : at + 1 - at ≡ 1 = omega arith in rw (e, drop_step s at h)

-- the byte that stands at a place
pub record Standing (s : List ℕ) (at b : ℕ) : Type 0 where
  pub inside : at < length s
  pub byte : get_or s at 0 ≡ b
  pub rest : drop at s ≡ b ∷ drop (at + 1) s

pub standing : (s : List ℕ) (at b : ℕ) → leads b (drop at s) ≡ true → Standing s at b
standing s at b e =
    by_test (ltb at (length s))
    (λ t.
    let h = ltb-true at (length s) t in
    let x : get_or s at 0 ≡ b = eqb-true (get_or s at 0) b (rw (drop_step s at h) at e) in
    record { inside = h; byte = x; rest = drop_step s at h ∙ ap (λ (n : ℕ). n ∷ drop (at + 1) s) x })
    (λ t. absurd (let q = rw (drop_of_length-le s (ltb-false at (length s) t)) at e in let z : ◌≡◌ {A = ℕ} 0 1 = cc in omega arith))

plain_stopless : (t : List ℕ) → Plain (stopless t)
plain_stopless [] = refl
plain_stopless (x ∷ t) =
    by_test (is "\n" x)
    (λ e. simp e)
    (λ e. by_test (is ";" x) (λ f. simp (e, f)) (λ f. simp (e, f, plain_stopless t)))

-- a part that begins at a place and ends at another
module _ (s : List ℕ) (from r : ℕ) (stop : r ≡ from + length (stopless (drop from s))) where
  part_at_lem : between from r s ≡ stopless (drop from s)
  part_at_lem = let e : r - from ≡ length (stopless (drop from s)) = omega arith in ap (λ (m : ℕ). take m (drop from s)) e ∙ take_stopless (drop from s)

  pub plain_at : Plain (between from r s)
  plain_at = ap (stands_in 59) part_at_lem ∙ plain_stopless (drop from s)

  pub front_at : front_of (drop from s) ≡ front_by_of (between from r s) (drop r s)
  front_at =
      let t = drop from s in
      let n = length (stopless t) in
      let q : drop r s ≡ drop n t = ap (λ (m : ℕ). drop m s) stop ∙ sym (drop-drop n from s) in
      front_by t ∙ sym (ap (λ (l : List ℕ). front_by_of l (drop r s)) part_at_lem ∙ ap (front_by_of (stopless t)) q)

  pub front_fed : leads 10 (drop r s) ≡ true → front_of (drop from s) ≡ Parts (between from r s ∷ []) (suc (length (between from r s)))
  front_fed e = front_at ∙ ap (front_by_of (between from r s)) (standing s r 10 e).rest

  pub front_on : leads 59 (drop r s) ≡ true → front_of (drop from s) ≡ with_part (between from r s) (front_of (drop (r + 1) s))
  front_on e = front_at ∙ ap (front_by_of (between from r s)) (standing s r 59 e).rest

-- no semicolon follows a part, or no line feed
module _ (C : Front → Type 0) (p : List ℕ) where
  lone : (u : List ℕ) → leads 59 u ≡ false → C Unended → C (Parts (p ∷ []) (suc (length p))) → C (front_by_of p u)
  lone [] h a b = a
  lone (x ∷ v) h a b = by_test (is "\n" x) (λ e. simp e b) (λ e. simp (e, h) a)

  unfed : (u : List ℕ) → leads 10 u ≡ false → C Unended → ((v : List ℕ) → C (with_part p (front_of v))) → C (front_by_of p u)
  unfed [] h a b = a
  unfed (x ∷ v) h a b = by_test (is ";" x) (λ e. simp (h, e) (b v)) (λ e. simp (h, e) a)

-- these are no line: the letter's part is not one byte; nothing follows the letter; no line feed and no semicolon follows the first part;
-- no semicolon follows the second, or the third; no line feed follows the fourth
module _ (mark : ℕ) where
  abbrev Bad : Front → Type 0
  Bad f = of_front mark f ≡ Stop 22

  one_part : (p : List ℕ) (n : ℕ) → Bad (Parts (p ∷ []) n)
  one_part [] n = refl
  one_part (t ∷ []) n = refl
  one_part (t ∷ u ∷ p) n = refl

  other_letter : (p : List ℕ) (f : Front) → (length p ≡ 1 → ⊥) → Bad (with_part p f)
  other_letter p Unended h = refl
  other_letter [] (Parts ps n) h = refl
  other_letter (t ∷ []) (Parts ps n) h = absurd (h refl)
  other_letter (t ∷ u ∷ p) (Parts ps n) h = refl

  pub no_letter : (p u : List ℕ) → (length p ≡ 1 → ⊥) → Bad (front_by_of p u)
  no_letter p [] h = refl
  no_letter p (x ∷ v) h =
      by_test (is "\n" x)
      (λ e. simp e (one_part p (suc (length p))))
      (λ e. by_test (is ";" x) (λ f. simp (e, f) (other_letter p (front_of v) h)) (λ f. simp (e, f)))

  pub no_part : (p u : List ℕ) → leads 59 u ≡ false → Bad (front_by_of p u)
  no_part p u h = lone Bad p u h refl (one_part p (suc (length p)))

  module _ (t : ℕ) (a : List ℕ) where
    pub no_end : (u : List ℕ) → leads 59 u ≡ false → leads 10 u ≡ false → Bad (with_part (t ∷ []) (front_by_of a u))
    no_end [] h k = refl
    no_end (x ∷ v) h k = simp (h, k)

    module _ (b : List ℕ) where
      pub no_third : (u : List ℕ) → leads 59 u ≡ false → Bad (with_part (t ∷ []) (with_part a (front_by_of b u)))
      no_third u h = lone (λ f. Bad (with_part (t ∷ []) (with_part a f))) b u h refl refl

      pub no_fourth : (c u : List ℕ) → leads 59 u ≡ false → Bad (with_part (t ∷ []) (with_part a (with_part b (front_by_of c u))))
      no_fourth c u h = lone (λ f. Bad (with_part (t ∷ []) (with_part a (with_part b f)))) c u h refl refl

      many : (c d q u : List ℕ) → Bad (with_part (t ∷ []) (with_part a (with_part b (with_part c (with_part d (front_by_of q u))))))
      many c d q [] = refl
      many c d q (x ∷ v) = by_test (is "\n" x) (λ e. simp e) (λ e. by_test (is ";" x) (λ f. simp (e, f) (go (front_of v))) (λ f. simp (e, f)))
        where
          go : (f : Front) → Bad (with_part (t ∷ []) (with_part a (with_part b (with_part c (with_part d (with_part q f))))))
          go Unended = refl
          go (Parts ps n) = refl

      pub no_feed : (c d u : List ℕ) → leads 10 u ≡ false → Bad (with_part (t ∷ []) (with_part a (with_part b (with_part c (front_by_of d u)))))
      no_feed c d u h =
          unfed (λ f. Bad (with_part (t ∷ []) (with_part a (with_part b (with_part c f))))) d u h refl
          (λ v. rw (front_by v) (many c d (stopless v) (drop (length (stopless v)) v)))
