-- Lines added up from the front: what they made so far, and what the lines that are left come to.
-- Assumes nothing.
use Prim.Native.Nat.{ℕ, suc, ◌+◌, ◌≤◌, ◌<◌}
use mathlib.Core.Path.{◌≡◌, refl, sym, ap, ◌∙◌}
use mathlib.Core.List.{List, [], ◌∷◌, ◌++◌, append_assoc}
use native.Mathlib.Numerals.{add-one}
use native.Mathlib.Omega.{arith}
use lib.ListN.{length, drop, length-append, length-drop, drop_of_length-le}
use lib.Seq.{drop-drop}
use Rattle.rules.specs.Book.{Stop}
use Rattle.days.specs.Lines.{lines_of}
use Rattle.std.specs.Prelude.{Ok}
use Rattle.sheets.specs.Read.{Read, Bad, Made, before, first_of, lines_from}
use Rattle.sheets.specs.Places.{front_of, of_front, size_of}
use Rattle.sheets.specs.Fronts.{read_front}
use Rattle.sheets.specs.Sizes.{Fits, Tells}

-- n bytes were made, and the rest is still to come
pub record Added (whole rest : Read) (n : ℕ) : Type 0 where
  pub fields : List ℕ
  pub made : whole ≡ before fields rest
  pub size : length fields ≡ n

before_none : (r : Read) → r ≡ before [] r
before_none (Bad number place) = refl
before_none (Made rest) = refl

pub added_none : (r : Read) → Added r r 0
added_none r = record { fields = []; made = before_none r; size = refl }

before_twice : (f g : List ℕ) (r : Read) → before f (before g r) ≡ before (f ++ g) r
before_twice f g (Bad number place) = refl
before_twice f g (Made rest) = ap Made (sym (append_assoc f g rest))

-- the lines from a place on, by what the line that begins there comes to
module _ (mark k : ℕ) (s : List ℕ) (at : ℕ) (h : at < length s) where
  pub lines_stop : (n : ℕ) → of_front mark (front_of (drop at s)) ≡ Stop n → lines_from mark k (lines_of (drop at s)) ≡ Bad n k
  lines_stop n e =
      read_front mark k (drop at s) (omega (arith, length-drop at s))
      ∙ ap (λ l. first_of l k (lines_from mark (suc k) (lines_of (drop (size_of (front_of (drop at s))) (drop at s))))) e

  pub lines_go : (next size : ℕ) (fits : Fits mark s at next size) → lines_from mark k (lines_of (drop at s)) ≡ before fits.fields (lines_from mark (suc k) (lines_of (drop next s)))
  lines_go next size fits =
      let f = front_of (drop at s) in
      let place : drop (size_of f) (drop at s) ≡ drop next s = drop-drop (size_of f) at s ∙ ap (λ (n : ℕ). drop n s) (sym fits.ends) in
      read_front mark k (drop at s) (omega (arith, length-drop at s))
      ∙ ap (λ l. first_of l k (lines_from mark (suc k) (lines_of (drop (size_of f) (drop at s))))) fits.good
      ∙ ap (λ (t : List ℕ). before fits.fields (lines_from mark (suc k) (lines_of t))) place

-- n bytes were made up to a place, where line k begins
module _ (mark k : ℕ) (s : List ℕ) (whole : Read) (at n : ℕ) (so : Added whole (lines_from mark k (lines_of (drop at s))) n) where
  pub adds_good : at < length s → (next size : ℕ) → Fits mark s at next size → Added whole (lines_from mark (k + 1) (lines_of (drop next s))) (n + size)
  adds_good h next size fits =
      record {
        fields = so.fields ++ fits.fields;
        made = so.made ∙ ap (before so.fields) (lines_go mark k s at h next size fits) ∙ before_twice so.fields fits.fields (lines_from mark (suc k) (lines_of (drop next s)))
            ∙ ap (λ (m : ℕ). before (so.fields ++ fits.fields) (lines_from mark m (lines_of (drop next s)))) (sym (add-one k));
        size = omega (arith, length-append so.fields fits.fields, so.size, fits.makes);
      }

  pub adds_bad : at < length s → (number : ℕ) → of_front mark (front_of (drop at s)) ≡ Stop number → whole ≡ Bad number k
  adds_bad h number e = so.made ∙ ap (before so.fields) (lines_stop mark k s at h number e)

  pub adds_end : length s ≤ at → Tells whole (Ok (n + 3))
  unfolding lines_from lines_of
  adds_end h =
      let e : whole ≡ Made (so.fields ++ 90 ∷ 0 ∷ 0 ∷ []) = so.made ∙ rw (drop_of_length-le s h) refl in
      rw e (refl, omega (arith, length-append so.fields (90 ∷ 0 ∷ 0 ∷ []), so.size))
