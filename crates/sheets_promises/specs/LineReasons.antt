-- Why a line is refused, and which line of some is the first, both ways, in the request's words.
-- Assumes nothing.
use Rattle.std.specs.Prelude.{ℕ, suc, ◌↔◌, ◌≡◌, true, false}
use Rattle.std.proofs.Math.Path.{refl}
use mathlib.Core.List.{List, [], ◌∷◌, ◌++◌}
use Rattle.std.proofs.Common.{arith}
use Rattle.rules.specs.Book.{Step, Stop, Next}
use Rattle.days.specs.Lines.{Line, Whole, Cut}
use Rattle.sheets.specs.Line.{parts_of, line_of}
use Rattle.sheets.specs.Read.{Bad, Made, lines_from}
use Rattle.sheets_promises.specs.Forms.{formed, figures_of, stray_in, Says, no_form, a_stray, good, line_says}

-- ---- a line

-- its form is not good; the other mark stands in one of its figures
abbrev pub Unformed : List ℕ → Type 0
Unformed v = formed (parts_of v) ≡ false

abbrev pub Strays : ℕ → List ℕ → Type 0
Strays m v = (formed (parts_of v) ≡ true) × (stray_in m (figures_of (parts_of v)) ≡ true)

abbrev pub GoodLine : ℕ → List ℕ → Type 0
GoodLine m v = (formed (parts_of v) ≡ true) × (stray_in m (figures_of (parts_of v)) ≡ false)

no : {G : Type 0} → ◌≡◌ {A = ℕ} 0 1 → G
no e = absurd (omega arith)

module _ (m : ℕ) (v : List ℕ) where
  pub line_22 : (line_of m v ≡ Stop 22) ↔ Unformed v
  line_22 = go (line_of m v) (line_says m v)
    where
      go : (r : Step (List ℕ)) → Says m (parts_of v) r → (r ≡ Stop 22) ↔ Unformed v
      go r (no_form h) = (λ e. h, λ k. refl)
      go r (a_stray g s) = (λ e. no (cc), λ k. no (cc))
      go r (good g s) = (λ e. no (cc), λ k. no (cc))

  pub line_21 : (line_of m v ≡ Stop 21) ↔ Strays m v
  line_21 = go (line_of m v) (line_says m v)
    where
      go : (r : Step (List ℕ)) → Says m (parts_of v) r → (r ≡ Stop 21) ↔ Strays m v
      go r (no_form h) = (λ e. no (cc), λ k. no (cc))
      go r (a_stray g s) = (λ e. (g, s), λ k. refl)
      go r (good g s) = (λ e. no (cc), λ k. no (cc))

  pub line_good : ((f : List ℕ) × (line_of m v ≡ Next f)) ↔ GoodLine m v
  line_good = go (line_of m v) (line_says m v)
    where
      go : (r : Step (List ℕ)) → Says m (parts_of v) r → ((f : List ℕ) × (r ≡ Next f)) ↔ GoodLine m v
      go r (no_form h) = (λ e. let k = e.1 in no (cc), λ k. no (cc))
      go r (a_stray g s) = (λ e. let k = e.1 in no (cc), λ k. no (cc))
      go r (good {f = f} g s) = (λ e. (g, s), λ k. (f, refl))

-- ---- lines

-- "the first bad line decides, its place its number": of lines that begin with number k, line p is the first that is not good, for the reason n
pub data BadAt (m : ℕ) : ℕ → List Line → ℕ → ℕ → Type 0 where
  no_feed : {k : ℕ} {v : List ℕ} {ls : List Line} → BadAt m k (Cut v ∷ ls) 22 k
  unformed : {k : ℕ} {v : List ℕ} {ls : List Line} → Unformed v → BadAt m k (Whole v ∷ ls) 22 k
  strays : {k : ℕ} {v : List ℕ} {ls : List Line} → Strays m v → BadAt m k (Whole v ∷ ls) 21 k
  later : {k n p : ℕ} {v : List ℕ} {ls : List Line} → GoodLine m v → BadAt m (suc k) ls n p → BadAt m k (Whole v ∷ ls) n p

-- every line is whole and good
abbrev pub AllGoodLines : ℕ → List Line → Type 0
AllGoodLines m [] = Unit
AllGoodLines m (Cut v ∷ ls) = ⊥
AllGoodLines m (Whole v ∷ ls) = GoodLine m v × AllGoodLines m ls

module _ (m : ℕ) where
  pub bad_says : {k n p : ℕ} {ls : List Line} → BadAt m k ls n p → lines_from m k ls ≡ Bad n p
  unfolding lines_from
  bad_says no_feed = refl
  bad_says (unformed {v = v} h) = rw ((line_22 m v).1 h)
  bad_says (strays {v = v} h) = rw ((line_21 m v).1 h)
  bad_says (later {v = v} h x) = rw (((line_good m v).1 h).1, bad_says x)

  pub good_says : (k : ℕ) (ls : List Line) → AllGoodLines m ls → (b : List ℕ) × (lines_from m k ls ≡ Made b)
  unfolding lines_from
  good_says k [] h = (_, refl)
  good_says k (Cut v ∷ ls) h = absurd h
  good_says k (Whole v ∷ ls) h = let (f, e) = (line_good m v).1 h.0 in let (b, g) = good_says (suc k) ls h.1 in (f ++ b, rw (e, g))

  -- one or the other
  pub data Told (k : ℕ) (ls : List Line) : Type 0 where
    first_bad : {n p : ℕ} → BadAt m k ls n p → Told k ls
    all_good : AllGoodLines m ls → Told k ls

  pub told : (k : ℕ) (ls : List Line) → Told k ls
  told k [] = all_good tt
  told k (Cut v ∷ ls) = first_bad no_feed
  told k (Whole v ∷ ls) = go (line_of m v) (line_says m v) (told (suc k) ls)
    where
      go : (r : Step (List ℕ)) → Says m (parts_of v) r → Told (suc k) ls → Told k (Whole v ∷ ls)
      go r (no_form h) x = first_bad (unformed h)
      go r (a_stray g s) x = first_bad (strays (g, s))
      go r (good g s) (first_bad x) = first_bad (later (g, s) x)
      go r (good g s) (all_good x) = all_good ((g, s), x)
