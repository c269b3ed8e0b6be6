-- A price and lots: what stands on the two sides of the first blank, and how long both may be.
-- Assumes nothing.
use Rattle.std.proofs.Common.{◌≡◌, ℕ, ◌<◌, ◌≤◌, Bool, true, false, cond, leb, List, ◌∷◌, length, sym, refl, ap, ◌∙◌, ap₂, arith, length-append, le-leb, leb-true}
use Prim.Native.Char.{code}
use mathlib.Core.Bool.{and-eq-true_iff}
use Rattle.rules.specs.declared.Written.{Written}
use Rattle.rules.specs.declared.Written.TheVariants.{Number, Comma, Malformed}
use Rattle.rules.specs.declared.Figure.{Figure}
use Rattle.rules.specs.declared.Figure.TheVariants.{Value}
use Rattle.rules.specs.declared.Figure.TheVariants.{Comma as CommaIn}
use Rattle.rules.specs.declared.Figure.TheVariants.{Malformed as NoFigure}
use Rattle.rules.specs.Figures.{price_form, traded_form, in_range, written_of, figure_of}
use Rattle.rules.specs.Opening.{up_to_blank, after_blank}
use Rattle.laws.specs.Figures.{figure_read}
use Rattle.figures.specs.declared.start.Start.TheVariants.{Ends}
use Rattle.figures.specs.declared.pair.Pair.TheVariants.{Both}
use Rattle.figures.specs.declared.pair.Pair.TheVariants.{Other as NoPair}
use Rattle.figures.specs.Starts.{start_of}
use Rattle.figures.specs.Pairs.{with_lots, both, pair_of}
use Rattle.figures.proofs.Blanks.{blank_inside, blank_before}
use Rattle.figures.proofs.Figures.{written_size, written_some, written_most, front_start}

pub record PairRead (f : List ℕ) (p d n : ℕ) : Type 0 where
  pub inside : length (up_to_blank f) < length f
  pub price : written_of (up_to_blank f) ≡ Number p d
  pub range : in_range (price_form d) p ≡ true
  pub lots : figure_of traded_form (after_blank f) ≡ Value n

-- what both sides say, by the definition
record Sides (w : Written) (l : Figure) (p d n : ℕ) : Type 0 where
  price : w ≡ Number p d
  range : in_range (price_form d) p ≡ true
  lots : l ≡ Value n

abbrev bad : {A : Type 0} → ◌≡◌ {A = ℕ} 0 1 → A
bad z = absurd (omega arith)

two : (w : Written) (l : Figure) (p d n : ℕ) → both w l ≡ Both p d n → Sides w l p d n
two (Number q x) l p d n h = go (in_range (price_form x) q) refl l h
  where
    go : (b : Bool) → in_range (price_form x) q ≡ b → (l : Figure) → cond b (with_lots q x l) NoPair ≡ Both p d n → Sides (Number q x) l p d n
    go true e (Value m) k =
        let price : q ≡ p = cc in
        let places : x ≡ d = cc in
        record { price = cc; range = ap (λ (i : ℕ). in_range (price_form d) i) (sym price) ∙ ap (λ (y : ℕ). in_range (price_form y) q) (sym places) ∙ e; lots = cc }
    go true e CommaIn k = bad (cc)
    go true e NoFigure k = bad (cc)
    go false e l k = bad (cc)
two Comma l p d n h = bad (cc)
two Malformed l p d n h = bad (cc)

-- lots have a blank before them
lots_some : (u : List ℕ) (n : ℕ) → figure_of traded_form u ≡ Value n → (1 ≤ length u) × (length u ≤ 7)
lots_some u n h =
    let w = (figure_read traded_form u n h).written in
    (written_some u n 0 w, (written_size u n 0 w).1 refl)

pub pair_read : (f : List ℕ) (p d n : ℕ) → pair_of f ≡ Both p d n → PairRead f p d n
pair_read f p d n h =
    let s = two (written_of (up_to_blank f)) (figure_of traded_form (after_blank f)) p d n h in
    record { inside = blank_before f (omega (arith, (lots_some (after_blank f) n s.lots).0)); price = s.price; range = s.range; lots = s.lots }

pub pair_sides :
    (f a b : List ℕ) (p d n : ℕ) → up_to_blank f ≡ a → after_blank f ≡ b → written_of a ≡ Number p d → in_range (price_form d) p ≡ true →
    figure_of traded_form b ≡ Value n → pair_of f ≡ Both p d n
pair_sides f a b p d n i j price range lots =
    ap₂ (λ (x y : List ℕ). both (written_of x) (figure_of traded_form y)) i j
    ∙ ap₂ both price lots
    ∙ ap (λ (c : Bool). cond c (Both p d n) NoPair) range

pub read_pair : (f : List ℕ) (p d n : ℕ) → PairRead f p d n → pair_of f ≡ Both p d n
read_pair f p d n r = pair_sides f (up_to_blank f) (after_blank f) p d n refl refl r.price r.range r.lots

missing : (w : Written) (l : Figure) → ((p d n : ℕ) → both w l ≡ Both p d n → ⊥) → both w l ≡ NoPair
missing (Number p d) l h = go (in_range (price_form d) p) refl l h
  where
    go : (b : Bool) → in_range (price_form d) p ≡ b → (l : Figure) → ((q x n : ℕ) → both (Number p d) l ≡ Both q x n → ⊥) → cond b (with_lots p d l) NoPair ≡ NoPair
    go true e (Value n) k = absurd (k p d n (ap (λ (b : Bool). cond b (Both p d n) NoPair) e))
    go true e CommaIn k = refl
    go true e NoFigure k = refl
    go false e l k = refl
missing Comma l h = refl
missing Malformed l h = refl

pub no_pair : (f : List ℕ) → ((p d n : ℕ) → PairRead f p d n → ⊥) → pair_of f ≡ NoPair
no_pair f h = missing (written_of (up_to_blank f)) (figure_of traded_form (after_blank f)) (λ p d n e. h p d n (pair_read f p d n e))

-- 8 bytes of a price, the blank, 7 bytes of lots
pub pair_short : (f : List ℕ) (p d n : ℕ) → PairRead f p d n → length f ≤ 16
pair_short f p d n r =
    let s = ap length (blank_inside f r.inside) ∙ length-append (up_to_blank f) (code " " ∷ after_blank f) in
    omega (arith, s, (written_size (up_to_blank f) p d r.price).0, (lots_some (after_blank f) n r.lots).1)

-- The price, by the figure at the start.

pub pair_start : (f : List ℕ) (p d n x y e : ℕ) → start_of f ≡ Ends x y e → PairRead f p d n → (x ≡ p) × (y ≡ d) × (e ≡ length (up_to_blank f))
pair_start f p d n x y e h r = let k = sym h ∙ front_start f p d r.inside r.price in (cc, cc, cc)

pub price_least : (p d : ℕ) → in_range (price_form d) p ≡ true → 1 ≤ p
price_least p d h = leb-true 1 p ((and-eq-true_iff (leb 1 p) (leb p 9_999_999)).0 h).0

pub price_in : (u : List ℕ) (p d : ℕ) → written_of u ≡ Number p d → 1 ≤ p → in_range (price_form d) p ≡ true
price_in u p d h k = simp (le-leb 1 p k, le-leb p 9_999_999 (written_most u p d h))
