-- What the order of stamps says of the definitions. A trade that is read is put among those held, so that a customer whose trades stand in the
-- book in some order holds them arranged. What they open is a sum, and does not see the order.
-- Assumes nothing.
use Rattle.std.specs.Prelude.{ℕ, ◌≤◌, ◌≡◌, refl, List, [], ◌∷◌, Bool, cond, ltb}
use Rattle.std.proofs.Common.{sym, ap, ◌∙◌, arith}
use Rattle.rules.specs.declared.Trade.{Trade}
use Rattle.rules.specs.Opening.{among}
use Rattle.rules.specs.Book.{opened}
use Rattle.rules.specs.Division.{sum_of}
use Rattle.laws.specs.ByTest.{by_test}
use Rattle.laws.specs.Gains.{lots_on, Priced, none, more}
use Rattle.order.specs.Order.{in_front, placed, arranged}
use Rattle.order.specs.Sums.{sum_arranged}

-- when a trade was made, as a number
abbrev pub when : Trade → ℕ
when t = t.stamp.0

pub among_placed : (t : Trade) (us : List Trade) → among t us ≡ placed when t us
among_placed t [] = refl
among_placed t (u ∷ us) = ap (λ (l : List Trade). cond (ltb (when t) (when u)) (u ∷ l) (t ∷ u ∷ us)) (among_placed t us)

-- what is held after reading trades, the oldest place first, where some were held before
abbrev pub reading : List Trade → List Trade → List Trade
reading [] held = held
reading (t ∷ ts) held = reading ts (among t held)

pub among_arranged : (t : Trade) (ts : List Trade) → among t (arranged when ts) ≡ arranged when (t ∷ ts)
unfolding arranged
among_arranged t ts = among_placed t (arranged when ts)

pub reading_arranged : (ts before : List Trade) → reading ts (arranged when before) ≡ arranged when (in_front ts before)
reading_arranged [] before = refl
reading_arranged (t ∷ ts) before = ap (reading ts) (among_arranged t before) ∙ reading_arranged ts (t ∷ before)

module _ (long : Bool) where
  pub opened_sum : (ts : List Trade) → opened long ts ≡ sum_of (lots_on long) ts
  opened_sum [] = refl
  opened_sum (t ∷ ts) = omega (arith, opened_sum ts)

  pub opened_arranged : (ts : List Trade) → opened long (arranged when ts) ≡ opened long ts
  opened_arranged ts = opened_sum (arranged when ts) ∙ sum_arranged when (lots_on long) ts ∙ sym (opened_sum ts)

-- prices and lots stay in their range
pub priced_among : (t : Trade) {us : List Trade} → t.price.0 ≤ 9_999_999 → t.lots.0 ≤ 1_000_000 → Priced us → Priced (among t us)
priced_among t p l none = more p l none
priced_among t p l (more {t = u} q m h) =
    by_test (ltb (when t) (when u)) (λ e. rw e (more q m (priced_among t p l h))) (λ e. rw e (more p l (more q m h)))
