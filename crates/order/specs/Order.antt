-- "Order is by day, then by minutes since 19:50 taken around the clock, then by place in the book": trades that are held by place, a later one
-- in front, are arranged by their stamps. Said once over what has a stamp, lots and a gain.
-- Assumes nothing.
use Rattle.std.specs.Prelude.{ℕ, ◌-◌, ◌≤◌, min, ◌≡◌, List, [], ◌∷◌, cond, ltb, leb, eqb, ℤ, pos, ◌+ℤ◌}
use Rattle.rules.specs.Division.{sum_of}

-- "newest first, until the lots counted equal the net position ... only the needed part of the last one counts"
unfoldable pub newest : {A : Type 0} → (A → ℕ) → (A → ℕ → ℤ) → ℕ → List A → ℤ
newest lots gain need [] = pos 0
newest lots gain need (t ∷ ts) = gain t (min (lots t) need) +ℤ newest lots gain (need - min (lots t) need) ts

-- reading puts each trade in front of those before it
abbrev pub in_front : {A : Type 0} → List A → List A → List A
in_front [] before = before
in_front (t ∷ ts) before = in_front ts (t ∷ before)

module _ {A : Type 0} (stamp : A → ℕ) where
  -- a trade read later goes before all of an equal or smaller stamp
  abbrev pub placed : A → List A → List A
  placed t [] = t ∷ []
  placed t (u ∷ us) = cond (ltb (stamp t) (stamp u)) (u ∷ placed t us) (t ∷ u ∷ us)

  -- newest first, where the trades are held by place, the latest first
  unfoldable pub arranged : List A → List A
  arranged [] = []
  arranged (t ∷ ts) = placed t (arranged ts)

  -- those of one stamp, in the order in which they are held
  abbrev pub of_stamp : ℕ → List A → List A
  of_stamp d [] = []
  of_stamp d (t ∷ ts) = cond (eqb (stamp t) d) (t ∷ of_stamp d ts) (of_stamp d ts)

  -- "so long as trades of equal day and minute keep their order": of each stamp the same trades, in the same order
  pub record Rearranged (ts us : List A) : Type 0 where
    pub same : (d : ℕ) → of_stamp d ts ≡ of_stamp d us

  -- none is newer than one that stands before it
  abbrev pub NoneNewer : ℕ → List A → Type 0
  NoneNewer d [] = Unit
  NoneNewer d (t ∷ ts) = (stamp t ≤ d) × NoneNewer d ts

  abbrev pub InOrder : List A → Type 0
  InOrder [] = Unit
  InOrder (t ∷ ts) = NoneNewer (stamp t) ts × InOrder ts

  module _ (lots : A → ℕ) where
    -- the lots of stamp e or later
    abbrev pub lots_from : ℕ → List A → ℕ
    lots_from e ts = sum_of (λ t. cond (leb e (stamp t)) (lots t) 0) ts

    -- the lots of stamp e
    abbrev pub lots_at : ℕ → List A → ℕ
    lots_at e ts = sum_of (λ t. cond (eqb (stamp t) e) (lots t) 0) ts

    -- the lots of a trade that count, where all later than e do, and of stamp e all but the first `left`
    abbrev pub kept_of : ℕ → ℕ → A → ℕ
    kept_of e left t = cond (ltb e (stamp t)) (lots t) (cond (eqb (stamp t) e) (lots t - left) 0)

    module _ (gain : A → ℕ → ℤ) where
      -- the gain of what counts, by place: all later than e, and of stamp e all but the first `skip` lots
      unfoldable pub kept_gain : ℕ → ℕ → List A → ℤ
      kept_gain e skip [] = pos 0
      kept_gain e skip (t ∷ ts) = kept_gain e skip ts +ℤ gain t (kept_of e (skip - lots_at e ts) t)
