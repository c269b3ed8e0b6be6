-- Codes may be replaced by keys. The division asks of two codes only which is the smaller, so lines whose codes are each replaced by a
-- number in the same order are worked alike; and a tier keeps every code, so the order lasts through the three tiers.
-- Assumes nothing.
use Rattle.std.specs.Prelude.{ℕ, ◌≡◌, refl, Bool, true, false, ◌&&◌, ◌||◌, ltb, eqb}
use Rattle.std.proofs.Math.Path.{sym}
use Rattle.std.proofs.Common.{ap, ◌∙◌}
use mathlib.Core.List.Memᴰ
use mathlib.Core.List.{List, [], ◌∷◌, map, map-map, Memᴰ}
use Rattle.rules.specs.Codes.{smaller}
use Rattle.rules.specs.Division.{share}
use Rattle.rules.specs.Cascade.{Line, Outcome, code_of, pending_of, offered_in, quantity, after, tier, cascade}
use Rattle.laws.specs.Sums.{sum-map}
use Rattle.laws.specs.Division.{share_along}

-- a line with a key for its code, and without its seats, which the cascade does not look at
abbrev pub recode : (List ℕ → ℕ) → Line → Line
recode key l = record { code = key l.code ∷ []; seats = []; standing = l.standing; offered = l.offered; pending = l.pending; offset = l.offset }

-- the keys of some lines are in order as their codes are
abbrev pub InOrder : (List ℕ → ℕ) → List Line → Type 0
InOrder key ls = (l m : Line) → Memᴰ l ls → Memᴰ m ls → smaller l.code m.code ≡ ltb (key l.code) (key m.code)

pub smaller_one : (a b : ℕ) → smaller (a ∷ []) (b ∷ []) ≡ ltb a b
smaller_one a b = go (ltb a b) (eqb a b)
  where
    go : (p q : Bool) → (p || q && false) ≡ p
    go true q = refl
    go false true = refl
    go false false = refl

pub map_cong : {A B : Type 0} (f g : A → B) (l : List A) → ((a : A) → Memᴰ a l → f a ≡ g a) → map f l ≡ map g l
map_cong f g [] h = refl
map_cong f g (a ∷ l) h = rw (h a (Memᴰ.head refl), map_cong f g l (λ b m. h b (Memᴰ.tail m)))

module _ (key : List ℕ → ℕ) (k : ℕ) (ls : List Line) where
  pub quantity_recode : quantity k (map (recode key) ls) ≡ quantity k ls
  unfolding quantity
  quantity_recode = rw (sum-map pending_of (recode key) ls, sum-map (offered_in k) (recode key) ls)

  pub order_after : InOrder key ls → InOrder key (tier k ls)
  unfolding after
  order_after h l m p q =
      let a = Memᴰ.of_map (after k ls) ls p in
      let b = Memᴰ.of_map (after k ls) ls q in
      rw (sym (ap code_of a.2), sym (ap code_of b.2)) (h a.0 b.0 a.1 b.1)

  module _ (h : InOrder key ls) where
    share_recode : (weight : Line → ℕ) → ((l : Line) → weight (recode key l) ≡ weight l) → (x : ℕ) (l : Line) → Memᴰ l ls →
        share code_of weight x (map (recode key) ls) (recode key l) ≡ share code_of weight x ls l
    share_recode weight agree x l m =
        share_along code_of weight code_of weight (recode key) ls (λ b _. agree b) (λ b c p q. smaller_one (key b.code) (key c.code) ∙ sym (h b c p q)) x l m

    after_recode : (l : Line) → Memᴰ l ls → after k (map (recode key) ls) (recode key l) ≡ recode key (after k ls l)
    unfolding after
    after_recode l m =
        rw (quantity_recode, share_recode (offered_in k) (λ b. refl) (quantity k ls) l m, share_recode pending_of (λ b. refl) (quantity k ls) l m)

    pub tier_recode : tier k (map (recode key) ls) ≡ map (recode key) (tier k ls)
    tier_recode = rw (map-map, map-map) (map_cong _ _ ls after_recode)

-- an outcome's lines with keys for codes
abbrev pub recode_all : (List ℕ → ℕ) → Outcome → Outcome
recode_all key o = record { total = o.total; residue = o.residue; lines = map (recode key) o.lines }

pub cascade_recode : (key : List ℕ → ℕ) (ls : List Line) → InOrder key ls → cascade (map (recode key) ls) ≡ recode_all key (cascade ls)
unfolding cascade
cascade_recode key ls h =
    let second = order_after key 1 ls h in
    let third = order_after key 2 (tier 1 ls) second in
    rw (quantity_recode key 1 ls, tier_recode key 1 ls h, quantity_recode key 2 (tier 1 ls), tier_recode key 2 (tier 1 ls) second, quantity_recode key 3 (tier 2 (tier 1 ls)), tier_recode key 3 (tier 2 (tier 1 ls)) third, sum-map pending_of (recode key) ls)
