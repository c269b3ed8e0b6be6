-- A value of one byte, and one of another length, against two letters.
-- Assumes nothing.
use Prim.Native.Nat.{ℕ, ◌<◌}
use mathlib.Core.Path.{◌≡◌, refl}
use mathlib.Core.List.{List, [], ◌∷◌}
use mathlib.Core.Bool.{Bool, true, false, cond, ◌&&◌}
use lib.ListN.{length, take, drop, get_or}
use lib.Seq.{drop-cons}
use lib.Dec.{eqb}
use Rattle.rules.specs.Refusal as refusal
use Rattle.terms.specs.declared.LetterAt.TheVariants.{Chosen}
use Rattle.terms.specs.declared.LetterAt.TheVariants.{Refused as NoLetter}
use Rattle.fields.specs.Reading.{refused_at}
use Rattle.terms.specs.Terms.{letter_at_of}

-- another length is neither
pub letter_long : (at a b e : ℕ) (v : List ℕ) → (length v ≡ 1 → ⊥) → letter_at_of at a b e v ≡ NoLetter (refused_at refusal.malformed at)
letter_long at a b e [] h = refl
letter_long at a b e (x ∷ []) h = absurd (h refl)
letter_long at a b e (x ∷ y ∷ v) h = go (eqb x a) (eqb x b)
  where
    go : (p q : Bool) → cond (p && false) (Chosen true e) (cond (q && false) (Chosen false e) (NoLetter (refused_at refusal.malformed at))) ≡ NoLetter (refused_at refusal.malformed at)
    go true true = refl
    go true false = refl
    go false true = refl
    go false false = refl

-- one byte is compared
pub letter_one : (at a b e : ℕ) (s : List ℕ) (start : ℕ) → start < length s →
    letter_at_of at a b e (take 1 (drop start s)) ≡ cond (eqb (get_or s start 0) a) (Chosen true e) (cond (eqb (get_or s start 0) b) (Chosen false e) (NoLetter (refused_at refusal.malformed at)))
letter_one at a b e s start h = rw (drop-cons s start 0 h) (go (eqb (get_or s start 0) a) (eqb (get_or s start 0) b))
  where
    go : (p q : Bool) →
        cond (p && true) (Chosen true e) (cond (q && true) (Chosen false e) (NoLetter (refused_at refusal.malformed at)))
        ≡ cond p (Chosen true e) (cond q (Chosen false e) (NoLetter (refused_at refusal.malformed at)))
    go true q = refl
    go false true = refl
    go false false = refl
