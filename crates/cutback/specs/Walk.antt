-- What the walk over the codes of the seats answers, one code after the other, and what is judged of all.
-- Assumes nothing.
use Rattle.std.specs.Prelude.{ℕ, min, true, false, cond, ◌≡◌, List, map, length, take, set, ltb, Option, Some, None, Result, Ok, Err}
use Rattle.laws.specs.Keys.{key_of}
use Rattle.laws.specs.Sums.{up_to}
use Rattle.cutback.specs.declared.refusal.CutRule.{CutRule}
use Rattle.cutback.specs.declared.refusal.CutRule.TheVariants.{Unknown, BadGrams, BadCode, BadCount}
use Rattle.cutback.specs.Judge.{Refused, Cut, number_of, codes_bad, grams_bad, count_bad, judge}
use Rattle.cutback.specs.Keyed.{cut_at, Held}

-- the keys with one more, where it is among the first four
abbrev pub kept : ℕ → ℕ → List ℕ → List ℕ
kept count key keys = cond (ltb count 4) (set keys count key) keys

-- no code is malformed or twice; how many there are, and the keys of the first four
pub record Sound (all : List (List ℕ)) (keys : List ℕ) (count : ℕ) : Type 0 where
  pub good : codes_bad all ≡ false
  pub counted : count ≡ length all
  pub keyed : take (min 4 count) keys ≡ take 4 (map key_of all)

abbrev pub Counted : List (List ℕ) → List ℕ → Option ℕ → Type 0
Counted all keys None = codes_bad all ≡ true
Counted all keys (Some count) = Sound all keys count

-- the rules before 44, where the limit and the number of codes are known or not
abbrev pub early : Option ℕ → ℕ → Option ℕ → ℕ → Result (ℕ × ℕ) CutRule
early None grams codes lots = Err Unknown
early (Some tons) grams None lots = Err (cond (grams_bad grams) BadGrams BadCode)
early (Some tons) grams (Some codes) lots =
    cond (grams_bad grams) (Err BadGrams) (
    cond (ltb codes lots) (Err BadCode) (
    cond (count_bad codes) (Err BadCount) (Ok (tons, codes))))

-- the rule that is broken; or the lots held above what may stay, which are cut by the keys
abbrev pub Judged : List ℕ → List ℕ → ℕ → List (List ℕ) → List ℕ → List ℕ → Result ℕ CutRule → Type 0
Judged kind metal grams codes lots keys (Err rule) = judge kind metal grams codes lots ≡ Refused (number_of rule)
Judged kind metal grams codes lots keys (Ok over) = Held keys lots × (judge kind metal grams codes lots ≡ Cut (map (cut_at keys lots over) (up_to (length lots))))
