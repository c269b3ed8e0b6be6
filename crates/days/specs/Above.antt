-- No list is refused with 0.
-- Assumes nothing.
use Rattle.std.specs.Prelude.{ℕ, ◌<◌, ◌≡◌, Bool, true, false, cond, List, [], ◌∷◌, ltb}
use Rattle.std.proofs.Common.{arith}
use Rattle.rules.specs.Text.{bytes}
use Rattle.rules.specs.Codes.{same}
use Rattle.laws.specs.ByTest.{by_test}
use Rattle.days.specs.declared.Metal.{Metal}
use Rattle.days.specs.declared.Metal.TheVariants.{Gold, Silver}
use Rattle.days.specs.declared.refusal.ListRule.{ListRule}
use Rattle.days.specs.declared.refusal.ListRule.TheVariants.{TooManyDays, Zero, OtherMark, NoDay}
use Rattle.days.specs.Refusal.{number_of}
use Rattle.days.specs.Lines.{Line, Whole, Cut, lines_of}
use Rattle.days.specs.Listed.{Days, All, Stop, Refused, days_from, of_metal, no_list, list_of, verdict_of}

-- no rule has it
pub number_above : (rule : ListRule) → 0 < number_of rule
number_above TooManyDays = omega arith
number_above Zero = omega arith
number_above OtherMark = omega arith
number_above NoDay = omega arith

refused_same : {m n k l : ℕ} → Refused m k ≡ Refused n l → m ≡ n
refused_same e = cc

metal_above : (metal : Metal) (r : Days) (n place : ℕ) → of_metal metal r ≡ Refused n place → 0 < n
metal_above metal (All ds) n place h = cc
metal_above metal (Stop rule k) n place h = omega (arith, refused_same h, number_above rule)

list_above : (long : Bool) (ls : List Line) (n place : ℕ) → list_of long ls ≡ Refused n place → 0 < n
unfolding list_of
list_above long [] n place h = omega (arith, refused_same h)
list_above long (Cut v ∷ ls) n place h = omega (arith, refused_same h)
list_above long (Whole v ∷ ls) n place h = go (same v (bytes "gold")) (same v (bytes "silver")) h
  where
    go : (a b : Bool) → cond a (of_metal Gold (days_from long 1 ls)) (cond b (of_metal Silver (days_from long 1 ls)) no_list) ≡ Refused n place → 0 < n
    go true b e = metal_above Gold (days_from long 1 ls) n place e
    go false true e = metal_above Silver (days_from long 1 ls) n place e
    go false false e = omega (arith, refused_same e)

pub refused_above : (long : Bool) (total : ℕ) (s : List ℕ) (n place : ℕ) → verdict_of long total s ≡ Refused n place → 0 < n
unfolding verdict_of
refused_above long total s n place = by_test (ltb 2_001 total)
    (λ b h. omega (arith, refused_same (simp b at h)))
    (λ b h. list_above long (lines_of s) n place (simp b at h))
