-- An accepted list has at most 2,000 days: each is a line with its line feed, and so is the first line.
-- Assumes nothing.
use Rattle.std.specs.Prelude.{ℕ, suc, ◌≤◌, ◌≡◌, refl, Bool, true, false, cond, List, [], ◌∷◌, length, ltb, Result, Ok, Err}
use Rattle.std.proofs.Common.{ap, ◌∙◌, arith, ltb-false}
use Rattle.rules.specs.Text.{is, bytes}
use Rattle.rules.specs.Codes.{same}
use Rattle.laws.specs.ByTest.{by_test}
use Rattle.days.specs.declared.Metal.{Metal}
use Rattle.days.specs.declared.Metal.TheVariants.{Gold, Silver}
use Rattle.days.specs.declared.Day.{Day}
use Rattle.days.specs.declared.refusal.ListRule.{ListRule}
use Rattle.days.specs.Lines.{Line, Whole, Cut, longer, lines_of, feeds}
use Rattle.days.specs.Day.{day_of}
use Rattle.days.specs.Listed.{Days, All, Stop, Accepted, before, first_of, days_from, of_metal, no_list, list_of, verdict_of}

-- the lines that have their line feed
abbrev pub wholes : List Line → ℕ
wholes [] = 0
wholes (Whole v ∷ ls) = suc (wholes ls)
wholes (Cut v ∷ ls) = wholes ls

wholes_longer : (x : ℕ) (ls : List Line) → wholes (longer x ls) ≡ wholes ls
wholes_longer x [] = refl
wholes_longer x (Whole v ∷ ls) = refl
wholes_longer x (Cut v ∷ ls) = refl

pub wholes_feeds : (s : List ℕ) → wholes (lines_of s) ≡ feeds s
unfolding lines_of
wholes_feeds [] = refl
wholes_feeds (x ∷ s) =
    by_test (is "\n" x)
    (λ e. simp e (ap suc (wholes_feeds s)))
    (λ e. simp e (wholes_longer x (lines_of s) ∙ wholes_feeds s))

differ : {A : Type 0} → ◌≡◌ {A = ℕ} 0 1 → A
differ e = absurd (omega arith)

before_few : (d : Day) (r : Days) (ds : List Day) (n : ℕ) → before d r ≡ All ds → ((es : List Day) → r ≡ All es → length es ≤ n) → length ds ≤ suc n
before_few d (All es) ds n h few = let e : d ∷ es ≡ ds = cc in omega (arith, few es refl, ap length e)
before_few d (Stop m place) ds n h few = differ (cc)

first_few : (r : Result Day ListRule) (k : ℕ) (rest : Days) (ds : List Day) (n : ℕ) → first_of r k rest ≡ All ds → ((es : List Day) → rest ≡ All es → length es ≤ n) → length ds ≤ suc n
first_few (Err m) k rest ds n e few = differ (cc)
first_few (Ok d) k rest ds n e few = before_few d rest ds n e few

pub days_few : (long : Bool) (k : ℕ) (ls : List Line) (ds : List Day) → days_from long k ls ≡ All ds → length ds ≤ wholes ls
unfolding days_from
days_few long k [] ds h = let e : [] ≡ ds = cc in omega (arith, ap length e)
days_few long k (Cut v ∷ ls) ds h = differ (cc)
days_few long k (Whole v ∷ ls) ds h = first_few (day_of long v) k (days_from long (suc k) ls) ds (wholes ls) h (λ es q. days_few long (suc k) ls es q)

metal_few : (metal m : Metal) (r : Days) (ds : List Day) → of_metal metal r ≡ Accepted m ds → r ≡ All ds
metal_few metal m (All es) ds h = let e : es ≡ ds = cc in ap All e
metal_few metal m (Stop n place) ds h = differ (cc)

list_few : (long : Bool) (ls : List Line) (m : Metal) (ds : List Day) → list_of long ls ≡ Accepted m ds → suc (length ds) ≤ wholes ls
unfolding list_of
list_few long [] m ds h = differ (cc)
list_few long (Cut v ∷ ls) m ds h = differ (cc)
list_few long (Whole v ∷ ls) m ds h = go (same v (bytes "gold")) (same v (bytes "silver")) h
  where
    few : (metal : Metal) → of_metal metal (days_from long 1 ls) ≡ Accepted m ds → suc (length ds) ≤ suc (wholes ls)
    few metal e = omega (arith, days_few long 1 ls ds (metal_few metal m (days_from long 1 ls) ds e))

    go : (a b : Bool) → cond a (of_metal Gold (days_from long 1 ls)) (cond b (of_metal Silver (days_from long 1 ls)) no_list) ≡ Accepted m ds → suc (length ds) ≤ suc (wholes ls)
    go true b e = few Gold e
    go false true e = few Silver e
    go false false e = differ (cc)

-- where no line feed of the list is missing in the number of all
pub accepted_few : (long : Bool) (total : ℕ) (s : List ℕ) (m : Metal) (ds : List Day) → feeds s ≤ total → verdict_of long total s ≡ Accepted m ds → length ds ≤ 2_000
unfolding verdict_of
accepted_few long total s m ds least = by_test (ltb 2_001 total)
    (λ b h. differ (let q = simp b at h in cc))
    (λ b h. omega (arith, list_few long (lines_of s) m ds (simp b at h), wholes_feeds s, ltb-false 2_001 total b))
