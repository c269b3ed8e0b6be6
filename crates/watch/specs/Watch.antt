-- docs/MOVES.md. Articles 12 and 13 of document 000, in the words of request [11]: on which days a span is met.
-- Assumes nothing.
use Rattle.std.specs.Prelude.{ℕ, zero, suc, ◌+◌, ◌-◌, ◌*◌, min, max, List, [], ◌∷◌, ◌++◌, map, Bool, false, cond, leb}
use Rattle.days.specs.declared.Metal.{Metal}
use Rattle.days.specs.declared.Day.{Day}
use Rattle.watch.specs.declared.table.Row.{Row}
use Rattle.watch.specs.Table.{rows_of}

-- a change is at least so many percent of what it is measured from: "reaching the figure exactly counts". No division
abbrev pub reaches : ℕ → ℕ → ℕ → Bool
reaches percent change base = leb (percent * base) (change * 100)

-- Article 12: "the cumulative price increase or decrease (N) .. reaches ..": "N = (P_t - P_0) / P_0 x 100%"
abbrev pub moved : ℕ → ℕ → ℕ → Bool
moved percent now base = reaches percent (max now base - min now base) base

-- Article 13: "the cumulative increase (M) in the size of open interest .. reaches ..": "M = (Q_t - Q_0) / Q_0 x 100%"
abbrev pub grown : ℕ → ℕ → ℕ → Bool
grown percent now base = reaches percent (now - base) base

-- a test of the day that stands so many days behind, where the days stand newest first; "one without its earlier days isn't"
abbrev pub back : ℕ → List Day → (Day → Bool) → Bool
back n [] test = false
back zero (d ∷ ds) test = test d
back (suc n) (d ∷ ds) test = back n ds test

-- "Each is measured from the day before the first counted day": a span of t days ends on the day itself, the newest, and its first day stands
-- t - 1 behind; the day before that stands t behind
abbrev pub price_met : List Day → Row → Bool
price_met [] row = false
price_met (d ∷ ds) row = back row.days (d ∷ ds) λ base. moved row.price d.price.0 base.price.0

abbrev pub interest_met : List Day → Row → Bool
interest_met [] row = false
interest_met (d ∷ ds) row = back row.days (d ∷ ds) λ base. grown row.interest d.interest.0 base.interest.0

-- "For each day name every span met": price3 price4 price5 open3 open4 open5, of the newest of some days
abbrev pub met_on : Metal → List Day → List Bool
met_on metal recent = map (price_met recent) (rows_of metal) ++ map (interest_met recent) (rows_of metal)

-- one byte, with a bit for each of them in that order from the lowest
abbrev pub byte_of : List Bool → ℕ
byte_of [] = 0
byte_of (b ∷ bs) = cond b 1 0 + 2 * byte_of bs

unfoldable pub spans_on : Metal → List Day → ℕ
spans_on metal recent = byte_of (met_on metal recent)

-- the bytes of some days, in their order; those before them stand newest first
abbrev pub spans_from : Metal → List Day → List Day → List ℕ
spans_from metal recent [] = []
spans_from metal recent (d ∷ ds) = spans_on metal (d ∷ recent) ∷ spans_from metal (d ∷ recent) ds

unfoldable pub spans : Metal → List Day → List ℕ
spans metal ds = spans_from metal [] ds
