-- docs/POSITION-LIMIT.md. Request [13], "Refusals: 40 unknown type or metal, 41 grams zero or above 1,000,000, 42 a seat code malformed or given
-- twice, 43 no seat or more than four, 44 a seat above 1,000,000 lots, in that order and with no cuts."
-- Assumes nothing.
use Rattle.std.specs.Prelude.{ℕ, Bool, false, cond, not, ◌||◌, List, [], ◌∷◌, length, ltb, eqb}
use Rattle.rules.specs.Codes.{is_code, same}
use Rattle.rules.specs.Answer.{Answer, fitted}
use Rattle.rules.specs.Answer.{refused as refused01}
use Rattle.cutback.specs.declared.refusal.CutRule.{CutRule}
use Rattle.cutback.specs.declared.refusal.CutRule.TheVariants.{Unknown, BadGrams, BadCode, BadCount, BadLots}
use Rattle.cutback.specs.Limit.{tons, may_stay}
use Rattle.cutback.specs.Seats.{seats_of, cuts_of}

abbrev pub unknown : ℕ
unknown = 40

abbrev pub bad_grams : ℕ
bad_grams = 41

abbrev pub bad_code : ℕ
bad_code = 42

abbrev pub bad_count : ℕ
bad_count = 43

abbrev pub bad_lots : ℕ
bad_lots = 44

-- the number of each rule, as code names it
abbrev pub number_of : CutRule → ℕ
number_of Unknown = unknown
number_of BadGrams = bad_grams
number_of BadCode = bad_code
number_of BadCount = bad_count
number_of BadLots = bad_lots

pub data Verdict : Type 0 where
  Refused : ℕ → Verdict
  Cut : List ℕ → Verdict

abbrev pub refuse : ℕ → Bool → Verdict → Verdict
refuse n bad next = cond bad (Refused n) next

-- "41 grams zero or above 1,000,000"
abbrev pub grams_bad : ℕ → Bool
grams_bad grams = eqb grams 0 || ltb 1_000_000 grams

-- "42 a seat code malformed or given twice": every seat given is looked at
abbrev pub again : List ℕ → List (List ℕ) → Bool
again c [] = false
again c (d ∷ ds) = same c d || again c ds

abbrev pub codes_bad : List (List ℕ) → Bool
codes_bad [] = false
codes_bad (c ∷ cs) = not (is_code c) || again c cs || codes_bad cs

-- "43 no seat or more than four"
abbrev pub count_bad : ℕ → Bool
count_bad n = eqb n 0 || ltb 4 n

-- "44 a seat above 1,000,000 lots"
abbrev pub lots_bad : List ℕ → Bool
lots_bad [] = false
lots_bad (n ∷ ns) = ltb 1_000_000 n || lots_bad ns

-- "in that order and with no cuts". Where there are more lots than codes a seat has no code, which is 42; where there are fewer, one has no lots,
-- which is 44.
unfoldable pub judge : List ℕ → List ℕ → ℕ → List (List ℕ) → List ℕ → Verdict
judge kind metal grams codes lots =
    refuse unknown (eqb (tons kind metal) 0) (
    refuse bad_grams (grams_bad grams) (
    refuse bad_code (codes_bad codes || ltb (length codes) (length lots)) (
    refuse bad_count (count_bad (length codes)) (
    refuse bad_lots (lots_bad lots || ltb (length lots) (length codes)) (
    Cut (cuts_of (may_stay kind metal grams) (seats_of codes lots)))))))

-- what a call answers: document 01's manner, with the cuts in the lent places; 11, fewer places than seats, is last
abbrev pub answer_of : ℕ → Verdict → Answer
answer_of room (Refused n) = refused01 n 0
answer_of room (Cut cuts) = fitted room cuts
