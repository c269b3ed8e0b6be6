-- Why a sheet is refused, both ways: 1, 20, 21 and 22, each with its place, exactly where the request says, and a book is made exactly where there is
-- no reason. Every sheet has one of the reasons or is good, and each leads to its own answer: the theorems, in proofs/Refused.antt.
-- Assumes nothing.
use Rattle.std.specs.Prelude.{ℕ, ◌≤◌, ◌<◌, ◌≡◌, ltb, length}
use Rattle.std.proofs.Common.{ap, ◌∙◌, ltb-true, ltb-false, le-ltb}
use mathlib.Core.List.{List}
use Rattle.rules.specs.Limits.{longest_book}
use Rattle.days.specs.Lines.{lines_of}
use Rattle.laws.specs.ByTest.{by_test}
use Rattle.sheets.specs.Read.{Made, lines_from, sheet_from, read}
use Rattle.sheets_promises.specs.Heads.{MarkLine, Head, marked, unmarked, head, behind_mark}
use Rattle.sheets_promises.specs.LineReasons.{BadAt, AllGoodLines, good_says, Told, first_bad, all_good, told}

pub data Reason (s : List ℕ) : ℕ → ℕ → Type 0 where
  too_long : longest_book < length s → Reason s 1 0
  no_mark : length s ≤ longest_book → (MarkLine s → ⊥) → Reason s 20 1
  bad_line : {n p : ℕ} → length s ≤ longest_book → (x : MarkLine s) → BadAt x.mark 2 (lines_of x.rest) n p → Reason s n p

-- a sheet that is good
pub record GoodSheet (s : List ℕ) : Type 0 where
  pub short : length s ≤ longest_book
  pub head : MarkLine s
  pub lines : AllGoodLines head.mark (lines_of head.rest)

module _ (s : List ℕ) where
  pub reads_lines : length s ≤ longest_book → (x : MarkLine s) → read s ≡ lines_from x.mark 2 (lines_of x.rest)
  unfolding read
  reads_lines h x = rw (le-ltb longest_book (length s) h) (ap (λ (l : List ℕ). sheet_from (lines_of l)) x.whole ∙ behind_mark x.mark x.either x.rest)

  pub makes : GoodSheet s → (b : List ℕ) × (read s ≡ Made b)
  makes g = let (b, e) = good_says g.head.mark 2 (lines_of g.head.rest) g.lines in (b, reads_lines g.short g.head ∙ e)

  -- every sheet is the one or the other
  pub data Verdict : Type 0 where
    refused : {n p : ℕ} → Reason s n p → Verdict
    taken : GoodSheet s → Verdict

  pub verdict : Verdict
  verdict = by_test (ltb longest_book (length s)) (λ h. refused (too_long (ltb-true longest_book (length s) h))) (λ h. go (ltb-false longest_book (length s) h) (head s))
    where
      lines : length s ≤ longest_book → (x : MarkLine s) → Told x.mark 2 (lines_of x.rest) → Verdict
      lines h x (first_bad b) = refused (bad_line h x b)
      lines h x (all_good g) = taken (record { short = h; head = x; lines = g })

      go : length s ≤ longest_book → Head s → Verdict
      go h (marked x) = lines h x (told x.mark 2 (lines_of x.rest))
      go h (unmarked n e) = refused (no_mark h n)
