-- Why a sheet is refused, both ways: specs/Reasons.antt has the reasons. The theorems stand here, and not beside them, since edits of
-- must-fail/ change a reason.
-- Assumes nothing.
use Rattle.std.specs.Prelude.{ℕ, ◌↔◌, ◌≡◌, length}
use Rattle.std.proofs.Common.{sym, subst, ◌∙◌, lt-ltb, le-ltb}
use mathlib.Core.List.{List}
use Rattle.rules.specs.Limits.{longest_book}
use Rattle.days.specs.Lines.{lines_of}
use Rattle.sheets.specs.Read.{Bad, Made, sheet_from, read}
use Rattle.sheets_promises.specs.Heads.{Head, marked, unmarked, head}
use Rattle.sheets_promises.specs.LineReasons.{bad_says}
use Rattle.sheets_promises.specs.SheetBack.{bad_not}
use Rattle.sheets_promises.specs.Reasons.{Reason, too_long, no_mark, bad_line, GoodSheet, reads_lines, makes, Verdict, refused, taken, verdict}

module _ (s : List ℕ) where
  pub refuses : {n p : ℕ} → Reason s n p → read s ≡ Bad n p
  unfolding read
  refuses (too_long h) = rw (lt-ltb longest_book (length s) h)
  refuses (no_mark h n) = rw (le-ltb longest_book (length s) h) (go (head s))
    where
      go : Head s → sheet_from (lines_of s) ≡ Bad 20 1
      go (marked x) = absurd (n x)
      go (unmarked z e) = e
  refuses (bad_line h x b) = reads_lines s h x ∙ bad_says x.mark b

  -- "Refusals .. with the line's number as place": each exactly where there is its reason, and a book exactly where there is none
  pub refused_because : (n p : ℕ) → (read s ≡ Bad n p) ↔ Reason s n p
  refused_because n p = (go (verdict s), refuses)
    where
      go : Verdict s → read s ≡ Bad n p → Reason s n p
      go (refused {n = a} {p = b} x) e =
          let q : Bad a b ≡ Bad n p = sym (refuses x) ∙ e in
          let number : a ≡ n = cc in
          let place : b ≡ p = cc in
          subst (λ (j : ℕ). Reason s n j) place (subst (λ (i : ℕ). Reason s i b) number x)
      go (taken g) e = bad_not (sym e ∙ (makes s g).1)

  pub made_because : ((b : List ℕ) × (read s ≡ Made b)) ↔ GoodSheet s
  made_because = (go (verdict s), makes s)
    where
      go : Verdict s → ((b : List ℕ) × (read s ≡ Made b)) → GoodSheet s
      go (refused x) e = bad_not (sym (refuses x) ∙ e.1)
      go (taken g) e = g
