-- A program that reads no more than 60,001 bytes of a longer input judges and lists all of it: the rest cannot matter.
-- Assumes nothing.
use Rattle.std.specs.Prelude.{ℕ, ◌<◌, suc, ◌≡◌, List, length, take}
use Rattle.std.proofs.Common.{sym, ap, ◌∙◌, arith, lt-ltb, length-take-le}
use Rattle.rules.specs.Limits.{longest_book}
use Rattle.rules.specs.Refusal as refusal
use Rattle.rules.specs.Book.{Refused, judge}
use Rattle.rules.specs.Report.{listing, listing_of}

too_long : (s : List ℕ) → longest_book < length s → judge s ≡ Refused refusal.too_long 0
unfolding judge
too_long s h = simp (lt-ltb longest_book (length s) h)

pub judge_cut : (s : List ℕ) → longest_book < length s → judge (take (suc longest_book) s) ≡ judge s
judge_cut s h = too_long (take (suc longest_book) s) (rw (length-take-le (suc longest_book) s (omega arith)) (omega arith)) ∙ sym (too_long s h)

pub listing_cut : (s : List ℕ) → longest_book < length s → listing (take (suc longest_book) s) ≡ listing s
unfolding listing
listing_cut s h = ap listing_of (judge_cut s h)
