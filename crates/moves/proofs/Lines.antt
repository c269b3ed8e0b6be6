-- The lines of a listing.
-- Assumes nothing.
use Prim.Native.Nat.{ℕ, suc, ◌+◌, ◌/◌, ◌≤◌}
use mathlib.Core.Path.{◌≡◌, refl, sym, ap, ◌∙◌}
use mathlib.Core.Bool.{Bool}
use mathlib.Core.List.{List, [], ◌∷◌, ◌++◌}
use native.Mathlib.Omega.{arith}
use borrow.Author.Tests.{eq-eqb, ne_eqb}
use lib.ListN.{length, length-append}
use Rattle.rules.specs.Text.{bytes}
use Rattle.rules.specs.Report.{digits}
use Rattle.writing.specs.Written.{Wrote}
use Rattle.intake.specs.Rolled.{lines_by}
use Rattle.watch.specs.Moves.{is_set, word, kind, day_line, day_lines, listed}
use Rattle.moves.specs.Sizes.{listing_room, listed_short}

pub word_met : (name : List ℕ) (d : ℕ) {b c : Bool} → b ≡ c → word b name d ≡ word c name d
word_met name d e = ap (λ (x : Bool). word x name d) e

-- how long the spans of one kind are, and the line of a day
pub kind_size : (name : List ℕ) (b : ℕ) → length (kind name b) ≡ length (word (is_set 1 b) name 51) + length (word (is_set 2 b) name 52) + length (word (is_set 4 b) name 53)
unfolding kind
kind_size name b = simp length-append

pub no_line : (k b : ℕ) → b ≡ 0 → [] ≡ day_line k b
unfolding day_line
no_line k b e = sym (simp (eq-eqb b 0 e))

pub line_of : (k b : ℕ) → (b ≡ 0 → ⊥) → digits k ++ kind (bytes " price") b ++ kind (bytes " open") (b / 8) ++ bytes "\n" ≡ day_line k b
unfolding day_line
line_of k b h = sym (simp (ne_eqb b 0 h))

pub line_size : (k b : ℕ) → (b ≡ 0 → ⊥) → length (day_line k b) ≡ length (digits k) + length (kind (bytes " price") b) + length (kind (bytes " open") (b / 8)) + 1
line_size k b h = ap length (sym (line_of k b h)) ∙ simp length-append

-- the lines of the days, by their bytes
pub lines_same : (k : ℕ) (bs : List ℕ) → lines_by day_line k bs ≡ day_lines k bs
lines_same k [] = refl
lines_same k (b ∷ bs) = ap (λ (l : List ℕ). day_line k b ++ l) (lines_same (suc k) bs)

pub listed_size : (bs : List ℕ) → length (listed bs) ≡ 6 + length (digits (length bs)) + length (day_lines 1 bs)
unfolding listed
listed_size bs = simp length-append (omega arith)

pub listed_joined : (bs : List ℕ) {a b : List ℕ} {r : ℕ} → Wrote 0 (bytes "days " ++ digits (length bs) ++ bytes "\n" ++ day_lines 1 bs) a b r → Wrote 0 (listed bs) a b r
unfolding listed
listed_joined bs w = w

-- all of it fits
pub listing_fits : (bs out : List ℕ) → length bs ≤ 2_000 → listing_room ≤ length out → 6 + length (digits (length bs)) + length (lines_by day_line 1 bs) ≤ length out
listing_fits bs out few room = omega (arith, ap length (lines_same 1 bs), listed_short bs few, listed_size bs)
