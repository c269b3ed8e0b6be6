-- How long a listing is: a line of a day has at most 44 bytes, so that 2,000 of them and the first line fit 88,064.
-- Assumes nothing.
use Rattle.std.specs.Prelude.{ℕ, suc, ◌+◌, ◌*◌, ◌/◌, ◌≤◌, ◌<◌, Bool, true, false, List, [], ◌∷◌, length, eqb}
use Prim.Native.Char.{code}
use Rattle.std.proofs.Common.{arith, length-append}
use Rattle.rules.specs.Text.{bytes}
use Rattle.laws.specs.ByTest.{by_test}
use Rattle.laws.specs.Digits.{digits_length}
use Rattle.watch.specs.Moves.{is_set, word, kind, day_line, day_lines, listed}

-- a buffer that every listing fits
abbrev pub listing_room : ℕ
listing_room = 88_064

word_short : (met : Bool) (name : List ℕ) (d : ℕ) → length (word met name d) ≤ length name + 1
word_short true name d = simp length-append (omega arith)
word_short false name d = omega arith

kind_short : (name : List ℕ) (b : ℕ) → length (kind name b) ≤ 3 * (length name + 1)
unfolding kind
kind_short name b =
    simp length-append
    (omega (arith, word_short (is_set 1 b) name (code "3"), word_short (is_set 2 b) name (code "4"), word_short (is_set 4 b) name (code "5")))

day_short : (k b : ℕ) → k < 10_000 → length (day_line k b) ≤ 44
unfolding day_line
day_short k b h =
    by_test (eqb b 0)
    (λ e. simp e (omega arith))
    (λ e. simp (e, length-append) (omega (arith, digits_length 3 k (omega arith), kind_short (bytes " price") b, kind_short (bytes " open") (b / 8))))

lines_short : (k : ℕ) (bs : List ℕ) → k + length bs ≤ 10_000 → length (day_lines k bs) ≤ 44 * length bs
lines_short k [] h = omega arith
lines_short k (b ∷ bs) h = simp length-append (omega (arith, day_short k b (omega arith), lines_short (suc k) bs (omega arith)))

pub listed_short : (bs : List ℕ) → length bs ≤ 2_000 → length (listed bs) ≤ listing_room
unfolding listed
listed_short bs h = simp length-append (omega (arith, digits_length 3 (length bs) (omega arith), lines_short 1 bs (omega arith)))
