-- How long words are: a line is at most as long as the widest of its text, so that the words of every refusal fit 128 bytes.
-- Assumes nothing.
use Rattle.std.specs.Prelude.{ℕ, suc, ◌+◌, ◌-◌, ◌≤◌, ◌≡◌, List, [], ◌∷◌, length, eqb, ltb}
use Rattle.std.proofs.Common.{arith, length-append}
use Rattle.rules.specs.Text.{is}
use Rattle.rules.specs.Report.{digits}
use Rattle.laws.specs.ByTest.{by_test}
use Rattle.reasons.specs.Lines.{left_behind, behind_lines, first_line, line_of, widest_from}
use Rattle.reasons.specs.Reason.{leads, names, book, sheet, days, cuts, named, book_line, with_field, of_book, line_from, has_words, known, reason, why, said}

-- a line that has n bytes already
longer : (n : ℕ) (s : List ℕ) → n + length (first_line s) ≤ widest_from n s
longer n [] = omega arith
longer n (b ∷ s) = by_test (is "\n" b) (λ e. simp e (omega arith)) (λ e. simp e (omega (arith, longer (suc n) s)))

wider : (m n : ℕ) (s : List ℕ) → m ≤ n → widest_from m s ≤ widest_from n s
wider m n [] h = h
wider m n (b ∷ s) h = by_test (is "\n" b) (λ e. simp e (omega arith)) (λ e. simp e (wider (suc m) (suc n) s (omega arith)))

-- what stands behind lines has no wider line
past : (j n b : ℕ) (s : List ℕ) → ((m : ℕ) → widest_from 0 (behind_lines j s) ≤ widest_from m s) → widest_from 0 (behind_lines j s) ≤ widest_from n (b ∷ s)
past j n b s h = by_test (is "\n" b) (λ e. simp e (omega (arith, h 0))) (λ e. simp e (h (suc n)))

narrower : (k n : ℕ) (s : List ℕ) → widest_from 0 (behind_lines k s) ≤ widest_from n s
narrower k n [] = omega arith
narrower k n (b ∷ s) =
    by_test (eqb k 0) (λ e. simp e (wider 0 n (b ∷ s) (omega arith))) (λ e. simp e (past (left_behind k b) n b s (λ m. narrower (left_behind k b) m s)))

pub line_short : (k : ℕ) (s : List ℕ) → length (line_of k s) ≤ widest_from 0 s
unfolding line_of
line_short k s = omega (arith, longer 0 (behind_lines k s), narrower k 0 s)

pub with_length : (n f : ℕ) → length (with_field n f) ≡ length (line_of n leads) + length (line_of f names)
unfolding with_field
with_length n f = simp length-append

-- a buffer that the words of every refusal fit
abbrev pub words_room : ℕ
words_room = 128

pub of_book_short : (n f : ℕ) → length (of_book n f) ≤ words_room
unfolding of_book
of_book_short n f =
    by_test (named n f)
    (λ e. simp e (omega (arith, with_length n f, line_short n leads, line_short f names)))
    (λ e. simp e (omega (arith, line_short (book_line n f) book)))

known_short : (n place f : ℕ) → length (known n place f) ≤ words_room
unfolding known
known_short n place f =
    by_test (ltb n 20) (λ a. simp a (of_book_short n f)) (λ a.
    by_test (ltb n 30) (λ b. simp (a, b) (omega (arith, line_short (line_from 20 20 n place) sheet))) (λ b.
    by_test (ltb n 40) (λ c. simp (a, b, c) (omega (arith, line_short (line_from 30 33 n place) days))) (λ c.
    simp (a, b, c) (omega (arith, line_short (n - 40) cuts)))))

pub reason_short : (n place f : ℕ) → length (reason n place f) ≤ words_room
unfolding reason
reason_short n place f = by_test (has_words n) (λ e. simp e (known_short n place f)) (λ e. simp e (omega arith))

pub why_length : (n place f : ℕ) → length (why n place f) ≡ 3 + length (reason n place f)
why_length n place f = simp length-append (omega arith)

pub said_length : (program : List ℕ) (n place f : ℕ) →
    length (said program n place f) ≡ length program + 17 + length (digits n) + length (digits place) + length (reason n place f)
said_length program n place f = simp length-append (omega arith)
