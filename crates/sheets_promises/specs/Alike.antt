-- "a comma sheet and the point sheet of the same figures make the same book", over both marks: line by line they come to the same fields, and the sheets
-- are as long as each other.
-- Assumes nothing.
use Rattle.std.specs.Prelude.{ℕ, suc, ◌≤◌, ◌≡◌, true, false}
use Prim.Native.Char.{code}
use Rattle.std.proofs.Math.Path.{refl, ap}
use Rattle.std.proofs.Common.{◌∙◌, arith, le-ltb, length-append}
use mathlib.Core.List.{List, [], ◌∷◌, ◌++◌}
use Rattle.std.proofs.Math.ListN.{length}
use Rattle.rules.specs.Text.{bytes}
use Rattle.rules.specs.Limits.{longest_book}
use Rattle.rules.specs.Report.{joined}
use Rattle.days.specs.Lines.{Line, Whole, Cut, lines_of}
use Rattle.laws.specs.All2.{All2}
use Rattle.sheets.specs.Mark.{is_mark, respelled, stands_in}
use Rattle.sheets.specs.Line.{parts_of, line_of}
use Rattle.sheets.specs.Read.{Made, lines_from, read}
use Rattle.sheets.specs.Write.{mark_line}
use Rattle.sheets_promises.specs.Cuts.{line_bytes, lines_joined, parts_together}
use Rattle.sheets_promises.specs.Heads.{behind_mark}
use Rattle.sheets_promises.specs.Bytes.{stands_lacks}
use Rattle.sheets_promises.specs.Turned.{Turned, Alike, as_is, a_figure, a_seat, parts_same, parts_length}

abbrev pub AlikeLine : ℕ → ℕ → Line → Line → Type 0
AlikeLine m n (Whole v) (Whole w) = Alike m n (parts_of v) (parts_of w)
AlikeLine m n (Whole v) (Cut w) = ⊥
AlikeLine m n (Cut v) (Whole w) = ⊥
AlikeLine m n (Cut v) (Cut w) = ⊥

module _ (m n : ℕ) (h : is_mark m ≡ true) (k : is_mark n ≡ true) where
  -- lines that are alike make the same book
  lines_same : (ls ks : List Line) → All2 (AlikeLine m n) ls ks → (place : ℕ) → (b : List ℕ) × (lines_from m place ls ≡ Made b) × (lines_from n place ks ≡ Made b)
  unfolding lines_from line_of
  lines_same [] [] a place = (_, refl, refl)
  lines_same [] (x ∷ ks) a place = absurd a
  lines_same (x ∷ ls) [] a place = absurd a
  lines_same (Cut v ∷ ls) (Cut w ∷ ks) a place = absurd a.0
  lines_same (Cut v ∷ ls) (Whole w ∷ ks) a place = absurd a.0
  lines_same (Whole v ∷ ls) (Cut w ∷ ks) a place = absurd a.0
  lines_same (Whole v ∷ ls) (Whole w ∷ ks) a place =
      let (f, x, y) = parts_same m n h k a.0 in
      let (b, p, q) = lines_same ls ks a.1 (suc place) in
      (f ++ b, rw (x, p), rw (y, q))

  lines_length : (ls ks : List Line) → All2 (AlikeLine m n) ls ks → length (joined line_bytes ks) ≡ length (joined line_bytes ls)
  lines_length [] [] a = refl
  lines_length [] (x ∷ ks) a = absurd a
  lines_length (x ∷ ls) [] a = absurd a
  lines_length (Cut v ∷ ls) (Cut w ∷ ks) a = absurd a.0
  lines_length (Cut v ∷ ls) (Whole w ∷ ks) a = absurd a.0
  lines_length (Whole v ∷ ls) (Cut w ∷ ks) a = absurd a.0
  lines_length (Whole v ∷ ls) (Whole w ∷ ks) a =
      simp length-append (omega (arith, parts_length m n h k a.0, ap length (parts_together v), ap length (parts_together w), lines_length ls ks a.1))

  pub same_sheets : (r u : List ℕ) → All2 (AlikeLine m n) (lines_of r) (lines_of u) → length (mark_line m ++ r) ≤ longest_book →
      (b : List ℕ) × (read (mark_line m ++ r) ≡ Made b) × (read (mark_line n ++ u) ≡ Made b)
  unfolding read
  same_sheets r u a short =
      let same : length u ≡ length r = omega (arith, lines_length (lines_of r) (lines_of u) a, ap length (lines_joined r), ap length (lines_joined u)) in
      let (b, p, q) = lines_same (lines_of r) (lines_of u) a 2 in
      (b, rw (le-ltb longest_book (length (mark_line m ++ r)) short) (behind_mark m h r ∙ p), rw (le-ltb longest_book (length (mark_line n ++ u)) (omega arith)) (behind_mark n k u ∙ q))

-- such sheets there are
pub an_example : All2 (AlikeLine (code ",") (code ".")) (lines_of (bytes "S;400,00\nC;P1\nI;M1;0;1;0\n")) (lines_of (bytes "S;400.00\nC;P1\nI;M1;0;1;0\n"))
unfolding lines_of parts_of
an_example = (a_figure refl (turned (bytes "400,00") refl), (as_is refl, (a_seat (turned (bytes "0") refl) (turned (bytes "1") refl) (turned (bytes "0") refl), tt)))
  where
    turned : (v : List ℕ) → stands_in (code ".") v ≡ false → Turned (code ",") (code ".") v (respelled (code ",") (code ".") v)
    turned v h = record { same = refl; own = stands_lacks (code ".") v h }
