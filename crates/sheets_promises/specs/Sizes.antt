-- How long the book of a sheet is: at least Z's three bytes, and with nine more no longer than twice the sheet. A seat's line doubles at most, any other
-- line becomes as many bytes as it has, and the mark line has more than Z. A sheet of 60,000 bytes makes at most 119,991.
-- Assumes nothing.
use Rattle.std.specs.Prelude.{ℕ, suc, ◌+◌, ◌*◌, ◌≤◌, ◌≡◌}
use Rattle.std.proofs.Common.{sym, ◌∙◌, arith}
use Rattle.std.proofs.Math.Path.{ap}
use mathlib.Core.List.{List, [], ◌∷◌, ◌++◌}
use Rattle.std.proofs.Math.ListN.{length, length-append}
use Prim.Native.Char.{code}
use Rattle.rules.specs.Text.{bytes}
use Rattle.rules.specs.Report.{joined}
use Rattle.rules.specs.Fields.{Field}
use Rattle.days.specs.Lines.{Line, Whole, Cut, lines_of}
use Rattle.sheets.specs.Mark.{in_book}
use Rattle.sheets.specs.Read.{Made, lines_from, sheet_from, read}
use Rattle.sheets_promises.specs.Cuts.{line_bytes, lines_joined, put_together, parts_together}
use Rattle.sheets_promises.specs.Written.{field_bytes}
use Rattle.sheets_promises.specs.Lined.{length_respelled}
use Rattle.sheets_promises.specs.Shapes.{Shaped, as_is, a_figure, a_seat, a_trade}
use Rattle.sheets_promises.specs.Heads.{behind_mark}
use Rattle.sheets_promises.specs.SheetBack.{bad_not, made_is, line_before, made_marked}

module _ (m : ℕ) where
  figure_length : (v : List ℕ) → length (in_book m v) ≡ length v
  figure_length v = length_respelled m (code ".") v

  line_most : {ps : List (List ℕ)} {fs : List Field} → Shaped m ps fs → length (joined field_bytes fs) ≤ 2 * (length (put_together ps) + 1)
  line_most (as_is tag) = simp length-append (omega arith)
  line_most (a_figure {v = v} tag own) = simp length-append (omega (arith, figure_length v))
  line_most (a_seat {k = k} {h = h} {q = q} x y z) = simp length-append (omega (arith, figure_length k, figure_length h, figure_length q))
  line_most (a_trade {a = a} {b = b} tag x y) = simp length-append (omega (arith, figure_length a, figure_length b))

  lines_most : (ls : List Line) (place : ℕ) (b : List ℕ) → lines_from m place ls ≡ Made b → (3 ≤ length b) × (length b ≤ 2 * length (joined line_bytes ls) + 3)
  unfolding lines_from
  lines_most [] place b e = omega (arith, ap length (made_is e))
  lines_most (Cut v ∷ ls) place b e = bad_not e
  lines_most (Whole v ∷ ls) place b e =
      let x = line_before m place v ls b e in
      let rest = lines_most ls (suc place) x.rest x.behind in
      let here = line_most x.shaped in
      let whole = ap length (parts_together v) in
      let size = ap length x.book ∙ length-append (joined field_bytes x.fields) x.rest in
      let line = length-append (v ++ bytes "\n") (joined line_bytes ls) in
      omega (arith, length-append v (bytes "\n"))

pub book_size : (s b : List ℕ) → read s ≡ Made b → (3 ≤ length b) × (length b + 9 ≤ 2 * length s)
book_size s b e =
    let (x, h) = made_marked s b e in
    let lines = sym (behind_mark x.mark x.either x.rest) ∙ ap (λ (l : List ℕ). sheet_from (lines_of l)) (sym x.whole) ∙ h in
    let most = lines_most x.mark (lines_of x.rest) 2 b lines in
    omega (arith, ap length (lines_joined x.rest), ap length x.whole)
