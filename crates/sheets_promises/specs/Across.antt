-- "no figure is ever read across the mark": a book that a sheet makes has, for each line in order, the line's fields and no others; byte by byte, a
-- figure of the book has a point exactly where the sheet's has its own mark, and the same byte elsewhere; and the other mark stands in no figure
-- that is read.
-- Assumes nothing.
use Rattle.std.specs.Prelude.{ℕ, suc, ◌↔◌, ◌≡◌, refl, true, false, eqb}
use Prim.Native.Char.{code}
use Rattle.std.proofs.Common.{sym, ◌∙◌, eqb-true, eq-eqb}
use Rattle.std.proofs.Math.Path.{ap, subst}
use mathlib.Core.List.{List, [], ◌∷◌, ◌++◌}
use Rattle.std.proofs.lemmas.Bool.{eqb-false}
use Rattle.rules.specs.Text.{bytes}
use Rattle.rules.specs.Report.{field}
use Rattle.rules.specs.Fields.{Field, Whole, fields_of}
use Rattle.days.specs.Lines.{Line, lines_of}
use Rattle.days.specs.Lines.{Whole as WholeLine, Cut as CutLine}
use Rattle.laws.specs.All2.{All2}
use Rattle.laws.specs.ByTest.{by_test}
use Rattle.sheets.specs.Mark.{is_mark, other, respelt, in_book}
use Rattle.sheets.specs.Line.{parts_of, carried, figured, traded, strays, line_of}
use Rattle.sheets.specs.Read.{Bad, Made, lines_from, sheet_from, read}
use Rattle.sheets_promises.specs.Bytes.{Lacks, stands_lacks}
use Rattle.sheets_promises.specs.Marks.{by_mark}
use Rattle.sheets_promises.specs.Shapes.{Shaped}
use Rattle.sheets_promises.specs.Shapes as shape
use Rattle.sheets_promises.specs.SheetBack.{bad_not, made_is, fields_first, shaped_whole, line_before, made_marked}
use Rattle.sheets_promises.specs.Heads.{MarkLine, behind_mark}

-- a byte of a sheet's figure, and of the book's
pub record At (m a b : ℕ) : Type 0 where
  pub point : (b ≡ code ".") ↔ (a ≡ m)
  pub same : (a ≡ m → ⊥) → b ≡ a
  pub own : a ≡ other m → ⊥

byte_at : (m a : ℕ) → is_mark m ≡ true → eqb a (other m) ≡ false → At m a (respelt m (code ".") a)
byte_at m a k c =
    record {
      point = (λ e. by_test (eqb a m) (λ x. eqb-true a m x) (λ x. only x (rw x at e)), λ e. rw (eq-eqb a m e));
      same = λ n. by_test (eqb a m) (λ x. absurd (n (eqb-true a m x))) (λ x. rw x);
      own = eqb-false a (other m) c;
    }
  where
    -- a point that is not the mark would be the other
    only : eqb a m ≡ false → a ≡ code "." → a ≡ m
    only x e = absurd (by_mark (λ y. eqb a y ≡ false → eqb a (other y) ≡ false → ⊥) (λ p q. eqb-false a (code ".") q e) (λ p q. eqb-false a (code ".") p e) m k x c)

-- a figure of a sheet, and of the book, byte by byte
pub record ReadAs (m : ℕ) (v w : List ℕ) : Type 0 where
  pub each : All2 (At m) v w

-- a line's parts, and the fields that it is read as
pub data FieldsOf (m : ℕ) : List (List ℕ) → List Field → Type 0 where
  as_is : {t : ℕ} {v : List ℕ} → carried t ≡ true → FieldsOf m ((t ∷ []) ∷ v ∷ []) (Whole t v ∷ [])
  a_figure : {t : ℕ} {v w : List ℕ} → figured t ≡ true → ReadAs m v w → FieldsOf m ((t ∷ []) ∷ v ∷ []) (Whole t w ∷ [])
  a_seat : {i k h q k' h' q' : List ℕ} → ReadAs m k k' → ReadAs m h h' → ReadAs m q q' →
      FieldsOf m ((code "I" ∷ []) ∷ i ∷ k ∷ h ∷ q ∷ []) (Whole (code "I") i ∷ Whole (code "K") k' ∷ Whole (code "H") h' ∷ Whole (code "Q") q' ∷ [])
  a_trade : {t : ℕ} {a b c d a' b' : List ℕ} → traded t ≡ true → ReadAs m a a' → ReadAs m b b' →
      FieldsOf m ((t ∷ []) ∷ a ∷ b ∷ c ∷ d ∷ []) (Whole t (a' ++ code " " ∷ b' ++ code " " ∷ c ++ code " " ∷ d) ∷ [])

-- the fields of all lines in order, and "Z ends the book"
pub data BookOf (m : ℕ) : List Line → List Field → Type 0 where
  the_end : BookOf m [] (Whole (code "Z") [] ∷ [])
  a_line : {v : List ℕ} {ls : List Line} {fs gs : List Field} → FieldsOf m (parts_of v) fs → BookOf m ls gs → BookOf m (WholeLine v ∷ ls) (fs ++ gs)

module _ (m : ℕ) (k : is_mark m ≡ true) where
  read_as : (v : List ℕ) → Lacks (other m) v → All2 (At m) v (in_book m v)
  read_as [] c = tt
  read_as (a ∷ v) c = (byte_at m a k c.0, read_as v c.1)

  figure_as : (v : List ℕ) → strays m v ≡ false → ReadAs m v (in_book m v)
  figure_as v h = record { each = read_as v (stands_lacks (other m) v h) }

  shaped_as : {ps : List (List ℕ)} {fs : List Field} → Shaped m ps fs → FieldsOf m ps fs
  shaped_as (shape.as_is tag) = as_is tag
  shaped_as (shape.a_figure {v = v} tag own) = a_figure tag (figure_as v own)
  shaped_as (shape.a_seat {k = a} {h = b} {q = c} x y z) = a_seat (figure_as a x) (figure_as b y) (figure_as c z)
  shaped_as (shape.a_trade {a = a} {b = b} tag x y) = a_trade tag (figure_as a x) (figure_as b y)

  lines_as : (ls : List Line) (place : ℕ) (b : List ℕ) → lines_from m place ls ≡ Made b → BookOf m ls (fields_of b)
  unfolding lines_from fields_of
  lines_as [] place b e = subst (λ (l : List ℕ). BookOf m [] (fields_of l)) (made_is e) the_end
  lines_as (CutLine v ∷ ls) place b e = bad_not e
  lines_as (WholeLine v ∷ ls) place b e =
      let x = line_before m place v ls b e in
      let split : fields_of b ≡ x.fields ++ fields_of x.rest = ap fields_of x.book ∙ fields_first x.fields (shaped_whole m x.shaped) x.rest in
      subst (BookOf m (WholeLine v ∷ ls)) (sym split) (a_line (shaped_as x.shaped) (lines_as ls (suc place) x.rest x.behind))

pub never_across : (s b : List ℕ) → read s ≡ Made b → (x : MarkLine s) × BookOf x.mark (lines_of x.rest) (fields_of b)
never_across s b e =
    let (x, h) = made_marked s b e in
    (x, lines_as x.mark x.either (lines_of x.rest) 2 b (sym (behind_mark x.mark x.either x.rest) ∙ ap (λ (l : List ℕ). sheet_from (lines_of l)) (sym x.whole) ∙ h))

-- "a comma sheet's 8,000 is 8.000, a point sheet's is 21"
pub comma_in_a_comma_sheet : read (bytes "mark,\nL;8,000\n") ≡ Made (field "L" (bytes "8.000") ++ field "Z" [])
unfolding read sheet_from lines_from lines_of line_of parts_of
comma_in_a_comma_sheet = refl

pub comma_in_a_point_sheet : read (bytes "mark.\nL;8,000\n") ≡ Bad 21 2
unfolding read sheet_from lines_from lines_of line_of parts_of
comma_in_a_point_sheet = refl

pub point_in_a_point_sheet : read (bytes "mark.\nL;8.000\n") ≡ Made (field "L" (bytes "8.000") ++ field "Z" [])
unfolding read sheet_from lines_from lines_of line_of parts_of
point_in_a_point_sheet = refl

pub point_in_a_comma_sheet : read (bytes "mark,\nL;8.000\n") ≡ Bad 21 2
unfolding read sheet_from lines_from lines_of line_of parts_of
point_in_a_comma_sheet = refl
