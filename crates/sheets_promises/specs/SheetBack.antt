-- "so does a sheet whose book is accepted, there and back in its own mark": line by line, the book's fields are those of the lines, and they are
-- written as the lines were.
-- Assumes nothing.
use Rattle.std.specs.Prelude.{ℕ, suc, ◌/◌, ◌*◌, ◌%◌, ◌+◌, ◌≡◌, refl, Bool, true, false, cond, ltb, length, get_or}
use Rattle.std.proofs.Common.{sym, subst, ◌∙◌, arith, eq-eqb}
use Rattle.std.proofs.Math.Path.{ap}
use mathlib.Core.List.{List, [], ◌∷◌, ◌++◌, append_assoc}
use Rattle.rules.specs.declared.Terms.{Terms}
use Rattle.rules.specs.Limits.{longest_book}
use Rattle.rules.specs.Report.{joined}
use Rattle.rules.specs.Fields.{Field, Whole, Cut, fields_of}
use Rattle.rules.specs.Book.{Customer, Step, Stop, Next, Accepted, judge}
use Rattle.days.specs.Lines.{Line, lines_of}
use Rattle.days.specs.Lines.{Whole as WholeLine, Cut as CutLine}
use Rattle.consequences.specs.Framed.{field_stands}
use Rattle.sheets.specs.Mark.{is_mark}
use Rattle.sheets.specs.Line.{field_of, line_of, parts_of}
use Rattle.sheets.specs.Read.{Read, Bad, Made, first_of, lines_from, sheet_from, read}
use Rattle.sheets.specs.Write.{field_in, mark_line, sheet_of}
use Rattle.sheets_promises.specs.Cuts.{line_bytes, lines_joined, parts_together}
use Rattle.sheets_promises.specs.Order.{accepted_fields}
use Rattle.sheets_promises.specs.Written.{field_bytes, NoCut}
use Rattle.sheets_promises.specs.Lined.{joined_append}
use Rattle.sheets_promises.specs.Shapes.{Shaped, as_is, a_figure, a_seat, a_trade, line_read}
use Rattle.sheets_promises.specs.LineBack.{AllGood, good_append, fields_good, line_written}
use Rattle.sheets_promises.specs.Heads.{MarkLine, Head, marked, unmarked, head, behind_mark}

pub bad_not : {n p : ℕ} {b : List ℕ} {G : Type 0} → Bad n p ≡ Made b → G
bad_not e = absurd (let z : ◌≡◌ {A = ℕ} 0 1 = cc in omega arith)

pub made_is : {a b : List ℕ} → Made a ≡ Made b → a ≡ b
made_is e = cc

-- a field's bytes are read as that field, whatever follows
field_first : (t : ℕ) (v rest : List ℕ) → fields_of (field_of t v ++ rest) ≡ Whole t v ∷ fields_of rest
field_first t v rest = (field_stands (field_of t v) t v (rw (eq-eqb (length v) (length v / 256 * 256 + length v % 256) (omega arith)))).framed rest

pub fields_first : (fs : List Field) → NoCut fs → (rest : List ℕ) → fields_of (joined field_bytes fs ++ rest) ≡ fs ++ fields_of rest
fields_first [] h rest = refl
fields_first (Cut ∷ fs) h rest = absurd h
fields_first (Whole t v ∷ fs) h rest =
    ap fields_of (append_assoc (field_of t v) (joined field_bytes fs) rest) ∙ field_first t v (joined field_bytes fs ++ rest) ∙ ap (λ (l : List Field). Whole t v ∷ l) (fields_first fs h rest)

pub shaped_whole : (m : ℕ) {ps : List (List ℕ)} {fs : List Field} → Shaped m ps fs → NoCut fs
shaped_whole m (as_is tag) = tt
shaped_whole m (a_figure tag own) = tt
shaped_whole m (a_seat hk hh hq) = tt
shaped_whole m (a_trade tag ha hb) = tt

-- a line that was read, and the lines behind it
pub record Before (m place : ℕ) (v : List ℕ) (ls : List Line) (b : List ℕ) : Type 0 where
  pub fields : List Field
  pub rest : List ℕ
  pub shaped : Shaped m (parts_of v) fields
  pub behind : lines_from m (suc place) ls ≡ Made rest
  pub book : b ≡ joined field_bytes fields ++ rest

pub line_before : (m place : ℕ) (v : List ℕ) (ls : List Line) (b : List ℕ) → lines_from m place (WholeLine v ∷ ls) ≡ Made b → Before m place v ls b
unfolding lines_from
line_before m place v ls b e = go (line_of m v) (lines_from m (suc place) ls) refl refl e
  where
    go : (r : Step (List ℕ)) (u : Read) → line_of m v ≡ r → lines_from m (suc place) ls ≡ u → first_of r place u ≡ Made b → Before m place v ls b
    go (Stop n) u x y k = bad_not k
    go (Next f) (Bad n p) x y k = bad_not k
    go (Next f) (Made rest) x y k =
        let r = line_read m v f x in
        record { fields = r.fields; rest = rest; shaped = r.shaped; behind = y; book = sym (made_is k) ∙ ap (λ (l : List ℕ). l ++ rest) r.bytes }

module _ (m : ℕ) (k : is_mark m ≡ true) where
  lines_back : (ls : List Line) (place : ℕ) (b : List ℕ) → lines_from m place ls ≡ Made b → AllGood (fields_of b) → joined (field_in m) (fields_of b) ≡ joined line_bytes ls
  unfolding lines_from field_in fields_of
  lines_back [] place b e g = ap (λ (l : List ℕ). joined (field_in m) (fields_of l)) (sym (made_is e))
  lines_back (CutLine v ∷ ls) place b e g = bad_not e
  lines_back (WholeLine v ∷ ls) place b e g =
      let x = line_before m place v ls b e in
      let split : fields_of b ≡ x.fields ++ fields_of x.rest = ap fields_of x.book ∙ fields_first x.fields (shaped_whole m x.shaped) x.rest in
      let (here, later) = good_append x.fields (fields_of x.rest) (subst AllGood split g) in
      ap (joined (field_in m)) split
      ∙ joined_append (field_in m) x.fields (fields_of x.rest)
      ∙ rw (line_written m k x.shaped here, parts_together v, lines_back ls (suc place) x.rest x.behind later)

-- "in its own mark": the byte behind `mark`
abbrev pub mark_of : List ℕ → ℕ
mark_of s = get_or s 4 0

-- a sheet of which a book is made is not too long, and begins with a mark line
pub made_marked : (s b : List ℕ) → read s ≡ Made b → MarkLine s × (sheet_from (lines_of s) ≡ Made b)
unfolding read
made_marked s b e = go (ltb longest_book (length s)) e
  where
    opened : Head s → sheet_from (lines_of s) ≡ Made b → MarkLine s × (sheet_from (lines_of s) ≡ Made b)
    opened (marked x) h = (x, h)
    opened (unmarked n x) h = bad_not (sym x ∙ h)

    go : (l : Bool) → cond l (Bad 1 0) (sheet_from (lines_of s)) ≡ Made b → MarkLine s × (sheet_from (lines_of s) ≡ Made b)
    go true h = bad_not h
    go false h = opened (head s) h

pub sheet_back : (s b : List ℕ) (terms : Terms) (cs : List Customer) → read s ≡ Made b → judge b ≡ Accepted terms cs → sheet_of (mark_of s) b ≡ s
unfolding sheet_of
sheet_back s b terms cs e j =
    let (x, h) = made_marked s b e in
    let m = x.mark in
    let own : mark_of s ≡ m = ap mark_of x.whole in
    let lines : lines_from m 2 (lines_of x.rest) ≡ Made b = sym (behind_mark m x.either x.rest) ∙ ap (λ (l : List ℕ). sheet_from (lines_of l)) (sym x.whole) ∙ h in
    let back = lines_back m x.either (lines_of x.rest) 2 b lines (fields_good (accepted_fields b terms cs j)) in
    ap (λ (n : ℕ). mark_line n ++ joined (field_in n) (fields_of b)) own ∙ ap (λ (l : List ℕ). mark_line m ++ l) (back ∙ lines_joined x.rest) ∙ sym x.whole
