-- The sheet of fields that are in lines, line by line: it is read as those fields, and how long it is. Each of the nine tags that have a line to
-- themselves is gone through once.
-- Assumes nothing.
use Rattle.std.specs.Prelude.{ℕ, suc, ◌+◌, ◌≡◌, true, false}
use Prim.Native.Char.{code}
use Rattle.std.proofs.Math.Path.{refl}
use Rattle.std.proofs.Common.{ap, ◌∙◌, arith}
use mathlib.Core.List.{List, [], ◌∷◌, ◌++◌, append_assoc}
use Rattle.std.proofs.Math.ListN.{length, length-append}
use Rattle.rules.specs.Text.{is, bytes}
use Rattle.rules.specs.Report.{joined}
use Rattle.rules.specs.Fields.{Field, Whole}
use Rattle.days.specs.Lines.{lines_of}
use Rattle.sheets.specs.Mark.{is_mark, respelled, in_sheet}
use Rattle.sheets.specs.Read.{Made, lines_from}
use Rattle.sheets.specs.Write.{field_in}
use Rattle.sheets_promises.specs.Bytes.{Part}
use Rattle.sheets_promises.specs.Cuts.{line_first}
use Rattle.sheets_promises.specs.Good.{Good, line_tag}
use Rattle.sheets_promises.specs.Tags.{by_line_tag}
use Rattle.sheets_promises.specs.Order.{Fields, end, alone, seat}
use Rattle.sheets_promises.specs.Saving.{saved_by, saved, total}
use Rattle.sheets_promises.specs.Written.{field_bytes, Line, carried_line, figured_line}
use Rattle.sheets_promises.specs.FourParts.{seat_line, trade_line}

pub joined_append : {A : Type 0} (f : A → List ℕ) (a b : List A) → joined f (a ++ b) ≡ joined f a ++ joined f b
joined_append f [] b = refl
joined_append f (x ∷ a) b = rw (joined_append f a b, append_assoc (f x) (joined f a) (joined f b))

pub length_respelled : (from to : ℕ) (v : List ℕ) → length (respelled from to v) ≡ length v
length_respelled from to [] = refl
length_respelled from to (b ∷ v) = ap suc (length_respelled from to v)

module _ (m : ℕ) (k : is_mark m ≡ true) where
  alone_line : (v : List ℕ) (t : ℕ) → line_tag t ≡ true → Good t v → Line m (Whole t v ∷ [])
  alone_line v t =
      by_line_tag (λ t. Good t v → Line m (Whole t v ∷ [])) t
      (λ g. carried_line m (code "D") v (letter (code "D") refl refl refl) g refl refl)
      (λ g. carried_line m (code "X") v (letter (code "X") refl refl refl) g refl refl)
      (λ g. carried_line m (code "C") v (letter (code "C") refl refl refl) g refl refl)
      (λ g. figured_line m k (code "S") v (letter (code "S") refl refl refl) g.figured.clean refl refl)
      (λ g. figured_line m k (code "L") v (letter (code "L") refl refl refl) g.figured.clean refl refl)
      (λ g. figured_line m k (code "U") v (letter (code "U") refl refl refl) g.figured.clean refl refl)
      (λ g. figured_line m k (code "V") v (letter (code "V") refl refl refl) g.figured.clean refl refl)
      (λ g. trade_line m k (code "B") v (letter (code "B") refl refl refl) g refl (λ a b c d. refl))
      (λ g. trade_line m k (code "A") v (letter (code "A") refl refl refl) g refl (λ a b c d. refl))
    where
      letter : (t : ℕ) → is ";" t ≡ false → is "\n" t ≡ false → is " " t ≡ false → Part t
      letter t s f b = record { semicolon = s; feed = f; blank = b }

  -- a line in front of lines
  line_reads : (fs gs : List Field) → Line m fs → (place : ℕ) → lines_from m (suc place) (lines_of (joined (field_in m) gs)) ≡ Made (joined field_bytes gs) →
      lines_from m place (lines_of (joined (field_in m) (fs ++ gs))) ≡ Made (joined field_bytes (fs ++ gs))
  unfolding lines_from
  line_reads fs gs l place e =
      rw (joined_append (field_in m) fs gs, joined_append field_bytes fs gs, l.shows, append_assoc l.text (bytes "\n") (joined (field_in m) gs), line_first l.text (joined (field_in m) gs) l.unbroken, l.reads, e)

  pub fields_read : {fs : List Field} → Fields fs → (place : ℕ) → lines_from m place (lines_of (joined (field_in m) fs)) ≡ Made (joined field_bytes fs)
  unfolding lines_from lines_of field_in
  fields_read end place = refl
  fields_read (alone {t = t} {v = v} {fs = fs} tag good x) place = line_reads (Whole t v ∷ []) fs (alone_line v t tag good) place (fields_read x (suc place))
  fields_read (seat {i = i} {k = h} {h = j} {q = q} {fs = fs} bi bk bh bq x) place =
      line_reads (Whole (code "I") i ∷ Whole (code "K") h ∷ Whole (code "H") j ∷ Whole (code "Q") q ∷ []) fs (seat_line m k i h j q bi bk bh bq) place (fields_read x (suc place))

  -- how long they are
  alone_length : (v : List ℕ) (t : ℕ) → line_tag t ≡ true → length (field_in m (Whole t v)) + saved_by t ≡ 3 + length v
  unfolding field_in
  alone_length v t =
      by_line_tag (λ t. length (field_in m (Whole t v)) + saved_by t ≡ 3 + length v) t
      (long v refl) (long v refl) (long v refl)
      (long (in_sheet m v) sheet) (long (in_sheet m v) sheet) (long (in_sheet m v) sheet) (long (in_sheet m v) sheet)
      (long (respelled (code " ") (code ";") (in_sheet m v)) (length_respelled (code " ") (code ";") (in_sheet m v) ∙ sheet))
      (long (respelled (code " ") (code ";") (in_sheet m v)) (length_respelled (code " ") (code ";") (in_sheet m v) ∙ sheet))
    where
      sheet : length (in_sheet m v) ≡ length v
      sheet = length_respelled (code ".") m v

      long : (w : List ℕ) → length w ≡ length v → suc (suc (length (w ++ bytes "\n"))) + 0 ≡ 3 + length v
      long w e = omega (arith, length-append w (bytes "\n"))

  pub fields_length : {fs : List Field} → Fields fs → length (joined (field_in m) fs) + saved fs ≡ total fs
  unfolding field_in
  fields_length end = refl
  fields_length (alone {t = t} {v = v} {fs = fs} tag good x) = simp length-append (omega (arith, alone_length v t tag, fields_length x))
  fields_length (seat {i = i} {k = h} {h = j} {q = q} {fs = fs} bi bk bh bq x) = simp length-append (omega (arith, fields_length x))
