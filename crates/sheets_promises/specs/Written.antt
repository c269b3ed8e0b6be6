-- The lines that a sheet has for the fields of an accepted book, and that each is read as those fields: the bytes of its parts are no semicolons and
-- no line feeds, and its figures come back from the mark.
-- Assumes nothing.
use Rattle.std.specs.Prelude.{ℕ, ◌≡◌, refl, true, false}
use Prim.Native.Char.{code}
use Rattle.std.proofs.Common.{sym, ◌∙◌}
use Rattle.std.proofs.Math.Path.{ap}
use mathlib.Core.List.{List, [], ◌∷◌, ◌++◌, append-nil}
use Rattle.rules.specs.Text.{bytes}
use Rattle.rules.specs.Report.{joined}
use Rattle.rules.specs.Fields.{Field, Whole, Cut}
use Rattle.rules.specs.Book.{Next, refuse}
use Rattle.sheets.specs.Refusal as refusal
use Rattle.sheets.specs.Mark.{is_mark, other, in_book, in_sheet}
use Rattle.sheets.specs.Line.{field_of, strays, one_of, line_of}
use Rattle.sheets.specs.Write.{shown, field_in}
use Rattle.sheets_promises.specs.Bytes.{Each, each_also, Lacks, lacks_stands, respelled_not, Part, Clean, Bare}
use Rattle.sheets_promises.specs.Marks.{there_and_back, own_alone, in_parts}
use Rattle.sheets_promises.specs.Cuts.{part_last, part_first}

-- a field's bytes in a book
abbrev pub field_bytes : Field → List ℕ
field_bytes Cut = []
field_bytes (Whole t v) = field_of t v

-- whole fields
abbrev pub NoCut : List Field → Type 0
NoCut [] = Unit
NoCut (Cut ∷ fs) = ⊥
NoCut (Whole t v ∷ fs) = NoCut fs

-- the line of some fields
pub record Line (m : ℕ) (fs : List Field) : Type 0 where
  pub text : List ℕ
  pub shows : joined (field_in m) fs ≡ text ++ bytes "\n"
  pub unbroken : Lacks (code "\n") text
  pub reads : line_of m text ≡ Next (joined field_bytes fs)

pub semicolons : (v : List ℕ) → Each Part v → Lacks (code ";") v
semicolons v h = each_also (λ b x. x.semicolon) v h

pub feeds : (v : List ℕ) → Each Part v → Lacks (code "\n") v
feeds v h = each_also (λ b x. x.feed) v h

pub bare_part : (v : List ℕ) → Each Bare v → Each Part v
bare_part v h = each_also (λ b x. x.clean.part) v h

pub bare_clean : (v : List ℕ) → Each Bare v → Each Clean v
bare_clean v h = each_also (λ b x. x.clean) v h

module _ (m : ℕ) where
  -- one part behind the letter
  one_part : (t : ℕ) (w v : List ℕ) → Part t → Each Part w → shown m t v ≡ t ∷ code ";" ∷ w ++ bytes "\n" → one_of m t w ≡ Next (field_of t v) → Line m (Whole t v ∷ [])
  unfolding field_in line_of
  one_part t w v p h s r =
      record {
        text = t ∷ code ";" ∷ w;
        shows = append-nil (shown m t v) ∙ s;
        unbroken = (p.feed, (refl, feeds w h));
        reads = rw (part_first (t ∷ []) w (p.semicolon, tt), part_last w (semicolons w h)) (r ∙ ap Next (sym (append-nil (field_of t v))));
      }

  pub carried_line : (t : ℕ) (v : List ℕ) → Part t → Each Bare v → shown m t v ≡ t ∷ code ";" ∷ v ++ bytes "\n" → one_of m t v ≡ Next (field_of t v) → Line m (Whole t v ∷ [])
  carried_line t v p h s r = one_part t v v p (bare_part v h) s r

  module _ (k : is_mark m ≡ true) where
    pub figured_line : (t : ℕ) (v : List ℕ) → Part t → Each Clean v → shown m t v ≡ t ∷ code ";" ∷ in_sheet m v ++ bytes "\n" →
        one_of m t (in_sheet m v) ≡ refuse refusal.other_mark (strays m (in_sheet m v)) (Next (field_of t (in_book m (in_sheet m v)))) → Line m (Whole t v ∷ [])
    figured_line t v p h s r =
        one_part t (in_sheet m v) v p (in_parts m k v h) s (r ∙ rw (lacks_stands (other m) (in_sheet m v) (own_alone m k v h), there_and_back m k v h))

    -- digits and letters are the same in a book and in a sheet
    pub same_sheet : (v : List ℕ) → Each Bare v → in_sheet m v ≡ v
    same_sheet v h = respelled_not (code ".") m v (each_also (λ b x. x.point) v h)

    pub same_book : (v : List ℕ) → Each Bare v → in_book m v ≡ v
    same_book v h = ap (in_book m) (sym (same_sheet v h)) ∙ there_and_back m k v (bare_clean v h)

    pub no_stray : (v : List ℕ) → Each Bare v → strays m v ≡ false
    no_stray v h = ap (strays m) (sym (same_sheet v h)) ∙ lacks_stands (other m) (in_sheet m v) (own_alone m k v (bare_clean v h))
