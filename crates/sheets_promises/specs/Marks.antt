-- Figures there and back, over either mark. A book's figure, which has no comma, is the same when it comes back from a sheet, and the other mark
-- does not stand in the sheet's; a sheet's figure in which the other mark does not stand is the same when it comes back from a book.
-- Assumes nothing.
use Rattle.std.specs.Prelude.{ℕ, ◌≡◌, refl, List, [], ◌∷◌, true, false, eqb}
use Prim.Native.Char.{code}
use Rattle.std.proofs.Common.{sym, ap₂, subst, eqb-true}
use Rattle.rules.specs.Text.{is}
use Rattle.laws.specs.ByTest.{by_test}
use Rattle.sheets.specs.Mark.{is_mark, other, respelt, in_book, in_sheet}
use Rattle.sheets_promises.specs.Bytes.{Each, Lacks, Part, Clean}

pub by_mark : (P : ℕ → Type 0) → P (code ",") → P (code ".") → (m : ℕ) → is_mark m ≡ true → P m
by_mark P c p m h =
    by_test (is "," m)
    (λ e. subst P (sym (eqb-true m (code ",") e)) c)
    (λ e. subst P (sym (eqb-true m (code ".") (rw e at h))) p)

-- a mark is a byte of a part
pub mark_part : (m : ℕ) → is_mark m ≡ true → Part m
mark_part m h = by_mark Part (record { semicolon = refl; feed = refl; blank = refl }) (record { semicolon = refl; feed = refl; blank = refl }) m h

-- a byte of a book's figure as a sheet has it
pub record Spelt (m b : ℕ) : Type 0 where
  pub back : respelt m (code ".") (respelt (code ".") m b) ≡ b
  pub own : eqb (respelt (code ".") m b) (other m) ≡ false
  pub part : Part (respelt (code ".") m b)

-- a point becomes the mark, and any other byte stays
byte_spelt : (m b : ℕ) → is_mark m ≡ true → Clean b → Spelt m b
byte_spelt m b h c = by_mark (λ x. Spelt x b) comma point m h
  where
    comma : Spelt (code ",") b
    comma =
        by_test (is "." b)
        (λ e. record { back = rw e (sym (eqb-true b (code ".") e)); own = rw e; part = rw e (mark_part (code ",") refl) })
        (λ e. record { back = rw (e, c.comma); own = rw e e; part = rw e c.part })

    point : Spelt (code ".") b
    point =
        by_test (is "." b)
        (λ e. record { back = rw e (sym (eqb-true b (code ".") e)); own = rw e; part = rw e (mark_part (code ".") refl) })
        (λ e. record { back = rw (e, e); own = rw e c.comma; part = rw e c.part })

-- a byte of a sheet's figure as a book has it
byte_turned : (m b : ℕ) → is_mark m ≡ true → eqb b (other m) ≡ false → respelt (code ".") m (respelt m (code ".") b) ≡ b
byte_turned m b h c = by_mark (λ x. eqb b (other x) ≡ false → respelt (code ".") x (respelt x (code ".") b) ≡ b) comma point m h c
  where
    comma : is "." b ≡ false → respelt (code ".") (code ",") (respelt (code ",") (code ".") b) ≡ b
    comma n = by_test (is "," b) (λ e. rw e (sym (eqb-true b (code ",") e))) (λ e. rw (e, n))

    point : is "," b ≡ false → respelt (code ".") (code ".") (respelt (code ".") (code ".") b) ≡ b
    point n = by_test (is "." b) (λ e. rw e (sym (eqb-true b (code ".") e))) (λ e. rw (e, e))

module _ (m : ℕ) (h : is_mark m ≡ true) where
  -- a book's figure in a sheet, and back
  pub there_and_back : (v : List ℕ) → Each Clean v → in_book m (in_sheet m v) ≡ v
  there_and_back [] k = refl
  there_and_back (b ∷ v) k = ap₂ ◌∷◌ (byte_spelt m b h k.0).back (there_and_back v k.1)

  pub own_alone : (v : List ℕ) → Each Clean v → Lacks (other m) (in_sheet m v)
  own_alone [] k = tt
  own_alone (b ∷ v) k = ((byte_spelt m b h k.0).own, own_alone v k.1)

  pub in_parts : (v : List ℕ) → Each Clean v → Each Part (in_sheet m v)
  in_parts [] k = tt
  in_parts (b ∷ v) k = ((byte_spelt m b h k.0).part, in_parts v k.1)

  -- a sheet's figure in a book, and back
  pub back_and_there : (v : List ℕ) → Lacks (other m) v → in_sheet m (in_book m v) ≡ v
  back_and_there [] k = refl
  back_and_there (b ∷ v) k = ap₂ ◌∷◌ (byte_turned m b h k.0) (back_and_there v k.1)
