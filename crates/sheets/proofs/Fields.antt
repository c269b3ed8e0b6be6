-- The fields of a book from a place on, as a sheet has them: the field that stands there, and those behind it.
-- Assumes nothing.
use Prim.Native.Nat.{ℕ, ◌+◌, ◌-◌, ◌≤◌}
use mathlib.Core.Path.{◌≡◌, sym, ap, ◌∙◌}
use mathlib.Core.List.{List, [], ◌∷◌, ◌++◌}
use native.Mathlib.Omega.{arith}
use borrow.Author.Tests.{leb-true, leb-false}
use lib.Dec.{leb}
use lib.ListN.{length, take, drop}
use Rattle.rules.specs.Fields.{Field, Cut, fields_of}
use Rattle.rules.specs.Report.{joined}
use Rattle.laws.specs.ByTest.{by_test}
use Rattle.laws.specs.Fields.{size_at, fields_end, fields_cut}
use Rattle.fields.specs.declared.Found.TheVariants.{Short}
use Rattle.fields.specs.First.{first_at}
use Rattle.fields.specs.Laws.{Stands, first_whole}
use Rattle.writing.specs.Written.{written, Wrote, written_join}
use Rattle.sheets.specs.Write.{shown, field_in}
use Rattle.sheets.specs.Shown.{shown_size, sheet_size}

-- no field is left, or one that is cut
pub data Over (fs : List Field) : Type 0 where
  done : fs ≡ [] → Over fs
  broken : fs ≡ Cut ∷ [] → Over fs

pub over : (s : List ℕ) (at : ℕ) → first_at at (fields_of (drop at s)) ≡ Short → Over (fields_of (drop at s))
over s at h =
    by_test (leb (length s) at)
    (λ a. done (fields_end s at (leb-true _ _ a)))
    (λ a. by_test (leb (at + 3 + size_at s at) (length s))
    (λ b. absurd (let e = sym h ∙ first_whole s at (leb-true _ _ b) in let z : ◌≡◌ {A = ℕ} 0 1 = cc in omega arith))
    (λ b. broken (fields_cut s at (leb-false (length s) at a) (leb-false (at + 3 + size_at s at) (length s) b))))

module _ (mark : ℕ) (book : List ℕ) where
  abbrev pub rest_of : ℕ → List ℕ
  rest_of from = joined (field_in mark) (fields_of (drop from book))

  pub rest_field : {from t start end : ℕ} → Stands book from t start end → rest_of from ≡ shown mark t (take (end - start) (drop start book)) ++ rest_of end
  unfolding field_in
  rest_field st = ap (joined (field_in mark)) st.fields

  pub rest_none : (from : ℕ) → Over (fields_of (drop from book)) → rest_of from ≡ []
  unfolding field_in
  rest_none from (done e) = ap (joined (field_in mark)) e
  rest_none from (broken e) = ap (joined (field_in mark)) e

abbrev pub size_from : List ℕ → ℕ → ℕ
size_from book from = sheet_size (fields_of (drop from book))

pub size_field : {book : List ℕ} {from t start end : ℕ} → Stands book from t start end → size_from book from ≡ shown_size t (end - start) + size_from book end
unfolding sheet_size
size_field {book} {from} {t} {start} {end} st = ap sheet_size st.fields ∙ ap (λ (n : ℕ). shown_size t n + size_from book end) st.size

pub size_none : (book : List ℕ) (from : ℕ) → Over (fields_of (drop from book)) → size_from book from ≡ 0
unfolding sheet_size
size_none book from (done e) = ap sheet_size e
size_none book from (broken e) = ap sheet_size e

-- one field more is written
pub onward : (next : ℕ) (s rest all out exit : List ℕ) (r : ℕ) → Wrote next s out exit r → next ≤ length out → all ≡ s ++ rest → written r rest exit ≡ written next all out
onward next s rest all out exit r w h e =
    ap (λ (n : ℕ). written n rest exit) w.next ∙ ap (written (next + length s) rest) w.whole ∙ written_join next s rest out h ∙ ap (λ (l : List ℕ). written next l out) (sym e)
