-- Fields that a line was read as, and that the book's table took, are written as that line. A figure comes back from the point, since the other mark
-- does not stand in it; lots have no mark, and a trade no blank but those between its parts, since the table took them.
-- Assumes nothing.
use Rattle.std.specs.Prelude.{ℕ, ◌≡◌, Bool, true, false, eqb}
use Prim.Native.Char.{code}
use Rattle.std.proofs.Math.Path.{refl}
use Rattle.std.proofs.Common.{◌∙◌, arith}
use mathlib.Core.List.{List, [], ◌∷◌, ◌++◌, append-nil}
use Rattle.rules.specs.Text.{bytes}
use Rattle.rules.specs.Report.{joined}
use Rattle.rules.specs.Fields.{Field, Whole, Cut}
use Rattle.laws.specs.ByTest.{by_test}
use Rattle.sheets.specs.Mark.{is_mark, other, in_book, in_sheet}
use Rattle.sheets.specs.Line.{trade_of}
use Rattle.sheets.specs.Write.{shown, field_in}
use Rattle.sheets_promises.specs.Bytes.{Each, each_also, Lacks, stands_lacks, respelled_not, Bare}
use Rattle.sheets_promises.specs.Marks.{back_and_there}
use Rattle.sheets_promises.specs.Cuts.{put_together}
use Rattle.sheets_promises.specs.TradeValues.{Traded}
use Rattle.sheets_promises.specs.Good.{Good}
use Rattle.sheets_promises.specs.Tags.{by_carried, by_figured, by_traded}
use Rattle.sheets_promises.specs.Order.{Fields, end, alone, seat}
use Rattle.sheets_promises.specs.FourParts.{turned, seat_shown}
use Rattle.sheets_promises.specs.Shapes.{Shaped, as_is, a_figure, a_seat, a_trade}
use Rattle.sheets_promises.specs.Blanks.{trade_turned}

abbrev pub AllGood : List Field → Type 0
AllGood [] = Unit
AllGood (Cut ∷ fs) = ⊥
AllGood (Whole t v ∷ fs) = Good t v × AllGood fs

pub fields_good : {fs : List Field} → Fields fs → AllGood fs
fields_good end = (tt, tt)
fields_good (alone tag good x) = (good, fields_good x)
fields_good (seat bi bk bh bq x) = (bi, (bk, (bh, (bq, fields_good x))))

pub good_append : (fs gs : List Field) → AllGood (fs ++ gs) → AllGood fs × AllGood gs
good_append [] gs h = (tt, h)
good_append (Cut ∷ fs) gs h = absurd h
good_append (Whole t v ∷ fs) gs h = let (x, y) = good_append fs gs h.1 in ((h.0, x), y)

-- a mark that became a point would be there
lacks_mark : (m : ℕ) (v : List ℕ) → Lacks (code ".") (in_book m v) → Lacks m v
lacks_mark m [] h = tt
lacks_mark m (b ∷ v) h = (
  by_test (eqb b m)
      (λ e. absurd (let z : ◌≡◌ {A = Bool} true false = rw e at h.0 in let n : ◌≡◌ {A = ℕ} 0 1 = cc in omega arith))
      (λ e. e),
  lacks_mark m v h.1,
)

module _ (m : ℕ) (k : is_mark m ≡ true) where
  bare_same : (v : List ℕ) → Each Bare (in_book m v) → in_book m v ≡ v
  bare_same v h = respelled_not m (code ".") v (lacks_mark m v (each_also (λ y z. z.point) (in_book m v) h))

  pub line_written : {ps : List (List ℕ)} {fs : List Field} → Shaped m ps fs → AllGood fs → joined (field_in m) fs ≡ put_together ps ++ bytes "\n"
  unfolding field_in
  line_written (as_is {t = t} {v = v} tag) g = append-nil (shown m t v) ∙ by_carried (λ u. shown m u v ≡ u ∷ code ";" ∷ v ++ bytes "\n") t refl refl refl tag
  line_written (a_figure {t = t} {v = v} tag own) g =
      append-nil (shown m t (in_book m v))
      ∙ by_figured (λ u. shown m u (in_book m v) ≡ u ∷ code ";" ∷ in_sheet m (in_book m v) ++ bytes "\n") t refl refl refl refl tag
      ∙ rw (back_and_there m k v (stands_lacks (other m) v own))
  line_written (a_seat {i = i} {k = c} {h = h} {q = q} hk hh hq) g =
      seat_shown m k i (in_book m c) (in_book m h) (in_book m q) ∙ rw (bare_same c g.1.0, bare_same h g.1.1.0, bare_same q g.1.1.1.0)
  line_written (a_trade {t = t} {a = a} {b = b} {c = c} {d = d} tag ha hb) g =
      let v = trade_of m a b c d in
      let x = by_traded (λ u. Good u v → Traded v) t (λ y. y) (λ y. y) tag g.0 in
      append-nil (shown m t v) ∙ by_traded (λ u. shown m u v ≡ u ∷ code ";" ∷ turned m k v ++ bytes "\n") t refl refl tag ∙ rw (trade_turned m k a b c d x ha hb)
