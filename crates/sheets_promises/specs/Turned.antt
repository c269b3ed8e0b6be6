-- Two lines of the same figures, in one mark and in the other: they come to the same fields, because a figure with one mark in the other's place comes to
-- the same figure of the book where no other mark stands in it.
-- Assumes nothing.
use Rattle.std.specs.Prelude.{ℕ, ◌≡◌, refl, List, [], ◌∷◌, true, false, ◌||◌, eqb, length}
use Prim.Native.Char.{code}
use Rattle.std.proofs.Common.{ap, ap₂, ◌∙◌, arith, eq-eqb, length-append}
use Rattle.rules.specs.Text.{is}
use Rattle.rules.specs.Book.{Next, refuse}
use Rattle.laws.specs.ByTest.{by_test}
use Rattle.sheets.specs.Refusal as refusal
use Rattle.sheets.specs.Mark.{is_mark, other, respelt, respelled, in_book}
use Rattle.sheets.specs.Line.{carried, figured, traded, strays, one_of, four_of, field_of, seat_of, trade_of, of_parts}
use Rattle.sheets_promises.specs.Bytes.{Lacks, lacks_stands}
use Rattle.sheets_promises.specs.Marks.{by_mark}
use Rattle.sheets_promises.specs.Cuts.{put_together}
use Rattle.sheets_promises.specs.Tags.{by_figured, by_traded}
use Rattle.sheets_promises.specs.Lined.{length_respelled}

-- a figure of one sheet and of the other: the same bytes but the mark, and the other mark does not stand in it
pub record Turned (m n : ℕ) (v w : List ℕ) : Type 0 where
  pub same : w ≡ respelled m n v
  pub own : Lacks (other m) v

-- two lines by their parts: the same letter, the same codes, day and time, and figures that are the same but the mark
pub data Alike (m n : ℕ) : List (List ℕ) → List (List ℕ) → Type 0 where
  as_is : {t : ℕ} {v : List ℕ} → carried t ≡ true → Alike m n ((t ∷ []) ∷ v ∷ []) ((t ∷ []) ∷ v ∷ [])
  a_figure : {t : ℕ} {v w : List ℕ} → figured t ≡ true → Turned m n v w → Alike m n ((t ∷ []) ∷ v ∷ []) ((t ∷ []) ∷ w ∷ [])
  a_seat : {i k h q k' h' q' : List ℕ} → Turned m n k k' → Turned m n h h' → Turned m n q q' → Alike m n ((code "I" ∷ []) ∷ i ∷ k ∷ h ∷ q ∷ []) ((code "I" ∷ []) ∷ i ∷ k' ∷ h' ∷ q' ∷ [])
  a_trade : {t : ℕ} {a b c d a' b' : List ℕ} → traded t ≡ true → Turned m n a a' → Turned m n b b' → Alike m n ((t ∷ []) ∷ a ∷ b ∷ c ∷ d ∷ []) ((t ∷ []) ∷ a' ∷ b' ∷ c ∷ d ∷ [])

-- a byte
record Byte (m n b : ℕ) : Type 0 where
  back : respelt n (code ".") (respelt m n b) ≡ respelt m (code ".") b
  own : eqb (respelt m n b) (other n) ≡ false

-- its own mark becomes the other's, and any other byte is no mark
byte_turned : (m n b : ℕ) → is_mark m ≡ true → is_mark n ≡ true → eqb b (other m) ≡ false → Byte m n b
byte_turned m n b h k c =
    by_test (eqb b m)
    (λ e. record { back = rw (e, eq-eqb n n refl); own = rw e (by_mark (λ y. eqb y (other y) ≡ false) refl refl n k) })
    (λ e.
    let (comma, point) = by_mark (λ x. eqb b x ≡ false → eqb b (other x) ≡ false → (is "," b ≡ false) × (is "." b ≡ false)) (λ x y. (x, y)) (λ x y. (y, x)) m h e c in
    let here : eqb b n ≡ false = by_mark (λ y. eqb b y ≡ false) comma point n k in
    let there : eqb b (other n) ≡ false = by_mark (λ y. eqb b (other y) ≡ false) point comma n k in
    record { back = rw (e, here); own = rw (e, there) })

-- what figures come to
figured_one : (m t : ℕ) (v : List ℕ) → figured t ≡ true → one_of m t v ≡ refuse refusal.other_mark (strays m v) (Next (field_of t (in_book m v)))
figured_one m t v tag = by_figured (λ u. one_of m u v ≡ refuse refusal.other_mark (strays m v) (Next (field_of u (in_book m v)))) t refl refl refl refl tag

traded_four : (m t : ℕ) (a b c d : List ℕ) → traded t ≡ true → four_of m t a b c d ≡ refuse refusal.other_mark (strays m a || strays m b) (Next (field_of t (trade_of m a b c d)))
traded_four m t a b c d tag = by_traded (λ u. four_of m u a b c d ≡ refuse refusal.other_mark (strays m a || strays m b) (Next (field_of u (trade_of m a b c d)))) t refl refl tag

module _ (m n : ℕ) (h : is_mark m ≡ true) (k : is_mark n ≡ true) where
  figure_same : (v : List ℕ) → Lacks (other m) v → in_book n (respelled m n v) ≡ in_book m v
  figure_same [] c = refl
  figure_same (b ∷ v) c = ap₂ ◌∷◌ (byte_turned m n b h k c.0).back (figure_same v c.1)

  figure_own : (v : List ℕ) → Lacks (other m) v → Lacks (other n) (respelled m n v)
  figure_own [] c = tt
  figure_own (b ∷ v) c = ((byte_turned m n b h k c.0).own, figure_own v c.1)

  same_book : {v w : List ℕ} → Turned m n v w → in_book n w ≡ in_book m v
  same_book {v} x = ap (in_book n) x.same ∙ figure_same v x.own

  here_own : {v w : List ℕ} → Turned m n v w → strays m v ≡ false
  here_own {v} x = lacks_stands (other m) v x.own

  there_own : {v w : List ℕ} → Turned m n v w → strays n w ≡ false
  there_own {v} x = ap (strays n) x.same ∙ lacks_stands (other n) (respelled m n v) (figure_own v x.own)

  -- two lines that are alike come to the same fields
  abbrev pub Both : List (List ℕ) → List (List ℕ) → Type 0
  Both ps qs = (f : List ℕ) × (of_parts m ps ≡ Next f) × (of_parts n qs ≡ Next f)

  pub parts_same : {ps qs : List (List ℕ)} → Alike m n ps qs → Both ps qs
  parts_same (as_is {t = t} {v = v} tag) = (field_of t v, rw tag, rw tag)
  parts_same (a_figure {t = t} {v = v} {w = w} tag x) = (field_of t (in_book m v), figured_one m t v tag ∙ rw (here_own x), figured_one n t w tag ∙ rw (there_own x, same_book x))
  parts_same (a_seat {i = i} {k = a} {h = b} {q = c} x y z) =
      (seat_of m (code "I") i a b c, rw (here_own x, here_own y, here_own z), rw (there_own x, there_own y, there_own z, same_book x, same_book y, same_book z))
  parts_same (a_trade {t = t} {a = a} {b = b} {c = c} {d = d} {a' = a'} {b' = b'} tag x y) =
      (field_of t (trade_of m a b c d), traded_four m t a b c d tag ∙ rw (here_own x, here_own y), traded_four n t a' b' c d tag ∙ rw (there_own x, there_own y, same_book x, same_book y))

  -- and are as long as each other
  turned_length : {v w : List ℕ} → Turned m n v w → length w ≡ length v
  turned_length {v} x = ap length x.same ∙ length_respelled m n v

  pub parts_length : {ps qs : List (List ℕ)} → Alike m n ps qs → length (put_together qs) ≡ length (put_together ps)
  parts_length (as_is tag) = refl
  parts_length (a_figure tag x) = omega (arith, turned_length x)
  parts_length (a_seat x y z) = simp length-append (omega (arith, turned_length x, turned_length y, turned_length z))
  parts_length (a_trade tag x y) = simp length-append (omega (arith, turned_length x, turned_length y))
