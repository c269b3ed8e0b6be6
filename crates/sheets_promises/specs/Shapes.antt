-- A line that is no refusal, by its shape: a letter and one part or four, its fields, and no other mark in its figures. The lines' text read backwards,
-- once.
-- Assumes nothing.
use Rattle.std.specs.Prelude.{ℕ, ◌≡◌, refl, List, [], ◌∷◌, Bool, true, false, cond, ◌||◌}
use Prim.Native.Char.{code}
use Rattle.std.proofs.Common.{sym, ap, subst, ◌∙◌, append-nil}
use Rattle.rules.specs.Text.{is}
use Rattle.rules.specs.Report.{joined}
use Rattle.rules.specs.Fields.{Field, Whole}
use Rattle.rules.specs.Book.{Stop, Next, refuse}
use Rattle.laws.specs.ByTest.{not_either}
use Rattle.consequences.specs.Runs.{stop_not}
use Rattle.consequences.specs.Steps.{refuse_next}
use Rattle.sheets.specs.Refusal as refusal
use Rattle.sheets.specs.Mark.{in_book}
use Rattle.sheets.specs.Line.{parts_of, carried, figured, traded, field_of, strays, one_of, seat_of, trade_of, four_of, of_parts, line_of}
use Rattle.sheets_promises.specs.Good.{tag_is}
use Rattle.sheets_promises.specs.Written.{field_bytes}
use Rattle.sheets_promises.specs.FourParts.{four_joined}

module _ (m : ℕ) where
  pub data Shaped : List (List ℕ) → List Field → Type 0 where
    as_is : {t : ℕ} {v : List ℕ} → carried t ≡ true → Shaped ((t ∷ []) ∷ v ∷ []) (Whole t v ∷ [])
    a_figure : {t : ℕ} {v : List ℕ} → figured t ≡ true → strays m v ≡ false → Shaped ((t ∷ []) ∷ v ∷ []) (Whole t (in_book m v) ∷ [])
    a_seat : {i k h q : List ℕ} → strays m k ≡ false → strays m h ≡ false → strays m q ≡ false →
        Shaped ((code "I" ∷ []) ∷ i ∷ k ∷ h ∷ q ∷ []) (Whole (code "I") i ∷ Whole (code "K") (in_book m k) ∷ Whole (code "H") (in_book m h) ∷ Whole (code "Q") (in_book m q) ∷ [])
    a_trade : {t : ℕ} {a b c d : List ℕ} → traded t ≡ true → strays m a ≡ false → strays m b ≡ false → Shaped ((t ∷ []) ∷ a ∷ b ∷ c ∷ d ∷ []) (Whole t (trade_of m a b c d) ∷ [])

  -- some fields of this shape are these bytes
  pub record Reads (ps : List (List ℕ)) (f : List ℕ) : Type 0 where
    pub fields : List Field
    pub shaped : Shaped ps fields
    pub bytes : f ≡ joined field_bytes fields

  next_is : {a b : List ℕ} → Next a ≡ Next b → a ≡ b
  next_is e = cc

  one_reads : (t : ℕ) (v f : List ℕ) → one_of m t v ≡ Next f → Reads ((t ∷ []) ∷ v ∷ []) f
  one_reads t v f e = go (carried t) (figured t) refl refl e
    where
      go : (c g : Bool) → carried t ≡ c → figured t ≡ g →
          cond c (Next (field_of t v)) (cond g (refuse refusal.other_mark (strays m v) (Next (field_of t (in_book m v)))) (Stop refusal.no_line)) ≡ Next f → Reads ((t ∷ []) ∷ v ∷ []) f
      go true g x y k = record { fields = Whole t v ∷ []; shaped = as_is x; bytes = sym (append-nil (field_of t v) ∙ next_is k) }
      go false true x y k =
          let (own, n) = refuse_next refusal.other_mark (strays m v) (Next (field_of t (in_book m v))) f k in
          record { fields = Whole t (in_book m v) ∷ []; shaped = a_figure y own; bytes = sym (append-nil (field_of t (in_book m v)) ∙ next_is n) }
      go false false x y k = stop_not k

  seat_reads : (i k h q f : List ℕ) → refuse refusal.other_mark (strays m k || strays m h || strays m q) (Next (seat_of m (code "I") i k h q)) ≡ Next f → Reads ((code "I" ∷ []) ∷ i ∷ k ∷ h ∷ q ∷ []) f
  seat_reads i k h q f e =
      let (own, n) = refuse_next refusal.other_mark (strays m k || strays m h || strays m q) (Next (seat_of m (code "I") i k h q)) f e in
      let (kh, hq) = not_either (strays m k || strays m h) (strays m q) own in
      let (hk, hh) = not_either (strays m k) (strays m h) kh in
      record {
        fields = Whole (code "I") i ∷ Whole (code "K") (in_book m k) ∷ Whole (code "H") (in_book m h) ∷ Whole (code "Q") (in_book m q) ∷ [];
        shaped = a_seat hk hh hq;
        bytes = sym (next_is n) ∙ four_joined (field_of (code "I") i) (field_of (code "K") (in_book m k)) (field_of (code "H") (in_book m h)) (field_of (code "Q") (in_book m q));
      }

  four_reads : (t : ℕ) (a b c d f : List ℕ) → four_of m t a b c d ≡ Next f → Reads ((t ∷ []) ∷ a ∷ b ∷ c ∷ d ∷ []) f
  four_reads t a b c d f e = go (is "I" t) (traded t) refl refl e
    where
      go : (i g : Bool) → is "I" t ≡ i → traded t ≡ g →
          cond i (refuse refusal.other_mark (strays m b || strays m c || strays m d) (Next (seat_of m t a b c d)))
          (cond g (refuse refusal.other_mark (strays m a || strays m b) (Next (field_of t (trade_of m a b c d)))) (Stop refusal.no_line)) ≡ Next f → Reads ((t ∷ []) ∷ a ∷ b ∷ c ∷ d ∷ []) f
      go true g x y k =
          subst (λ (u : ℕ). Reads ((u ∷ []) ∷ a ∷ b ∷ c ∷ d ∷ []) f) (tag_is "I" t x)
          (seat_reads a b c d f (ap (λ (u : ℕ). refuse refusal.other_mark (strays m b || strays m c || strays m d) (Next (seat_of m u a b c d))) (tag_is "I" t x) ∙ k))
      go false true x y k =
          let (own, n) = refuse_next refusal.other_mark (strays m a || strays m b) (Next (field_of t (trade_of m a b c d))) f k in
          let (ha, hb) = not_either (strays m a) (strays m b) own in
          record { fields = Whole t (trade_of m a b c d) ∷ []; shaped = a_trade y ha hb; bytes = sym (append-nil (field_of t (trade_of m a b c d)) ∙ next_is n) }
      go false false x y k = stop_not k

  parts_read : (ps : List (List ℕ)) (f : List ℕ) → of_parts m ps ≡ Next f → Reads ps f
  parts_read [] f e = stop_not e
  parts_read ([] ∷ ps) f e = stop_not e
  parts_read ((t ∷ []) ∷ []) f e = stop_not e
  parts_read ((t ∷ []) ∷ v ∷ []) f e = one_reads t v f e
  parts_read ((t ∷ []) ∷ a ∷ b ∷ []) f e = stop_not e
  parts_read ((t ∷ []) ∷ a ∷ b ∷ c ∷ []) f e = stop_not e
  parts_read ((t ∷ []) ∷ a ∷ b ∷ c ∷ d ∷ []) f e = four_reads t a b c d f e
  parts_read ((t ∷ []) ∷ a ∷ b ∷ c ∷ d ∷ x ∷ ps) f e = stop_not e
  parts_read ((t ∷ u ∷ v) ∷ ps) f e = stop_not e

  pub line_read : (v f : List ℕ) → line_of m v ≡ Next f → Reads (parts_of v) f
  unfolding line_of
  line_read v f e = parts_read (parts_of v) f e
