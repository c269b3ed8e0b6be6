-- The bytes of a trade in its sheet, with points and blanks, are the trade of the book.
-- Assumes nothing.
use Prim.Native.Nat.{ℕ, ◌+◌, ◌-◌, ◌/◌, ◌%◌}
use mathlib.Core.Path.{◌≡◌, refl, sym, ap, ap₂, ◌∙◌}
use mathlib.Core.Bool.{Bool, false, cond}
use mathlib.Core.List.{List, [], ◌∷◌, ◌++◌, append_assoc}
use native.Mathlib.Omega.{arith}
use borrow.Author.Tests.{eq-eqb, ne_eqb}
use lib.Dec.{eqb}
use lib.ListN.{length, get_or, length-append, length-map}
use Rattle.laws.specs.ByTest.{by_test, not_either}
use Rattle.sheets.specs.Mark.{respelt, respelled, in_book, stands_in}
use Rattle.sheets.specs.Line.{field_of, seat_of, trade_of}
use Rattle.sheets.specs.Places.{between, Plain, HasParts}
use Rattle.sheets.specs.Put.{trade_in, four_at}
use Rattle.sheets.proofs.Numbers.{between_parted}
use Rattle.sheets.specs.declared.line.Parts.{Parts}

respelled_append : (from to : ℕ) (p q : List ℕ) → respelled from to (p ++ q) ≡ respelled from to p ++ respelled from to q
respelled_append from to [] q = refl
respelled_append from to (x ∷ p) q = ap (λ (l : List ℕ). respelt from to x ∷ l) (respelled_append from to p q)

-- a part has no semicolon, and a point is none
plain_kept : (v : List ℕ) → Plain v → respelled 59 32 v ≡ v
plain_kept [] h = refl
plain_kept (x ∷ v) h = let e = not_either (eqb x 59) (stands_in 59 v) h in rw e.0 (ap (λ (l : List ℕ). x ∷ l) (plain_kept v e.1))

plain_pointed : (mark : ℕ) (v : List ℕ) → Plain v → Plain (in_book mark v)
plain_pointed mark [] h = refl
plain_pointed mark (x ∷ v) h =
    let e = not_either (eqb x 59) (stands_in 59 v) h in
    by_test (eqb x mark) (λ f. rw f (plain_pointed mark v e.1)) (λ f. rw (f, e.0) (plain_pointed mark v e.1))

-- the figures, and what follows them
module _ (mark : ℕ) (unlike : eqb 59 mark ≡ false) (p l d m : List ℕ) (pp : Plain p) (pl : Plain l) (pd : Plain d) (pm : Plain m) where
  figures_parted : respelled 59 32 (in_book mark (p ++ 59 ∷ l)) ≡ in_book mark p ++ 32 ∷ in_book mark l
  figures_parted =
      ap (respelled 59 32) (respelled_append mark 46 p (59 ∷ l) ∙ ap (λ (b : Bool). in_book mark p ++ cond b 46 59 ∷ in_book mark l) unlike)
      ∙ respelled_append 59 32 (in_book mark p) (59 ∷ in_book mark l)
      ∙ ap₂ (λ (v w : List ℕ). v ++ 32 ∷ w) (plain_kept (in_book mark p) (plain_pointed mark p pp)) (plain_kept (in_book mark l) (plain_pointed mark l pl))

  day_parted : respelled 59 32 (59 ∷ (d ++ 59 ∷ m)) ≡ 32 ∷ (d ++ 32 ∷ m)
  day_parted = ap (λ (v : List ℕ). 32 ∷ v) (respelled_append 59 32 d (59 ∷ m) ∙ ap₂ (λ (v w : List ℕ). v ++ 32 ∷ w) (plain_kept d pd) (plain_kept m pm))

  trade_parted : respelled 59 32 (in_book mark (p ++ 59 ∷ l)) ++ respelled 59 32 (59 ∷ (d ++ 59 ∷ m)) ≡ trade_of mark p l d m
  trade_parted =
      ap₂ (λ (v w : List ℕ). v ++ w) figures_parted day_parted
      ∙ sym (append_assoc (in_book mark p ++ 32 ∷ in_book mark l) (32 ∷ d) (32 ∷ m))

between_none : (b : ℕ) (s : List ℕ) → between b b s ≡ []
between_none b s = let e : b - b ≡ 0 = omega arith in rw e

pub parts_length : (mark : ℕ) (v w : List ℕ) → length (respelled 59 32 (in_book mark v) ++ respelled 59 32 w) ≡ length v + length w
parts_length mark v w = simp (length-append, length-map)

field_of_lem : (t n : ℕ) (v w : List ℕ) → v ≡ w → n ≡ length v → t ∷ n / 256 ∷ n % 256 ∷ v ≡ field_of t w
field_of_lem t n v w e f = ap (λ (k : ℕ). t ∷ k / 256 ∷ k % 256 ∷ v) f ∙ ap (field_of t) e

-- a line of four parts
module _ (mark : ℕ) (s : List ℕ) (at t : ℕ) (p : Parts) (has : HasParts s at t p) where
  abbrev price : List ℕ
  price = between (at + 2) p.first s

  abbrev lots : List ℕ
  lots = between (p.first + 1) p.second s

  abbrev day : List ℕ
  day = between (p.second + 1) p.third s

  abbrev time : List ℕ
  time = between (p.third + 1) p.end s

  figures_at : between (at + 2) p.second s ≡ price ++ 59 ∷ lots
  figures_at =
      between_parted s (at + 2) p.first p.second (omega arith) (omega arith) (omega arith) ∙ ap (λ (x : ℕ). price ++ x ∷ lots) has.parted.0

  day_at : between p.second p.end s ≡ 59 ∷ (day ++ 59 ∷ time)
  day_at =
      between_parted s p.second p.second p.end (omega arith) (omega arith) (omega arith)
      ∙ ap (λ (v : List ℕ). v ++ get_or s p.second 0 ∷ between (p.second + 1) p.end s) (between_none p.second s)
      ∙ ap₂ (λ (x : ℕ) (v : List ℕ). x ∷ v) has.parted.1
      (between_parted s (p.second + 1) p.third p.end (omega arith) (omega arith) (omega arith) ∙ ap (λ (x : ℕ). day ++ x ∷ time) has.parted.2)

  trade_at : eqb 59 mark ≡ false → trade_in mark t (between (at + 2) p.second s) (between p.second p.end s) ≡ field_of t (trade_of mark price lots day time)
  trade_at unlike =
      field_of_lem t (length (between (at + 2) p.second s) + length (between p.second p.end s)) _ _
      (ap₂ (λ (v w : List ℕ). respelled 59 32 (in_book mark v) ++ respelled 59 32 w) figures_at day_at
      ∙ trade_parted mark unlike price lots day time has.plain.0 has.plain.1 has.plain.2 has.plain.3)
      (sym (parts_length mark (between (at + 2) p.second s) (between p.second p.end s)))

  pub trade_fields : eqb 59 mark ≡ false → (t ≡ 73 → ⊥) → trade_in mark t (between (at + 2) p.second s) (between p.second p.end s) ≡ four_at mark s at t p
  trade_fields unlike h =
      trade_at unlike ∙ ap (λ (x : Bool). cond x (seat_of mark t price lots day time) (field_of t (trade_of mark price lots day time))) (sym (ne_eqb t 73 h))

  pub seat_fields : t ≡ 73 → seat_of mark 73 price lots day time ≡ four_at mark s at t p
  seat_fields h =
      ap (λ (n : ℕ). seat_of mark n price lots day time) (sym h)
      ∙ ap (λ (x : Bool). cond x (seat_of mark t price lots day time) (field_of t (trade_of mark price lots day time))) (sym (eq-eqb t 73 h))
