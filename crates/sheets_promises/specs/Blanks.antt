-- A trade of a sheet whose book's table took it has no blank but the three between its parts, since the parts that the table read have none: so the
-- parts are the sheet's, and the trade is written with them.
-- Assumes nothing.
use Rattle.std.specs.Prelude.{ℕ, ◌+◌, ◌≡◌, refl, List, [], ◌∷◌, ◌++◌, true, false, eqb}
use Prim.Native.Char.{code}
use Rattle.std.proofs.Common.{sym, ap, ap₂, ◌∙◌, append_assoc, arith}
use Rattle.std.proofs.lemmas.Bool.{eqb-false}
use Rattle.rules.specs.Division.{one_if, sum_of}
use Rattle.laws.specs.ByTest.{by_test}
use Rattle.laws.specs.Sums.{sum-append}
use Rattle.sheets.specs.Mark.{is_mark, other, in_book, in_sheet}
use Rattle.sheets.specs.Line.{strays, trade_of}
use Rattle.sheets_promises.specs.Bytes.{Each, each_also, Lacks, stands_lacks, Bare, Clean}
use Rattle.sheets_promises.specs.Marks.{back_and_there}
use Rattle.sheets_promises.specs.TradeValues.{Traded}
use Rattle.sheets_promises.specs.Written.{same_sheet}
use Rattle.sheets_promises.specs.FourParts.{turned, turned_trade}

-- how often a byte stands in some bytes
abbrev count : ℕ → List ℕ → ℕ
count c v = sum_of (λ b. one_if (eqb b c)) v

count_none : (c : ℕ) (v : List ℕ) → Lacks c v → count c v ≡ 0
count_none c [] h = refl
count_none c (b ∷ v) h = rw h.0 (omega (arith, count_none c v h.1))

none_lacks : (c : ℕ) (v : List ℕ) → count c v ≡ 0 → Lacks c v
none_lacks c [] h = tt
none_lacks c (b ∷ v) h =
    by_test (eqb b c)
    (λ e. absurd (omega (arith, ap one_if e)))
    (λ e. (e, none_lacks c v (omega arith)))

-- the same bytes split at the same byte
same_split : (c : ℕ) (x y r u : List ℕ) → Lacks c x → Lacks c y → x ++ c ∷ r ≡ y ++ c ∷ u → (x ≡ y) × (r ≡ u)
same_split c [] [] r u h k e = (refl, cc)
same_split c [] (b ∷ y) r u h k e = let z : b ≡ c = cc in absurd (eqb-false b c k.0 z)
same_split c (a ∷ x) [] r u h k e = let z : a ≡ c = cc in absurd (eqb-false a c h.0 z)
same_split c (a ∷ x) (b ∷ y) r u h k e =
    let z : a ≡ b = cc in
    let w : x ++ c ∷ r ≡ y ++ c ∷ u = cc in
    let (p, q) = same_split c x y r u h.1 k.1 w in
    (ap₂ ◌∷◌ z p, q)

four_count : (a b c d : List ℕ) → count (code " ") (a ++ code " " ∷ b ++ code " " ∷ c ++ code " " ∷ d) ≡ count (code " ") a + count (code " ") b + count (code " ") c + count (code " ") d + 3
four_count a b c d = simp sum-append (omega arith)

four_nested : (a b c d : List ℕ) → a ++ code " " ∷ b ++ code " " ∷ c ++ code " " ∷ d ≡ a ++ code " " ∷ (b ++ code " " ∷ (c ++ code " " ∷ d))
four_nested a b c d = simp append_assoc

-- three blanks, and so none in the parts
module _ (m : ℕ) (k : is_mark m ≡ true) (a b c d : List ℕ) (x : Traded (trade_of m a b c d)) where
  blanks : (v : List ℕ) → Each Bare v → count (code " ") v ≡ 0
  blanks v h = count_none (code " ") v (each_also (λ y z. z.clean.part.blank) v h)

  three : count (code " ") (trade_of m a b c d) ≡ 3
  three =
      ap (count (code " ")) x.value
      ∙ simp sum-append (omega (arith, count_none (code " ") x.price (each_also (λ y z. z.part.blank) x.price x.price_clean), blanks x.lots x.lots_bare, blanks x.day x.day_bare, blanks x.time x.time_bare))

  parts_blank : (count (code " ") (in_book m a) ≡ 0) × (count (code " ") (in_book m b) ≡ 0) × (count (code " ") c ≡ 0) × (count (code " ") d ≡ 0)
  parts_blank = let n = four_count (in_book m a) (in_book m b) c d in omega (arith, three)

  clean_blanks : (v : List ℕ) → Each Clean v → Lacks (code " ") v
  clean_blanks v h = each_also (λ y z. z.part.blank) v h

  bare_blanks : (v : List ℕ) → Each Bare v → Lacks (code " ") v
  bare_blanks v h = each_also (λ y z. z.clean.part.blank) v h

  pub same_parts : (x.price ≡ in_book m a) × (x.lots ≡ in_book m b) × (x.day ≡ c) × (x.time ≡ d)
  same_parts =
      let (na, nb, nc, nd) = parts_blank in
      let whole = sym x.value ∙ four_nested (in_book m a) (in_book m b) c d in
      let (p, q) = same_split (code " ") x.price (in_book m a) _ _ (clean_blanks x.price x.price_clean) (none_lacks (code " ") (in_book m a) na) whole in
      let (r, s) = same_split (code " ") x.lots (in_book m b) _ _ (bare_blanks x.lots x.lots_bare) (none_lacks (code " ") (in_book m b) nb) q in
      let (t, u) = same_split (code " ") x.day c _ _ (bare_blanks x.day x.day_bare) (none_lacks (code " ") c nc) s in
      (p, r, t, u)

  -- and the trade is written with its parts as they stood
  pub trade_turned : strays m a ≡ false → strays m b ≡ false → turned m k (trade_of m a b c d) ≡ a ++ code ";" ∷ (b ++ code ";" ∷ (c ++ code ";" ∷ d))
  trade_turned ha hb =
      let (p, l, t, u) = same_parts in
      let price : in_sheet m x.price ≡ a = ap (in_sheet m) p ∙ back_and_there m k a (stands_lacks (other m) a ha) in
      let lots : x.lots ≡ b = sym (same_sheet m k x.lots x.lots_bare) ∙ ap (in_sheet m) l ∙ back_and_there m k b (stands_lacks (other m) b hb) in
      turned_trade m k (trade_of m a b c d) x ∙ rw (price, lots, t, u)
