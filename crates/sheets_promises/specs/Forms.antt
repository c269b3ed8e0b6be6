-- What a line comes to, in the request's words: 22 exactly where its form is not good, 21 exactly where its form is good and the other mark stands in
-- one of its figures, and fields otherwise. Each number of parts is gone through once, and each letter.
-- Assumes nothing.
use Rattle.std.specs.Prelude.{ℕ, ◌≡◌, refl, List, [], ◌∷◌, Bool, true, false, cond, ◌&&◌, ◌||◌, ltb, eqb, length, take, drop}
use Prim.Native.Char.{code}
use Rattle.std.proofs.Common.{ap, subst, arith, ne_eqb}
use Rattle.rules.specs.Text.{is}
use Rattle.rules.specs.Book.{Step, Stop, Next, refuse}
use Rattle.laws.specs.ByTest.{by_test}
use Rattle.sheets.specs.Mark.{other, in_book, stands_in}
use Rattle.sheets.specs.Line.{parts_of, carried, figured, traded, field_of, strays, one_of, seat_of, trade_of, four_of, of_parts, line_of}
use Rattle.sheets_promises.specs.Good.{tag_is}
use Rattle.sheets_promises.specs.Tags.{by_carried, by_figured, by_traded}

-- "Letters and parts after them: D, X, S, L, U, V, C one; I four (code, K, H, Q); B and A four (price, lots, day, time)"
abbrev pub parts_after : ℕ → ℕ
parts_after t = cond (carried t || figured t) 1 (cond (is "I" t || traded t) 4 0)

-- one of these letters by itself, and as many parts after it
abbrev pub formed : List (List ℕ) → Bool
formed [] = false
formed ([] ∷ ps) = false
formed ((t ∷ []) ∷ ps) = ltb 0 (parts_after t) && eqb (length ps) (parts_after t)
formed ((t ∷ u ∷ v) ∷ ps) = false

-- "a price, rate or lots figure (S, L, U, V; K, H, Q; price and lots of a trade)": the parts that are figures
abbrev pub figures_of : List (List ℕ) → List (List ℕ)
figures_of [] = []
figures_of ([] ∷ ps) = []
figures_of ((t ∷ w) ∷ ps) = cond (figured t) ps (cond (is "I" t) (drop 1 ps) (cond (traded t) (take 2 ps) []))

-- "the other mark" in one of them
abbrev pub stray_in : ℕ → List (List ℕ) → Bool
stray_in m [] = false
stray_in m (v ∷ vs) = stands_in (other m) v || stray_in m vs

or_none : (a : Bool) → (a || false) ≡ a
or_none true = refl
or_none false = refl

or_three : (a b c : Bool) → (a || (b || (c || false))) ≡ (a || b || c)
or_three true b c = refl
or_three false true c = refl
or_three false false c = or_none c

-- no letter has another number of parts
not_so_many : (t n : ℕ) → (n ≡ 1 → ⊥) → (n ≡ 4 → ⊥) → (ltb 0 (parts_after t) && eqb n (parts_after t)) ≡ false
not_so_many t n h k = by_test (carried t || figured t) (λ e. rw (e, ne_eqb n 1 h)) (λ e. by_test (is "I" t || traded t) (λ f. rw (e, f, ne_eqb n 4 k)) (λ f. rw (e, f)))

module _ (m : ℕ) where
  pub data Says (ps : List (List ℕ)) : Step (List ℕ) → Type 0 where
    no_form : formed ps ≡ false → Says ps (Stop 22)
    a_stray : formed ps ≡ true → stray_in m (figures_of ps) ≡ true → Says ps (Stop 21)
    good : {f : List ℕ} → formed ps ≡ true → stray_in m (figures_of ps) ≡ false → Says ps (Next f)

  judged : (ps : List (List ℕ)) (x : Bool) (f : List ℕ) → formed ps ≡ true → stray_in m (figures_of ps) ≡ x → Says ps (refuse 21 x (Next f))
  judged ps true f g s = a_stray g s
  judged ps false f g s = good g s

  one_says : (t : ℕ) (v : List ℕ) → Says ((t ∷ []) ∷ v ∷ []) (one_of m t v)
  one_says t v =
      by_test (carried t)
      (λ c. by_carried (λ u. Says ((u ∷ []) ∷ v ∷ []) (one_of m u v)) t (good refl refl) (good refl refl) (good refl refl) c)
      (λ c. by_test (figured t)
      (λ f. by_figured (λ u. Says ((u ∷ []) ∷ v ∷ []) (one_of m u v)) t (figure (code "S") refl refl) (figure (code "L") refl refl) (figure (code "U") refl refl) (figure (code "V") refl refl) f)
      (λ f. rw (c, f) (no_form (by_test (is "I" t || traded t) (λ e. rw (c, f, e)) (λ e. rw (c, f, e))))))
    where
      figure : (u : ℕ) → formed ((u ∷ []) ∷ v ∷ []) ≡ true → figures_of ((u ∷ []) ∷ v ∷ []) ≡ v ∷ [] → Says ((u ∷ []) ∷ v ∷ []) (refuse 21 (strays m v) (Next (field_of u (in_book m v))))
      figure u f g = judged ((u ∷ []) ∷ v ∷ []) (strays m v) (field_of u (in_book m v)) f (rw g (or_none (strays m v)))

  four_says : (t : ℕ) (a b c d : List ℕ) → Says ((t ∷ []) ∷ a ∷ b ∷ c ∷ d ∷ []) (four_of m t a b c d)
  four_says t a b c d =
      by_test (is "I" t)
      (λ i. subst (λ (u : ℕ). Says ((u ∷ []) ∷ a ∷ b ∷ c ∷ d ∷ []) (four_of m u a b c d)) (tag_is "I" t i) seat)
      (λ i. by_test (traded t)
      (λ x. by_traded (λ u. Says ((u ∷ []) ∷ a ∷ b ∷ c ∷ d ∷ []) (four_of m u a b c d)) t (trade (code "B") refl refl) (trade (code "A") refl refl) x)
      (λ x. rw (i, x) (no_form (by_test (carried t || figured t) (λ e. rw e) (λ e. rw (e, i, x))))))
    where
      seat : Says ((code "I" ∷ []) ∷ a ∷ b ∷ c ∷ d ∷ []) (refuse 21 (strays m b || strays m c || strays m d) (Next (seat_of m (code "I") a b c d)))
      seat = judged ((code "I" ∷ []) ∷ a ∷ b ∷ c ∷ d ∷ []) (strays m b || strays m c || strays m d) (seat_of m (code "I") a b c d) refl (or_three (strays m b) (strays m c) (strays m d))

      trade : (u : ℕ) → formed ((u ∷ []) ∷ a ∷ b ∷ c ∷ d ∷ []) ≡ true → figures_of ((u ∷ []) ∷ a ∷ b ∷ c ∷ d ∷ []) ≡ a ∷ b ∷ [] →
          Says ((u ∷ []) ∷ a ∷ b ∷ c ∷ d ∷ []) (refuse 21 (strays m a || strays m b) (Next (field_of u (trade_of m a b c d))))
      trade u f g = judged ((u ∷ []) ∷ a ∷ b ∷ c ∷ d ∷ []) (strays m a || strays m b) (field_of u (trade_of m a b c d)) f (rw g (ap (λ (x : Bool). strays m a || x) (or_none (strays m b))))

  parts_say : (ps : List (List ℕ)) → Says ps (of_parts m ps)
  parts_say [] = no_form refl
  parts_say ([] ∷ ps) = no_form refl
  parts_say ((t ∷ []) ∷ []) = no_form (not_so_many t 0 (λ e. omega arith) (λ e. omega arith))
  parts_say ((t ∷ []) ∷ v ∷ []) = one_says t v
  parts_say ((t ∷ []) ∷ a ∷ b ∷ []) = no_form (not_so_many t 2 (λ e. omega arith) (λ e. omega arith))
  parts_say ((t ∷ []) ∷ a ∷ b ∷ c ∷ []) = no_form (not_so_many t 3 (λ e. omega arith) (λ e. omega arith))
  parts_say ((t ∷ []) ∷ a ∷ b ∷ c ∷ d ∷ []) = four_says t a b c d
  parts_say ((t ∷ []) ∷ a ∷ b ∷ c ∷ d ∷ e ∷ ps) = no_form (not_so_many t (length (a ∷ b ∷ c ∷ d ∷ e ∷ ps)) (λ z. omega arith) (λ z. omega arith))
  parts_say ((t ∷ u ∷ v) ∷ ps) = no_form refl

  pub line_says : (v : List ℕ) → Says (parts_of v) (line_of m v)
  unfolding line_of
  line_says v = parts_say (parts_of v)
