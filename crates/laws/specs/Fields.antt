-- The fields of a book from a place on, as code finds them: by index. What `fields_of` bounds by fuel is gone here.
-- Assumes nothing.
use Rattle.std.specs.Prelude.{ℕ, zero, suc, ◌+◌, ◌*◌, ◌-◌, ◌≤◌, ◌<◌, ◌≡◌, Bool, true, false, cond, take, get_or, ltb, leb}
use Rattle.std.proofs.Math.Path.{refl, ap}
use Rattle.std.proofs.Common.{sym, ap₂, ◌∙◌, drop_of_length-le, get_or-drop, drop-drop, lt-ltb, le-ltb, leb-true, leb-false, arith}
use mathlib.Core.List.{List, [], ◌∷◌}
use Rattle.std.proofs.Math.ListN.{length, drop, length-take, length-drop}
use Rattle.rules.specs.Fields.{Field, Whole, Cut, fields_in, fields_of}

-- any bound at least the length gives the same fields
bound : (m n : ℕ) (s : List ℕ) → length s ≤ m → length s ≤ n → fields_in m s ≡ fields_in n s
bound zero zero s h k = refl
bound zero (suc n) [] h k = refl
bound zero (suc n) (x ∷ s) h k = absurd (omega arith)
bound (suc m) zero [] h k = refl
bound (suc m) zero (x ∷ s) h k = absurd (omega arith)
bound (suc m) (suc n) [] h k = refl
bound (suc m) (suc n) (t ∷ []) h k = refl
bound (suc m) (suc n) (t ∷ a ∷ []) h k = refl
bound (suc m) (suc n) (t ∷ a ∷ b ∷ s) h k =
    let d = a * 256 + b in
    ap (λ (fs : List Field). cond (ltb (length (take d s)) d) (Cut ∷ []) (Whole t (take d s) ∷ fs))
    (bound m n (drop d s) (simp length-drop (omega arith)) (simp length-drop (omega arith)))

pub fields_cons :
    (t a b : ℕ) (s : List ℕ) →
    fields_of (t ∷ a ∷ b ∷ s)
    ≡ cond (ltb (length (take (a * 256 + b) s)) (a * 256 + b)) (Cut ∷ []) (Whole t (take (a * 256 + b) s) ∷ fields_of (drop (a * 256 + b) s))
unfolding fields_of
fields_cons t a b s =
    let d = a * 256 + b in
    ap (λ (fs : List Field). cond (ltb (length (take d s)) d) (Cut ∷ []) (Whole t (take d s) ∷ fs))
    (bound (suc (suc (length s))) (length (drop d s)) (drop d s) (simp length-drop (omega arith)) (omega arith))

-- the length that the two bytes after the tag at i say
abbrev pub size_at : List ℕ → ℕ → ℕ
size_at s i = get_or s (i + 1) 0 * 256 + get_or s (i + 2) 0

pub fields_end : (s : List ℕ) (i : ℕ) → length s ≤ i → fields_of (drop i s) ≡ []
unfolding fields_of
fields_end s i h = rw (drop_of_length-le s h)

module _ (s : List ℕ) (i : ℕ) where
  -- the three bytes before a value
  record Three : Type 0 where
    t : ℕ
    a : ℕ
    b : ℕ
    r : List ℕ
    is : drop i s ≡ t ∷ a ∷ b ∷ r

  size_is : (x : Three) → size_at s i ≡ x.a * 256 + x.b
  size_is x =
      let p : get_or s (i + 1) 0 ≡ x.a = sym (get_or-drop i s 1 0) ∙ ap (λ (l : List ℕ). get_or l 1 0) x.is in
      let q : get_or s (i + 2) 0 ≡ x.b = sym (get_or-drop i s 2 0) ∙ ap (λ (l : List ℕ). get_or l 2 0) x.is in
      rw (p, q)

  length_is : (x : Three) → length s - i ≡ 3 + length x.r
  length_is x = omega (arith, length-drop i s, ap length x.is)

  pub fields_cut : i < length s → length s < i + 3 + size_at s i → fields_of (drop i s) ≡ Cut ∷ []
  unfolding fields_of
  fields_cut h k = go (drop i s) refl
    where
      go : (l : List ℕ) → drop i s ≡ l → fields_of l ≡ Cut ∷ []
      go [] e = absurd (omega (arith, length-drop i s, ap length e))
      go (t ∷ []) e = refl
      go (t ∷ a ∷ []) e = refl
      go (t ∷ a ∷ b ∷ r) e =
          let x : Three = record { t = t; a = a; b = b; r = r; is = e } in
          let d = a * 256 + b in
          let short : length (take d r) < d = simp length-take (omega (arith, size_is x, length_is x)) in
          fields_cons t a b r ∙ rw (lt-ltb (length (take d r)) d short)

  pub fields_whole :
      i + 3 + size_at s i ≤ length s →
      fields_of (drop i s) ≡ Whole (get_or s i 0) (take (size_at s i) (drop (i + 3) s)) ∷ fields_of (drop (i + 3 + size_at s i) s)
  fields_whole h = go (drop i s) refl
    where
      go : (l : List ℕ) → drop i s ≡ l → fields_of l ≡ Whole (get_or s i 0) (take (size_at s i) (drop (i + 3) s)) ∷ fields_of (drop (i + 3 + size_at s i) s)
      go [] e = absurd (omega (arith, length-drop i s, ap length e))
      go (t ∷ []) e = absurd (omega (arith, length-drop i s, ap length e))
      go (t ∷ a ∷ []) e = absurd (omega (arith, length-drop i s, ap length e))
      go (t ∷ a ∷ b ∷ r) e =
          let x : Three = record { t = t; a = a; b = b; r = r; is = e } in
          let n = size_is x in
          let d = a * 256 + b in
          let f : drop (i + 3) s ≡ r = sym (drop-drop 3 i s) ∙ ap (drop 3) e in
          let z : i + 0 ≡ i = omega arith in
          let g : get_or s i 0 ≡ t = ap (λ (j : ℕ). get_or s j 0) (sym z) ∙ sym (get_or-drop i s 0 0) ∙ ap (λ (l : List ℕ). get_or l 0 0) e in
          let u : take (size_at s i) (drop (i + 3) s) ≡ take d r = ap₂ take n f in
          let v : drop (i + 3 + size_at s i) s ≡ drop d r = sym (drop-drop (size_at s i) (i + 3) s) ∙ ap₂ drop n f in
          let long : d ≤ length (take d r) = simp length-take (omega (arith, n, length_is x)) in
          fields_cons t a b r
          ∙ rw (le-ltb (length (take d r)) d long) (sym (ap₂ (λ (y : Field) (l : List Field). y ∷ l) (ap₂ Whole g u) (ap fields_of v)))

  -- a whole field is followed by the fields from its end on, and its value stands in the book
  pub record Next (t : ℕ) (v : List ℕ) (fs : List Field) : Type 0 where
    pub rest : fs ≡ fields_of (drop (i + 3 + length v) s)
    pub inside : i + 3 + length v ≤ length s

  pub fields_next : (t : ℕ) (v : List ℕ) (fs : List Field) → fields_of (drop i s) ≡ Whole t v ∷ fs → Next t v fs
  fields_next t v fs e = go (leb (i + 3 + size_at s i) (length s)) refl
    where
      go : (b : Bool) → leb (i + 3 + size_at s i) (length s) ≡ b → Next t v fs
      go true h =
          let w : i + 3 + size_at s i ≤ length s = leb-true _ _ h in
          let k : Whole (get_or s i 0) (take (size_at s i) (drop (i + 3) s)) ∷ fields_of (drop (i + 3 + size_at s i) s) ≡ Whole t v ∷ fs = sym (fields_whole w) ∙ e in
          let value : take (size_at s i) (drop (i + 3) s) ≡ v = cc in
          let more : fields_of (drop (i + 3 + size_at s i) s) ≡ fs = cc in
          let n : length v ≡ size_at s i = rw (← value) (simp (length-take, length-drop) (omega arith)) in
          record { rest = rw n (sym more); inside = omega arith }
      go false h = absurd (past (leb (length s) i) refl)
        where
          beyond : length s < i + 3 + size_at s i
          beyond = omega (arith, leb-false)

          past : (b : Bool) → leb (length s) i ≡ b → ⊥
          past true q = let k : [] ≡ Whole t v ∷ fs = sym (fields_end s i (leb-true _ _ q)) ∙ e in let z : ◌≡◌ {A = ℕ} 0 1 = cc in omega arith
          past false q = let k : Cut ∷ [] ≡ Whole t v ∷ fs = sym (fields_cut (omega (arith, leb-false)) beyond) ∙ e in let z : ◌≡◌ {A = ℕ} 0 1 = cc in omega arith
