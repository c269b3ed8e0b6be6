-- Lists of numbers that rise and have the same members are the same.
-- Assumes nothing.
use Rattle.std.specs.Prelude.{ℕ, suc, ◌≤◌, ◌<◌, ◌≡◌, refl, List, [], ◌∷◌, Bool, true, false, ltb, eqb}
use Rattle.std.proofs.Common.{sym, ap₂, ◌∙◌, arith, ltb-true, ltb-false, eqb-true, eq-eqb, ne_eqb}
use Rattle.laws.specs.ByTest.{by_test}
use Rattle.consequences.specs.Rearranged.{among}

abbrev pub Rises : ℕ → ℕ → List ℕ → Type 0
Rises lo hi [] = lo ≤ hi
Rises lo hi (i ∷ is) = (lo ≤ i) × Rises (suc i) hi is

rises_span : (lo hi : ℕ) (is : List ℕ) → Rises lo hi is → lo ≤ hi
rises_span lo hi [] r = r
rises_span lo hi (i ∷ is) r = omega (arith, rises_span (suc i) hi is r.1)

none_low : (lo hi k : ℕ) (is : List ℕ) → Rises lo hi is → k < lo → among k is ≡ false
none_low lo hi k [] r h = refl
none_low lo hi k (i ∷ is) r h = rw (ne_eqb k i (λ z. omega arith)) (none_low (suc i) hi k is r.1 (omega arith))

pub none_high : (lo hi k : ℕ) (is : List ℕ) → Rises lo hi is → hi ≤ k → among k is ≡ false
none_high lo hi k [] r h = refl
none_high lo hi k (i ∷ is) r h = rw (ne_eqb k i (λ z. omega (arith, rises_span (suc i) hi is r.1))) (none_high (suc i) hi k is r.1 h)

pub own : (i : ℕ) (is : List ℕ) → among i (i ∷ is) ≡ true
own i is = rw (eq-eqb i i refl)

never : {b : Bool} → b ≡ true → b ≡ false → ⊥
never p q = let z : ◌≡◌ {A = Bool} true false = sym p ∙ q in let w : ◌≡◌ {A = ℕ} 0 1 = cc in omega arith

pub one_rise : (lo hi : ℕ) (is js : List ℕ) → Rises lo hi is → Rises lo hi js → ((k : ℕ) → among k is ≡ among k js) → is ≡ js
one_rise lo hi [] [] r q m = refl
one_rise lo hi [] (j ∷ js) r q m = absurd (never (own j js) (sym (m j)))
one_rise lo hi (i ∷ is) [] r q m = absurd (never (own i is) (m i))
one_rise lo hi (i ∷ is) (j ∷ js) r q m =
    by_test (ltb i j)
    (λ e. absurd (never (own i is) (m i ∙ none_low j hi i (j ∷ js) (omega arith, q.1) (ltb-true i j e))))
    (λ e. by_test (ltb j i)
    (λ f. absurd (never (own j js) (sym (m j) ∙ none_low i hi j (i ∷ is) (omega arith, r.1) (ltb-true j i f))))
    (λ f.
    let same : i ≡ j = omega (arith, ltb-false i j e, ltb-false j i f) in
    let q' : Rises (suc i) hi js = rw same q.1 in
    let rest : (k : ℕ) → among k is ≡ among k js =
    λ k. by_test (eqb k i)
    (λ g. let at : k ≡ i = eqb-true k i g in none_low (suc i) hi k is r.1 (omega arith) ∙ sym (none_low (suc i) hi k js q' (omega arith)))
    (λ g. let h = m k in rw (g, rw same at g) at h) in
    ap₂ (λ (x : ℕ) (l : List ℕ). x ∷ l) same (one_rise (suc i) hi is js r.1 q' rest)))
