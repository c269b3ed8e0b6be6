-- Lots counted in buckets of stamps: bucket j holds what lies from low + j widths on and before one width more. So from the lots of `low` or
-- later, those of every further bucket's start or later are had by subtraction.
-- Assumes nothing.
use Rattle.std.specs.Prelude.{ℕ, ◌+◌, ◌-◌, ◌*◌, ◌/◌, ◌≤◌, ◌<◌, min, ◌≡◌, List, cond, ltb, leb, eqb, get_or, length, set}
use Rattle.std.proofs.Common.{ap, ◌∙◌, arith, div-add-mod', mod-lt, mul-le-mul, le_refl, get_or-set_same, get_or-set_other, ltb-true, ltb-false, le-leb, eqb-true, eq-eqb, ne_eqb}
use Rattle.std.proofs.lemmas.Bool.{lt-leb, eqb-false}
use Rattle.laws.specs.ByTest.{by_test}

-- the bucket of a stamp; 72 is for those of none
abbrev pub bucket_of : ℕ → ℕ → ℕ → ℕ
bucket_of low width s = cond (ltb s low) 72 (min 72 ((s - low) / width))

-- one cell of a list has l more
pub bumped : (b : List ℕ) (k l j : ℕ) → k < length b → get_or (set b k (get_or b k 0 + l)) j 0 ≡ get_or b j 0 + cond (eqb j k) l 0
bumped b k l j h =
    by_test (eqb j k)
    (λ e. let same : j ≡ k = eqb-true j k e in rw (e, same) (get_or-set_same b k (get_or b k 0 + l) 0 h))
    (λ e. rw e (get_or-set_other b k j (get_or b k 0 + l) 0 (eqb-false j k e) ∙ omega arith))

-- a trade in its bucket
pub one_bucket : (low w s l j : ℕ) → 0 < w → j < 72 →
    cond (eqb j (bucket_of low w s)) l 0 + cond (leb (low + (j + 1) * w) s) l 0 ≡ cond (leb (low + j * w) s) l 0
one_bucket low w s l j p h =
    by_test (ltb s low)
    (λ e. let below = ltb-true s low e in rw (e, ne_eqb j 72 (λ z. omega arith), lt-leb (low + (j + 1) * w) s (omega arith), lt-leb (low + j * w) s (omega arith)))
    (λ e.
    let from = ltb-false s low e in
    let k = (s - low) / w in
    let whole = div-add-mod' (s - low) w in
    let rest = mod-lt (s - low) p in
    by_test (ltb j k)
    (λ f.
    let before = ltb-true j k f in
    let most = mul-le-mul before (le_refl w) in
    rw (e, ne_eqb j (min 72 k) (λ z. omega arith), le-leb (low + (j + 1) * w) s (omega arith), le-leb (low + j * w) s (omega arith)) (omega arith))
    (λ f.
    let since = ltb-false j k f in
    by_test (eqb j k)
    (λ g.
    let same : j ≡ k = eqb-true j k g in
    let product : j * w ≡ k * w = ap (λ (n : ℕ). n * w) same in
    rw (e, eq-eqb j (min 72 k) (omega arith), lt-leb (low + (j + 1) * w) s (omega arith), le-leb (low + j * w) s (omega arith)) (omega arith))
    (λ g.
    let apart = eqb-false j k g in
    let after : k + 1 ≤ j = omega arith in
    let least = mul-le-mul after (le_refl w) in
    rw (e, ne_eqb j (min 72 k) (λ z. omega arith), lt-leb (low + (j + 1) * w) s (omega arith), lt-leb (low + j * w) s (omega arith)))))
