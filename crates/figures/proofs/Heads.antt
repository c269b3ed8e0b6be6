-- A figure that was read at the start of bytes, read again: its digits end at its point, or where it ends.
-- Assumes nothing.
use Rattle.std.proofs.Common.{◌≡◌, ℕ, ◌+◌, ◌<◌, ◌≤◌, Bool, true, false, cond, ◌&&◌, leb, List, [], ◌∷◌, length, get_or, take, drop, sym, ap, ◌∙◌, ap₂, arith, eq-eqb, ne_eqb}
use Prim.Native.Char.{code}
use Rattle.rules.specs.Text.{is}
use Rattle.figures.specs.declared.start.Start.TheVariants.{Ends}
use Rattle.figures.specs.declared.start.Start.TheVariants.{Other as NoStart}
use Rattle.figures.specs.Numbers.{run, run_number, may_be_whole}
use Rattle.figures.specs.Starts.{pointed, behind, start_of}
use Rattle.figures.proofs.Lists.{by_test, drop_step}
use Rattle.figures.proofs.Starts.{chosen}

-- the digits at the start are no longer than the figure

pointed_end : (good : Bool) (n k i p d e : ℕ) → cond good (Ends n k (i + 1 + k)) NoStart ≡ Ends p d e → i ≤ e
pointed_end true n k i p d e h = let z : i + 1 + k ≡ e = cc in omega arith
pointed_end false n k i p d e h = let z : ◌≡◌ {A = ℕ} 0 1 = cc in absurd (omega arith)

behind_end : (i n : ℕ) (w : List ℕ) (p d e : ℕ) → behind i n w ≡ Ends p d e → i ≤ e
behind_end i n [] p d e h = let z : i ≡ e = cc in omega arith
behind_end i n (x ∷ w) p d e h =
    by_test (is "." x)
    (λ t. pointed_end (leb 1 (run w) && leb (i + run w) 7) (run_number n w) (run w) i p d e (simp t at h))
    (λ t. let k : Ends n 0 i ≡ Ends p d e = simp t at h in let z : i ≡ e = cc in omega arith)

pub digits_inside : (v : List ℕ) (p d e : ℕ) → start_of v ≡ Ends p d e → e < length v → run v < length v
digits_inside v p d e h l =
    let c = chosen (may_be_whole (take (run v) v)) (behind (run v) (run_number 0 v) (drop (run v) v)) p d e h in
    omega (arith, behind_end (run v) (run_number 0 v) (drop (run v) v) p d e c.1)

-- and what follows them tells the rest
rest_told :
    (v : List ℕ) (p d e i n : ℕ) → i ≡ run v → n ≡ run_number 0 v → start_of v ≡ Ends p d e → i < length v →
    start_of v ≡ behind i n (get_or v i 0 ∷ drop (i + 1) v)
rest_told v p d e i n a b h l =
    let c = chosen (may_be_whole (take (run v) v)) (behind (run v) (run_number 0 v) (drop (run v) v)) p d e h in
    h ∙ sym c.1 ∙ ap₂ (λ (x y : ℕ). behind x y (drop x v)) (sym a) (sym b) ∙ ap (behind i n) (drop_step v i l)

pub no_point :
    (v : List ℕ) (p d e i n : ℕ) → i ≡ run v → n ≡ run_number 0 v → start_of v ≡ Ends p d e → i < length v → (get_or v i 0 ≡ code "." → ⊥) →
    start_of v ≡ Ends n 0 i
no_point v p d e i n a b h l g = rest_told v p d e i n a b h l ∙ simp (ne_eqb (get_or v i 0) (code ".") g)

pub point :
    (v : List ℕ) (p d e i n : ℕ) → i ≡ run v → n ≡ run_number 0 v → start_of v ≡ Ends p d e → i < length v → get_or v i 0 ≡ code "." →
    let ds = drop (i + 1) v in
    start_of v ≡ Ends (run_number n ds) (run ds) (i + 1 + run ds)
point v p d e i n a b h l g =
    let ds = drop (i + 1) v in
    let t = rest_told v p d e i n a b h l ∙ ap (λ (c : Bool). cond c (pointed i (run ds) (run_number n ds)) (Ends n 0 i)) (eq-eqb (get_or v i 0) (code ".") g) in
    let c = chosen (leb 1 (run ds) && leb (i + run ds) 7) (Ends (run_number n ds) (run ds) (i + 1 + run ds)) p d e (sym t ∙ h) in
    h ∙ sym c.1
