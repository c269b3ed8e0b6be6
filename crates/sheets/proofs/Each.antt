-- Bytes written one after the other, each as a function has it.
-- Assumes nothing.
use Prim.Native.Nat.{ℕ, ◌+◌, ◌<◌, ◌≤◌}
use mathlib.Core.Path.{◌≡◌, sym, ap, ◌∙◌}
use mathlib.Core.List.{List, [], ◌∷◌, ◌++◌, map, map-append}
use native.Mathlib.Numerals.{add-one}
use native.Mathlib.Omega.{arith}
use lib.ListN.{length, take, set, get_or, length-map, length-take}
use lib.Seq.{take-suc}
use Rattle.std.proofs.lemmas.Grind.{common_steps}
use Rattle.writing.specs.Written.{Wrote, written, written_length, written_one, written_join}

module _ (f : ℕ → ℕ) (s : List ℕ) (at : ℕ) (entry : List ℕ) (room : at + length s ≤ length entry) where
  front_length : (i : ℕ) → i ≤ length s → length (map f (take i s)) ≡ i
  front_length i h = simp (length-map, length-take) (omega arith)

  front_more : (i : ℕ) → i < length s → map f (take (i + 1) s) ≡ map f (take i s) ++ f (get_or s i 0) ∷ []
  front_more i h = rw (add-one, take-suc s i 0 h, map-append)

  pub each_more : (i y : ℕ) (run : List ℕ) → i < length s → run ≡ written at (map f (take i s)) entry → y ≡ f (get_or s i 0) →
      set run (at + i) y ≡ written at (map f (take (i + 1) s)) entry
  each_more i y run h e g =
      let t = map f (take i s) in
      let n = front_length i (omega arith) in
      let long = written_length at t entry (omega (arith, n)) in
      let place : at + i ≡ at + length t = omega (arith, n) in
      ap (λ (o : List ℕ). set o (at + i) y) e ∙ ap (λ (m : ℕ). set (written at t entry) m y) place
      ∙ sym (written_one (at + length t) y (written at t entry) (omega (arith, n, long))) ∙ written_join at t (y ∷ []) entry (omega arith)
      ∙ ap (λ (x : ℕ). written at (t ++ x ∷ []) entry) g ∙ ap (λ (l : List ℕ). written at l entry) (sym (front_more i h))

  pub each_all : (i : ℕ) (run : List ℕ) → length s ≤ i → run ≡ written at (map f (take i s)) entry → Wrote at (map f s) entry run (at + length s)
  each_all i run h e =
      let a : take i s ≡ s = grind (arith, common_steps) in
      record { whole = e ∙ ap (λ (l : List ℕ). written at (map f l) entry) a; next = omega (arith, length-map s f) }
