-- The roll's refusal is the verdict's.
-- Assumes nothing.
use Prim.Native.Nat.{ℕ}
use mathlib.Core.Path.{◌≡◌, refl, sym, ap, ◌∙◌}
use mathlib.Core.List.{List}
use native.Mathlib.Omega.{arith}
use Rattle.rules.specs.Book.{Verdict, Refused, Accepted, judge}
use Rattle.laws.specs.Sane.{refused_above}
use Rattle.roll.specs.declared.Roll.{Roll}
use Rattle.roll.specs.Roll.{Rolled, Columns, Left}
use Rattle.sheets.specs.Shown.{IsAccepted}

module _ {s keys starts standings stakes : List ℕ} {r : Roll} {full : Columns} (l : Left s (judge s) full keys starts standings stakes r) where
  pub judged_good : r.refusal.number ≡ 0 → IsAccepted (judge s)
  judged_good z = go (judge s) refl l.rolled
    where
      go : (v : Verdict) → judge s ≡ v → Rolled s v keys starts standings stakes r → IsAccepted v
      go (Refused n place) e h = absurd (let p = refused_above s n place e in let q : r.refusal.number ≡ n = ap (λ (x : Roll). x.refusal.number) h in omega arith)
      go (Accepted terms cs) e h = tt

  pub judged_bad : (r.refusal.number ≡ 0 → ⊥) → judge s ≡ Refused r.refusal.number r.refusal.place
  judged_bad z = go (judge s) refl l.rolled
    where
      go : (v : Verdict) → judge s ≡ v → Rolled s v keys starts standings stakes r → judge s ≡ Refused r.refusal.number r.refusal.place
      go (Refused n place) e h = e ∙ ap (λ (x : Roll). Refused x.refusal.number x.refusal.place) (sym h)
      go (Accepted terms cs) e h = absurd (z (ap (λ x. x.number) h.0))
