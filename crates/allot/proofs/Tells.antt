-- What is told of a book, by its verdict.
-- Assumes nothing.
use Prim.Native.Nat.{ℕ, ◌≤◌}
use mathlib.Core.Path.{◌≡◌, refl, sym, ◌∙◌}
use mathlib.Core.List.{List}
use native.Mathlib.Omega.{arith}
use native.Mathlib.Nat.{zero-add}
use lib.ListN.{length}
use mir.Syntax.{w64}
use mir.Val.{Fits}
use Rattle.rules.specs.Text.{bytes}
use Rattle.rules.specs.Book.{Verdict, Refused, Accepted, judge}
use Rattle.laws.specs.Sane.{refused_above}
use Rattle.laws.specs.Digits.{digits_length_20}
use Rattle.writing.specs.Written.{Wrote, written_nothing}
use Rattle.reasons.specs.Reason.{field_at, said}
use Rattle.reasons.specs.Sizes.{reason_short, said_length}
use Rattle.allotment.specs.Listed.{Judged, Listed}
use Rattle.allot.specs.Told.{status_of, said_of}

-- a line has room
pub short : (n place f : ℕ) → Fits w64 n → Fits w64 place → length (said (bytes "allot") n place f) ≤ 256
short n place f h g =
    omega (arith, said_length (bytes "allot") n place f, reason_short n place f, digits_length_20 n (omega (arith, h)), digits_length_20 place (omega (arith, g)))

-- the line of a refusal
module _ (s e x : List ℕ) (n place r : ℕ) where
  pub refused : (v : Verdict) → Judged v n place → (n ≡ 0 → ⊥) → Wrote 0 (said (bytes "allot") n place (field_at s place)) e x r → r ≤ length e →
      Listed (said_of s v) e x r × (1 ≡ status_of v)
  refused (Refused m at) j z w h = (rw (← j.0, ← j.1) (record { buffer = w.whole; size = w.next ∙ zero-add _; room = h }), refl)
  refused (Accepted terms cs) j z w h = absurd (z j.0)

-- and nothing of an accepted book
pub accepted : (s e : List ℕ) (n place : ℕ) → Judged (judge s) n place → n ≡ 0 → Listed (said_of s (judge s)) e e 0 × (0 ≡ status_of (judge s))
accepted s e n place j z = go (judge s) refl j
  where
    go : (v : Verdict) → judge s ≡ v → Judged v n place → Listed (said_of s v) e e 0 × (0 ≡ status_of v)
    go (Refused m at) k j = absurd (let p = refused_above s m at k in let q : n ≡ m = j.0 in omega arith)
    go (Accepted terms cs) k j = (record { buffer = sym (written_nothing 0 e); size = refl; room = omega arith }, refl)
