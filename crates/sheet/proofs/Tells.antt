-- What is said of a number, and that every status is 0, 1 or 2.
-- Assumes nothing.
use Prim.Native.Nat.{ℕ, ◌≤◌}
use mathlib.Core.Path.{◌≡◌, refl, sym, subst, ◌∙◌}
use mathlib.Core.List.{List}
use native.Mathlib.Omega.{arith}
use native.Mathlib.Nat.{zero-add}
use borrow.Author.Tests.{eq-eqb, ne_eqb}
use lib.ListN.{length}
use mir.Syntax.{w64}
use mir.Val.{Fits}
use Rattle.rules.specs.Text.{bytes}
use Rattle.laws.specs.Digits.{digits_length_20}
use Rattle.writing.specs.Written.{Wrote, written_nothing}
use Rattle.reasons.specs.Reason.{field_at, said}
use Rattle.reasons.specs.Sizes.{reason_short, said_length}
use Rattle.allotment.specs.Listed.{Listed}
use Rattle.sheet.specs.Told.{said_of}

-- a line has room
pub short : (n place f : ℕ) → Fits w64 n → Fits w64 place → length (said (bytes "sheet") n place f) ≤ 256
short n place f h g =
    omega (arith, said_length (bytes "sheet") n place f, reason_short n place f, digits_length_20 n (omega (arith, h)), digits_length_20 place (omega (arith, g)))

-- nothing of an accepted book, and the line of a refusal
pub accepted : (book e : List ℕ) (n place : ℕ) → n ≡ 0 → Listed (said_of book n place) e e 0
accepted book e n place z = rw (eq-eqb n 0 z) (record { buffer = sym (written_nothing 0 e); size = refl; room = omega arith })

pub refused : (book e x : List ℕ) (n place f r : ℕ) → (n ≡ 0 → ⊥) → f ≡ field_at book place → Wrote 0 (said (bytes "sheet") n place f) e x r → r ≤ length e →
    Listed (said_of book n place) e x r
refused book e x n place f r z same w h =
    let line : Wrote 0 (said (bytes "sheet") n place (field_at book place)) e x r = subst (λ (k : ℕ). Wrote 0 (said (bytes "sheet") n place k) e x r) same w in
    rw (ne_eqb n 0 z) (record { buffer = line.whole; size = line.next ∙ zero-add _; room = h })
