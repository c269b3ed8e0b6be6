-- A text that was put at the front of a buffer which it fits is what stands there.
-- Assumes nothing.
use Prim.Native.Nat.{ℕ, ◌≤◌}
use mathlib.Core.Path.{◌≡◌, sym, ap, ◌∙◌}
use mathlib.Core.List.{List}
use native.Mathlib.Omega.{arith}
use native.Mathlib.Nat.{zero-add}
use lib.ListN.{length, take, drop}
use lib.Seq.{take-append_seam}
use Rattle.writing.specs.Written.{Room, Wrote, written_length, written_front}

module _ {s entry exit : List ℕ} {r : ℕ} (w : Wrote 0 s entry exit r) (room : Room 0 s entry) where
  pub size : r ≡ length s
  size = w.next ∙ zero-add (length s)

  pub within : r ≤ length exit
  within = let l : length exit ≡ length entry = ap length w.whole ∙ written_length 0 s entry room in omega (arith, w.next)

  pub front : take r exit ≡ s
  front = rw (size, w.whole, written_front s entry) (take-append_seam s (drop (length s) entry))

  pub front_size : r ≡ length (take r exit)
  front_size = size ∙ sym (ap length front)
